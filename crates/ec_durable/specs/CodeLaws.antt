-- The laws of the codes of records.
use Rattle.std.proofs.Common.{◌≡◌, ℕ, ◌+◌, ◌*◌, ◌≤◌, Bool, true, false, cond, ◌&&◌, eqb, List, [], ◌∷◌, ◌++◌, length, Some, Result, Ok, Err, refl, sym, ap, subst, ◌∙◌, arith, length-append}
use Rattle.std.specs.Prelude.{nat_lt, nat_le, IfOk}
use Rattle.std.specs.List.{flat_map, list_all}
use Rattle.std.proofs.lemmas.List.{append-nil, nil_from_length}
use Rattle.std.proofs.lemmas.Bool.{eqb-true, ltb-false, le-ltb, leb-true, and_parts, and_from}
use Rattle.ec_base.specs.declared.ids.Age.{Age}
use Rattle.ec_volume.specs.Update.{is_sound}
use Rattle.ec_volume.specs.declared.update.Update.{Update}
use Rattle.ec_sessions.specs.Limits.{max_batch_ops}
use Rattle.ec_codes.specs.Formats.{Read, Format, byte, such, rows_fit, variant, nothing}
use Rattle.ec_codes.specs.FormatLaws.{AreBytes, IsFormat, byte-is, such_is, then_is, list_is, variant_is, nothing_is, choice_is, tagged_is}
use Rattle.ec_codes.specs.Fields.{word, long, id}
use Rattle.ec_codes.specs.FieldLaws.{word-is, long-is, id-is}
use Rattle.ec_codes.specs.Clerks.{clerk_field, age_field}
use Rattle.ec_codes.specs.ClerkLaws.{clerk-is, age-is}
use Rattle.ec_codes.specs.Updates.{update_code}
use Rattle.ec_codes.specs.UpdateLaws.{update-is}
use Rattle.ec_codes.specs.SoundLaws.{fits_sound}
use Rattle.ec_codes.specs.LengthLaws.{rows_long, update_long}
use Rattle.ec_codes.specs.declared.fault.CodeFault.{CodeFault}
use Rattle.ec_codes.specs.declared.fault.CodeFault.TheVariants as fault
use Rattle.ec_durable.specs.declared.record.Record.{Record}
use Rattle.ec_durable.specs.declared.record.Record.TheVariants.{Batch, Open, End, Ids, Epoch}
use Rattle.ec_durable.specs.Steps.{AreSound, AreSoundOps}
use Rattle.ec_durable.specs.Codes.{is_op_count, op_fields, ops_field, batch_fields, open_fields, end_fields, ids_fields, tag, is_tag, form, record_code, whole, said}
use Rattle.ec_durable.specs.SoundRecords.{is_sound_record, max_record_code, ReadsRecord}
use Rattle.ec_durable.specs.Codes.{batched, to_batch, opened, to_open, ended, to_end, granted, to_ids, begun, to_epoch}
use Rattle.ec_base.specs.SmallLaws.{same_some, holds}

-- The fields.

op-is : IsFormat op_fields
unfolding op_fields
op-is = then_is long _ long-is (λ op. update-is)

ops-is : IsFormat ops_field
unfolding ops_field
ops-is = list_is (such is_op_count byte) op_fields.spell (λ before. op_fields) (such_is is_op_count byte byte-is) (λ before. op-is) (λ before e. refl)

batch-is : IsFormat batch_fields
unfolding batch_fields
batch-is = then_is clerk_field _ clerk-is (λ c. then_is long _ long-is (λ s. then_is long _ long-is (λ b. ops-is)))

open-is : IsFormat open_fields
unfolding open_fields
open-is = then_is clerk_field _ clerk-is (λ c. then_is age_field _ age-is (λ age. long-is))

end-is : IsFormat end_fields
unfolding end_fields
end-is = then_is clerk_field _ clerk-is (λ c. long-is)

ids-is : IsFormat ids_fields
unfolding ids_fields
ids-is = then_is clerk_field _ clerk-is (λ c. then_is long _ long-is (λ s. then_is word _ word-is (λ got. id-is)))

-- The forms.

abbrev IsTagged : ℕ → Format Record → Type 0
IsTagged t F = (r : Record) → F.fits r ≡ true → tag r ≡ t

choose : (t k : ℕ) (F G : Format Record) (b : Bool) → (b ≡ true → t ≡ k) → IsTagged k F → IsTagged t G → IsTagged t (cond b F G)
choose t k F G true e f g r h = f r h ∙ sym (e refl)
choose t k F G false e f g r h = g r h

tagged_or : (t k : ℕ) (F G : Format Record) → IsTagged k F → IsTagged t G → IsTagged t (cond (eqb t k) F G)
tagged_or t k F G f g = choose t k F G (eqb t k) (eqb-true t k) f g

in_nothing : (t : ℕ) → IsTagged t nothing
in_nothing t r h = absurd cc

batch_back : (r : Record) (x : ℕ × (ℕ × (ℕ × List (ℕ × Update)))) → batched r ≡ Some x → to_batch x ≡ r
batch_back (Batch c s b ops) x e = ap to_batch (sym (same_some _ x e))
batch_back _ x e = absurd cc

in_batch : IsTagged 1 (variant batched to_batch batch_fields)
in_batch (Batch c s b ops) h = refl
in_batch _ h = absurd cc

open_back : (r : Record) (x : ℕ × (Age × ℕ)) → opened r ≡ Some x → to_open x ≡ r
open_back (Open c age s) x e = ap to_open (sym (same_some _ x e))
open_back _ x e = absurd cc

in_open : IsTagged 2 (variant opened to_open open_fields)
in_open (Open c age s) h = refl
in_open _ h = absurd cc

end_back : (r : Record) (x : ℕ × ℕ) → ended r ≡ Some x → to_end x ≡ r
end_back (End c s) x e = ap to_end (sym (same_some _ x e))
end_back _ x e = absurd cc

in_end : IsTagged 3 (variant ended to_end end_fields)
in_end (End c s) h = refl
in_end _ h = absurd cc

ids_back : (r : Record) (x : ℕ × (ℕ × (ℕ × ℕ))) → granted r ≡ Some x → to_ids x ≡ r
ids_back (Ids c s got first) x e = ap to_ids (sym (same_some _ x e))
ids_back _ x e = absurd cc

in_ids : IsTagged 4 (variant granted to_ids ids_fields)
in_ids (Ids c s got first) h = refl
in_ids _ h = absurd cc

epoch_back : (r : Record) (x : ℕ) → begun r ≡ Some x → to_epoch x ≡ r
epoch_back (Epoch n) x e = ap to_epoch (sym (same_some _ x e))
epoch_back _ x e = absurd cc

in_epoch : IsTagged 5 (variant begun to_epoch long)
in_epoch (Epoch n) h = refl
in_epoch _ h = absurd cc

form_is : (t : ℕ) → IsFormat (form t)
unfolding form
form_is t =
    choice_is (eqb t 1) (variant batched to_batch batch_fields) _ (variant_is batched to_batch batch_fields batch-is (λ x. refl) batch_back) (
    choice_is (eqb t 2) (variant opened to_open open_fields) _ (variant_is opened to_open open_fields open-is (λ x. refl) open_back) (
    choice_is (eqb t 3) (variant ended to_end end_fields) _ (variant_is ended to_end end_fields end-is (λ x. refl) end_back) (
    choice_is (eqb t 4) (variant granted to_ids ids_fields) _ (variant_is granted to_ids ids_fields ids-is (λ x. refl) ids_back) (
    choice_is (eqb t 5) (variant begun to_epoch long) _ (variant_is begun to_epoch long long-is (λ x. refl) epoch_back) (
    nothing_is)))))

form_tags : (t : ℕ) → IsTagged t (form t)
unfolding form
form_tags t =
    tagged_or t 1 (variant batched to_batch batch_fields) _ in_batch (
    tagged_or t 2 (variant opened to_open open_fields) _ in_open (
    tagged_or t 3 (variant ended to_end end_fields) _ in_end (
    tagged_or t 4 (variant granted to_ids ids_fields) _ in_ids (
    tagged_or t 5 (variant begun to_epoch long) _ in_epoch (
    in_nothing t)))))

pub record-is : IsFormat record_code
unfolding record_code
record-is = tagged_is is_tag tag form form_is form_tags

-- Whole records.

ended_there : (b : Bool) (f : CodeFault) (l m : Record) → ◌≡◌ {A = Result Record CodeFault} (cond b (Err f) (Ok l)) (Ok m) → (b ≡ false) × (l ≡ m)
ended_there true f l m e = absurd cc
ended_there false f l m e = (refl, cc)

whole_ok : (len : ℕ) (r : Read Record) (m : Record) → whole len r ≡ Ok m → (next : ℕ) × (r ≡ Ok (m, next)) × (len ≤ next)
whole_ok len (Err e) m h = absurd cc
whole_ok len (Ok x) m h =
    let g = ended_there (nat_lt x.1 len) (fault.Field x.1) x.0 m h in
    (x.1, ap (λ l. Ok (l, x.1)) g.1, ltb-false _ _ g.0)

pub said_ok : (bytes : List ℕ) (m : Record) → AreBytes bytes → said bytes ≡ Ok m → (record_code.fits m ≡ true) × (bytes ≡ record_code.spell m)
unfolding said
said_ok bytes m ok h =
    let w = whole_ok (length bytes) (record_code.read bytes 0) m h in
    let s = record-is.takes bytes 0 m w.0 ok w.1 in
    let len : length bytes ≡ length (record_code.spell m) + length s.stands.0 = ap length s.stands.1 ∙ length-append (record_code.spell m) s.stands.0 in
    let over : length bytes ≤ w.0 = w.2 in
    let here : w.0 ≡ 0 + length (record_code.spell m) = s.behind in
    let rest : s.stands.0 ≡ [] = nil_from_length s.stands.0 (omega arith) in
    (s.fits, s.stands.1 ∙ ap (λ r. record_code.spell m ++ r) rest ∙ append-nil (record_code.spell m))

pub said_again : (m : Record) → record_code.fits m ≡ true → said (record_code.spell m) ≡ Ok m
unfolding said
said_again m fits =
    let bytes = record_code.spell m in
    let read : record_code.read bytes 0 ≡ Ok (m, 0 + length bytes) = record-is.again bytes 0 m fits ([], sym (append-nil bytes)) in
    let over : nat_lt (0 + length bytes) (length bytes) ≡ false = le-ltb _ _ (omega arith) in
    rw (read, over) refl

pub is_found : (bytes : List ℕ) (r : Result Record CodeFault) → AreBytes bytes → ReadsRecord r (said bytes) → IfOk r (λ m. (record_code.fits m ≡ true) × (bytes ≡ record_code.spell m))
is_found bytes (Ok m) ok h = said_ok bytes m ok h
is_found bytes (Err e) ok h = tt

pub is_only : (bytes : List ℕ) (r : Result Record CodeFault) → ReadsRecord r (said bytes) → (m : Record) → record_code.fits m ≡ true → bytes ≡ record_code.spell m → ReadsRecord r (Ok m)
is_only bytes r h m fits e = subst (λ x. ReadsRecord r x) (ap said e ∙ said_again m fits) h

-- What has a code is sound.

pub rows_all : {A : Type 0} (F : Format A) (before xs : List A) → rows_fit (λ seen. F) before xs ≡ list_all F.fits xs
rows_all F before [] = refl
rows_all F before (x ∷ xs) = ap (λ b. F.fits x && b) (rows_all F (before ++ x ∷ []) xs)

each_sound : (ops : List (ℕ × Update)) → list_all op_fields.fits ops ≡ true → list_all (λ op. is_sound op.1) ops ≡ true
unfolding op_fields
each_sound [] h = refl
each_sound (op ∷ ops) h =
    let a = and_parts (op_fields.fits op) (list_all op_fields.fits ops) h in
    let b = and_parts (long.fits op.0) (update_code.fits op.1) a.0 in
    and_from _ _ (fits_sound op.1 b.1) (each_sound ops a.1)

ops_parts : (ops : List (ℕ × Update)) → ops_field.fits ops ≡ true → (is_op_count (length ops) ≡ true) × (list_all op_fields.fits ops ≡ true)
unfolding ops_field
ops_parts ops h =
    let a = and_parts ((such is_op_count byte).fits (length ops)) _ h in
    let b = and_parts (byte.fits (length ops)) (is_op_count (length ops)) a.0 in
    (b.1, sym (rows_all op_fields [] ops) ∙ a.1)

batch_parts : (c s b : ℕ) (ops : List (ℕ × Update)) → record_code.fits (Batch c s b ops) ≡ true → ops_field.fits ops ≡ true
unfolding record_code form batch_fields
batch_parts c s b ops h =
    let p = and_parts (clerk_field.fits c) _ h in
    let q = and_parts (long.fits s) _ p.1 in
    (and_parts (long.fits b) (ops_field.fits ops) q.1).1

pub fits_sound_record : (r : Record) → record_code.fits r ≡ true → is_sound_record r ≡ true
fits_sound_record (Batch c s b ops) h = let p = ops_parts ops (batch_parts c s b ops h) in and_from _ _ p.0 (each_sound ops p.1)
fits_sound_record (Open c age s) h = refl
fits_sound_record (End c s) h = refl
fits_sound_record (Ids c s got first) h = refl
fits_sound_record (Epoch n) h = refl

ops_step : (ops : List (ℕ × Update)) → list_all (λ op. is_sound op.1) ops ≡ true → AreSoundOps ops
ops_step [] h = tt
ops_step (op ∷ ops) h = let a = and_parts (is_sound op.1) _ h in (holds _ a.0, ops_step ops a.1)

pub sound_steps : (r : Record) → is_sound_record r ≡ true → AreSound r
sound_steps (Batch c s b ops) h = ops_step ops (and_parts (is_op_count (length ops)) _ h).1
sound_steps (Open c age s) h = tt
sound_steps (End c s) h = tt
sound_steps (Ids c s got first) h = tt
sound_steps (Epoch n) h = tt

pub found_sound : (bytes : List ℕ) (r : Result Record CodeFault) → IfOk r (λ m. (record_code.fits m ≡ true) × (bytes ≡ record_code.spell m)) → IfOk r (λ m. (is_sound_record m ≡ true) × AreSound m)
found_sound bytes (Ok m) h = let s = fits_sound_record m h.0 in (s, sound_steps m s)
found_sound bytes (Err e) h = tt

-- No record's code is longer than the bound.

op_long : (op : ℕ × Update) → op_fields.fits op ≡ true → length (op_fields.spell op) ≤ 4116
unfolding op_fields long
op_long op h =
    let a = and_parts (long.fits op.0) (update_code.fits op.1) h in
    let most : length (update_code.spell op.1) ≤ 4108 = update_long op.1 a.1 in
    omega (arith, most)

ops_long : (ops : List (ℕ × Update)) → ops_field.fits ops ≡ true → length (ops_field.spell ops) ≤ 263425
unfolding ops_field
ops_long ops h =
    let p = ops_parts ops h in
    let few = and_parts (nat_le 1 (length ops)) (nat_le (length ops) max_batch_ops) p.0 in
    let rows : length (flat_map op_fields.spell ops) ≤ 64 * 4116 = rows_long op_fields.spell op_fields.fits 4116 op_long 64 ops p.1 (leb-true _ _ few.1) in
    omega (arith, rows)

pub record_long : (r : Record) → record_code.fits r ≡ true → length (record_code.spell r) ≤ max_record_code
unfolding record_code form batch_fields open_fields end_fields ids_fields clerk_field age_field long word id
record_long (Batch c s b ops) h = omega (arith, ops_long ops (batch_parts c s b ops h))
record_long (Open c age s) h = omega arith
record_long (End c s) h = omega arith
record_long (Ids c s got first) h = omega arith
record_long (Epoch n) h = omega arith

pub short_code : (r : Record) (old new : List ℕ) → old ≡ [] → (new ≡ old ++ record_code.spell r) × (record_code.fits r ≡ true) → length new ≤ max_record_code
short_code r old new empty w = subst (λ l. length l ≤ max_record_code) (sym (w.0 ∙ ap (λ l. l ++ record_code.spell r) empty)) (record_long r w.1)
