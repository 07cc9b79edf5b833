-- The laws of the bytes of tables.
use Rattle.std.proofs.Common.{◌≡◌, ℕ, suc, ◌+◌, ◌-◌, ◌≤◌, ◌<◌, Bool, true, false, cond, ltb, eqb, List, [], ◌∷◌, ◌++◌, length, take, drop, get_or, Option, Some, None, Ok, Err, refl, sym, ap, subst, ◌∙◌, arith, append_assoc, length-append, length-take}
use Rattle.std.specs.Prelude.{nat_lt, nat_le}
use Rattle.std.specs.Int.{w32, to_be_bytes, from_be_bytes}
use Rattle.std.proofs.lemmas.Bool.{eqb-true, eq-eqb, ltb-false, le-ltb, lt-ltb, leb-true, and_parts, and_from}
use Rattle.std.proofs.lemmas.List.{append-nil, take_at, take-append-drop, drop-take}
use Rattle.ec_base.specs.Limits.{clerk_count}
use Rattle.ec_base.specs.declared.ids.Age.{Age}
use Rattle.ec_sessions.specs.declared.slot.Slot.{Slot}
use Rattle.ec_codes.specs.Formats.{Format, missing, ◌>>=◌, byte, such, variant, nothing, empty}
use Rattle.ec_codes.specs.Spelling.{StandsAt, Spells}
use Rattle.ec_codes.specs.FormatLaws.{AreBytes, IsFormat, bind_ok, guard_ok, ok_is, stands_first, stands_second, stand_both, byte-is, such_is, then_is, standing_is, list_is, variant_is, nothing_is, empty-is, choice_is, tagged_is, are_taken}
use Rattle.ec_codes.specs.Fields.{word, long, id, is_from_one, id_or_none}
use Rattle.ec_codes.specs.FieldLaws.{word-is, long-is, id-is, victim_back, victim_forth}
use Rattle.ec_codes.specs.Clerks.{age_field}
use Rattle.ec_codes.specs.ClerkLaws.{age-is}
use Rattle.ec_codes.specs.declared.fault.CodeFault.TheVariants as fault
use Rattle.ec_journal.specs.OfLayout.Places.{table_bytes}
use Rattle.ec_stands.specs.declared.table.table.Table.{Table}
use Rattle.ec_stands.specs.declared.table.table.Version.{Version}
use Rattle.ec_stands.specs.declared.table.table.Version.TheVariants.{One, Two}
use Rattle.ec_stands.specs.OfTable.Codes.{last_first_field, last_row, is_behind, is_above, id_above, ids_field, slot_fields, slot_tag, fields_of, slot_of, never, to_never, held, slot_form, slot_code, always, slots_field, ids_in, numbers_in, is_free, place_after, place_spell, places_field, state_fields, parts_of, table_of, state_code, ends_at, in_size, sized, max_old_state, max_new_state, old_table, new_table, Versioned, spell_version, fits_version, in_version, read_version, table_code}
use Rattle.ec_base.specs.SmallLaws.{same_some}
use Rattle.ec_base.specs.Options.{or_zero}

-- A slot of a clerk.

last_first-is : IsFormat last_first_field
unfolding last_first_field
last_first-is = standing_is or_zero is_from_one id_or_none word word-is victim_back victim_forth

id_above_is : (before : List ℕ) → IsFormat (id_above before)
unfolding id_above
id_above_is before = such_is (is_above before) id id-is

id_above_spell : (before : List ℕ) (n : ℕ) → (id_above before).spell n ≡ id.spell n
unfolding id_above
id_above_spell before n = refl

ids-is : IsFormat ids_field
unfolding ids_field
ids-is = list_is word id.spell id_above word-is id_above_is id_above_spell

slot_fields-is : IsFormat slot_fields
unfolding slot_fields
slot_fields-is =
    then_is age_field _ age-is (λ age. then_is long _ long-is (λ session. then_is long _ long-is (λ low. then_is byte _ byte-is (λ mask. then_is word _ word-is (λ grants. then_is last_first_field _ last_first-is (λ first. ids-is))))))

never_back : (s : Option Slot) (u : Unit {0}) → never s ≡ Some u → to_never u ≡ s
never_back None u e = refl
never_back (Some sl) u e = absurd cc

held_forth : (b : Bool) (p : Age × (ℕ × (ℕ × (ℕ × (ℕ × (Option ℕ × List ℕ)))))) → held b (slot_of b p) ≡ Some p
held_forth true p = refl
held_forth false p = refl

held_back : (b : Bool) (s : Option Slot) (p : Age × (ℕ × (ℕ × (ℕ × (ℕ × (Option ℕ × List ℕ)))))) → held b s ≡ Some p → slot_of b p ≡ s
held_back b None p e = absurd cc
held_back true (Some sl) p e = go sl.is_open refl e
  where
    go : (o : Bool) → sl.is_open ≡ o → cond o (Some (fields_of sl)) None ≡ Some p → slot_of true p ≡ Some sl
    go true is h = ap (slot_of true) (sym (same_some (fields_of sl) p h)) ∙ ap (λ o. Some (record sl { is_open = o })) (sym is)
    go false is h = absurd cc
held_back false (Some sl) p e = go sl.is_open refl e
  where
    go : (o : Bool) → sl.is_open ≡ o → cond o None (Some (fields_of sl)) ≡ Some p → slot_of false p ≡ Some sl
    go true is h = absurd cc
    go false is h = ap (slot_of false) (sym (same_some (fields_of sl) p h)) ∙ ap (λ o. Some (record sl { is_open = o })) (sym is)

slot_form_is : (t : ℕ) → IsFormat (slot_form t)
unfolding slot_form
slot_form_is t =
    choice_is (eqb t 0) (variant never to_never empty) _ (variant_is never to_never empty empty-is (λ u. refl) never_back) (
    choice_is (eqb t 1) (variant (held true) (slot_of true) slot_fields) _ (variant_is (held true) (slot_of true) slot_fields slot_fields-is (held_forth true) (held_back true)) (
    choice_is (eqb t 2) (variant (held false) (slot_of false) slot_fields) _ (variant_is (held false) (slot_of false) slot_fields slot_fields-is (held_forth false) (held_back false)) (
    nothing_is)))

abbrev IsSlotTagged : ℕ → Format (Option Slot) → Type 0
IsSlotTagged t F = (s : Option Slot) → F.fits s ≡ true → slot_tag s ≡ t

slot_tagged_or : (t k : ℕ) (F G : Format (Option Slot)) → IsSlotTagged k F → IsSlotTagged t G → IsSlotTagged t (cond (eqb t k) F G)
slot_tagged_or t k F G f g = choose (eqb t k) (eqb-true t k)
  where
    choose : (b : Bool) → (b ≡ true → t ≡ k) → IsSlotTagged t (cond b F G)
    choose true e s h = f s h ∙ sym (e refl)
    choose false e s h = g s h

in_never : IsSlotTagged 0 (variant never to_never empty)
in_never None h = refl
in_never (Some sl) h = absurd cc

in_open : IsSlotTagged 1 (variant (held true) (slot_of true) slot_fields)
in_open None h = absurd cc
in_open (Some sl) h = go sl.is_open refl h
  where
    go : (o : Bool) → sl.is_open ≡ o → elim (cond o (Some (fields_of sl)) None) as (λ z. Bool) [ None ↦ false | Some x ↦ slot_fields.fits x ] ≡ true → slot_tag (Some sl) ≡ 1
    go true is k = rw is refl
    go false is k = absurd cc

in_ended : IsSlotTagged 2 (variant (held false) (slot_of false) slot_fields)
in_ended None h = absurd cc
in_ended (Some sl) h = go sl.is_open refl h
  where
    go : (o : Bool) → sl.is_open ≡ o → elim (cond o None (Some (fields_of sl))) as (λ z. Bool) [ None ↦ false | Some x ↦ slot_fields.fits x ] ≡ true → slot_tag (Some sl) ≡ 2
    go true is k = absurd cc
    go false is k = rw is refl

slot_in_nothing : (t : ℕ) → IsSlotTagged t nothing
slot_in_nothing t s h = absurd cc

slot_form_tags : (t : ℕ) → IsSlotTagged t (slot_form t)
unfolding slot_form
slot_form_tags t =
    slot_tagged_or t 0 (variant never to_never empty) _ in_never (
    slot_tagged_or t 1 (variant (held true) (slot_of true) slot_fields) _ in_open (
    slot_tagged_or t 2 (variant (held false) (slot_of false) slot_fields) _ in_ended (
    slot_in_nothing t)))

pub slot-is : IsFormat slot_code
unfolding slot_code
slot-is = tagged_is (λ t. nat_le t 2) slot_tag slot_form slot_form_is slot_form_tags

always_is : (n : ℕ) → IsFormat (always n)
always_is n = record {
  takes = λ bytes at m next ok e.
      let p = ok_is (n, at) (m, next) e in
      record {
        fits = ap (λ x. eqb x n) (sym (ap (λ x. x.0) p)) ∙ eq-eqb n n refl;
        stands = (drop at bytes, refl);
        behind = omega (arith, ap (λ x. x.1) p);
      };
  again = λ bytes at m fits h. ap (λ k. Ok (k, at)) (sym (eqb-true m n fits)) ∙ ap (λ k. Ok (m, k)) (omega arith);
}

pub slots-is : IsFormat slots_field
unfolding slots_field
slots-is = list_is (always clerk_count) slot_code.spell (λ before. slot_code) (always_is clerk_count) (λ before. slot-is) (λ before s. refl)

-- Where the images stand.

place_after_is : (most : ℕ) (before : List (ℕ × ℕ)) → IsFormat (place_after most before)
unfolding place_after
place_after_is most before = then_is (id_above (ids_in before)) _ (id_above_is (ids_in before)) (λ o. such_is (is_free most (numbers_in before)) word word-is)

place_after_spell : (most : ℕ) (before : List (ℕ × ℕ)) (p : ℕ × ℕ) → (place_after most before).spell p ≡ place_spell p
unfolding place_after place_spell id_above
place_after_spell most before p = refl

pub places_is : (most : ℕ) → IsFormat (places_field most)
unfolding places_field
places_is most = list_is word place_spell (place_after most) word-is (place_after_is most) (place_after_spell most)

-- The state.

pub state_is : (most : ℕ) → IsFormat (state_code most)
unfolding state_code state_fields
state_is most =
    standing_is parts_of (λ t. true) (λ p. Some (table_of p)) (state_fields most)
    (then_is word _ word-is (λ next. then_is long _ long-is (λ session. then_is long _ long-is (λ epoch. then_is slots_field _ slots-is (λ slots. places_is most)))))
    (λ t h. refl)
    (λ p t e. (ap parts_of (sym (same_some _ t e)), refl))

-- A length, and a value in so many bytes.

pub sized_is : {A : Type 0} (limit : ℕ) (F : Format A) → ((n : ℕ) → nat_le n limit ≡ true → word.fits n ≡ true) → IsFormat F → IsFormat (sized limit F)
sized_is limit F small law = record {
  takes = λ bytes at x next ok e.
      let few : ℕ → Bool = λ n. nat_le n limit in
      let a = bind_ok ((such few word).read bytes at) (in_size F bytes) (x, next) e in
      let n = a.0.0 in
      let start = a.0.1 in
      let s = (such_is few word word-is).takes bytes at n start ok a.1 in
      let b = bind_ok (F.read (take (start + n) bytes) start) (ends_at (start + n)) (x, next) a.2 in
      let g = guard_ok (ltb b.0.1 (start + n)) (fault.Field b.0.1) b.0 (x, next) b.2 in
      let t = law.takes (take (start + n) bytes) start x next (are_taken (start + n) bytes ok) (b.1 ∙ ap (λ y. Ok y) g.1) in
      let body = F.spell x in
      let cut : take n (drop start bytes) ≡ body ++ t.stands.0 = sym (drop-take start n bytes) ∙ t.stands.1 in
      let over : start + n ≤ next = subst (λ y. start + n ≤ y.1) g.1 (ltb-false _ _ g.0) in
      let len : length body ≡ n = omega (arith, t.behind, over, ap length cut, length-append body t.stands.0, length-take n (drop start bytes)) in
      let there : StandsAt bytes start body =
      (t.stands.0 ++ drop n (drop start bytes), sym (take-append-drop n (drop start bytes)) ∙ ap (λ u. u ++ drop n (drop start bytes)) cut ∙ append_assoc body t.stands.0 (drop n (drop start bytes))) in
      let f = and_parts (word.fits n) (nat_le n limit) s.fits in
      record {
        fits = and_from _ _ t.fits (subst (λ k. nat_le k limit ≡ true) (sym len) f.1);
        stands = stand_both bytes at (word.spell (length body)) body (subst (λ k. StandsAt bytes at (word.spell k)) (sym len) s.stands) (subst (λ k. StandsAt bytes k body) (s.behind ∙ ap (λ k. at + length (word.spell k)) (sym len)) there);
        behind = t.behind ∙ ap (λ k. k + length body) (s.behind ∙ ap (λ k. at + length (word.spell k)) (sym len)) ∙ omega (arith, length-append (word.spell (length body)) body);
      };
  again = λ bytes at x fits h.
      let few : ℕ → Bool = λ n. nat_le n limit in
      let body = F.spell x in
      let n = length body in
      let s = word.spell n in
      let f = and_parts (F.fits x) (nat_le n limit) fits in
      let one = (such_is few word word-is).again bytes at n (and_from _ _ (small n f.1) f.1) (stands_first bytes at s body h) in
      let start = at + length s in
      let there = stands_second bytes at s body h in
      let cut : drop start (take (start + n) bytes) ≡ body = drop-take start n bytes ∙ ap (take n) there.1 ∙ take_at body there.0 n refl in
      let two = law.again (take (start + n) bytes) start x f.0 ([], cut ∙ sym (append-nil body)) in
      let test : nat_lt (start + n) (start + n) ≡ false = le-ltb _ _ (omega arith) in
      let place : start + n ≡ at + length (s ++ body) = omega (arith, length-append s body) in
      ap (λ r. r >>= in_size F bytes) one
      ∙ ap (λ r. r >>= ends_at (start + n)) two
      ∙ ap (λ b. cond b (Err (fault.Field (start + n))) (Ok (x, start + n))) test
      ∙ ap (λ m. Ok (x, m)) place;
}

-- A table.

in_word : (limit : ℕ) → limit ≤ table_bytes → (n : ℕ) → nat_le n limit ≡ true → word.fits n ≡ true
unfolding word
in_word limit le n h = lt-ltb _ _ (omega (arith, le, leb-true n limit h))

pub old_is : (most : ℕ) → IsFormat (old_table most)
unfolding old_table
old_is most = sized_is max_old_state (state_code most) (in_word max_old_state (omega arith)) (state_is most)

pub new_is : (most : ℕ) → IsFormat (new_table most)
unfolding new_table
new_is most = sized_is max_new_state (state_code most) (in_word max_new_state (omega arith)) (state_is most)

zero_first : (n : ℕ) → n ≤ table_bytes → (rest : List ℕ) × (word.spell n ≡ 0 ∷ rest)
unfolding word
zero_first n le = (drop 1 (to_be_bytes w32 n), ap (λ k. k ∷ drop 1 (to_be_bytes w32 n)) (omega (arith, le)))

old_first : (most : ℕ) (t : Table) → (old_table most).fits t ≡ true → (rest : List ℕ) × ((old_table most).spell t ≡ 0 ∷ rest)
unfolding old_table
old_first most t h =
    let body = (state_code most).spell t in
    let f = and_parts ((state_code most).fits t) (nat_le (length body) max_old_state) h in
    let z = zero_first (length body) (omega (arith, leb-true _ _ f.1)) in
    (z.0 ++ body, ap (λ s. s ++ body) z.1)

spelled_in : (most : ℕ) (v : Version) (bytes : List ℕ) (at : ℕ) (t : Table) (next : ℕ) (x : Versioned) (end : ℕ) → Spells (table_code most) bytes at (v, t) next → in_version v (t, next) ≡ Ok (x, end) → Spells (table_code most) bytes at x end
spelled_in most v bytes at t next x end s e = subst (λ y. Spells (table_code most) bytes at y.0 y.1) (ok_is ((v, t), next) (x, end) e) s

version_takes : (most : ℕ) (bytes : List ℕ) (at : ℕ) (b : ℕ × ℕ) (x : Versioned) (next : ℕ) → AreBytes bytes → Spells byte bytes at b.0 b.1 → (p q : Bool) → eqb b.0 0 ≡ p → eqb b.0 2 ≡ q
    → cond p ((old_table most).read bytes at >>= in_version One) (cond q ((new_table most).read bytes b.1 >>= in_version Two) (Err (fault.Field at))) ≡ Ok (x, next) → Spells (table_code most) bytes at x next
unfolding table_code
version_takes most bytes at b x next ok s true q is or e =
    let a = bind_ok ((old_table most).read bytes at) (in_version One) (x, next) e in
    let t = (old_is most).takes bytes at a.0.0 a.0.1 ok a.1 in
    spelled_in most One bytes at a.0.0 a.0.1 x next (record { fits = t.fits; stands = t.stands; behind = t.behind }) a.2
version_takes most bytes at b x next ok s false true is or e =
    let a = bind_ok ((new_table most).read bytes b.1) (in_version Two) (x, next) e in
    let t = (new_is most).takes bytes b.1 a.0.0 a.0.1 ok a.1 in
    let body = (new_table most).spell a.0.0 in
    let two : b.0 ≡ 2 = eqb-true b.0 2 or in
    let front : StandsAt bytes at (2 ∷ []) = subst (λ k. StandsAt bytes at (k ∷ [])) two s.stands in
    spelled_in most Two bytes at a.0.0 a.0.1 x next (record {
      fits = t.fits;
      stands = stand_both bytes at (2 ∷ []) body front (subst (λ k. StandsAt bytes k body) s.behind t.stands);
      behind = omega (arith, t.behind, s.behind);
    }) a.2
version_takes most bytes at b x next ok s false false is or e = absurd cc

version_again : (most : ℕ) (bytes : List ℕ) (at : ℕ) (v : Version) (t : Table) → fits_version most v t ≡ true → StandsAt bytes at (spell_version most v t) → (table_code most).read bytes at ≡ Ok ((v, t), at + length (spell_version most v t))
unfolding table_code read_version
version_again most bytes at One t fits h =
    let z = old_first most t fits in
    let front = stands_first bytes at (0 ∷ []) z.0 (subst (StandsAt bytes at) z.1 h) in
    let one = byte-is.again bytes at 0 refl front in
    let two = (old_is most).again bytes at t fits h in
    ap (λ r. r >>= read_version most bytes at) one ∙ ap (λ r. r >>= in_version One) two
version_again most bytes at Two t fits h =
    let body = (new_table most).spell t in
    let one = byte-is.again bytes at 2 refl (stands_first bytes at (2 ∷ []) body h) in
    let two = (new_is most).again bytes (at + 1) t fits (stands_second bytes at (2 ∷ []) body h) in
    ap (λ r. r >>= read_version most bytes at) one ∙ ap (λ r. r >>= in_version Two) two ∙ ap (λ k. Ok ((Two, t), k)) (omega arith)

pub table_is : (most : ℕ) → IsFormat (table_code most)
unfolding table_code read_version
table_is most = record {
  takes = λ bytes at x next ok e.
      let a = bind_ok (byte.read bytes at) (read_version most bytes at) (x, next) e in
      version_takes most bytes at a.0 x next ok (byte-is.takes bytes at a.0.0 a.0.1 ok a.1) (eqb a.0.0 0) (eqb a.0.0 2) refl refl a.2;
  again = λ bytes at x fits h. version_again most bytes at x.0 x.1 fits h;
}

-- The last of those before.

last_got : {A : Type 0} (xs : List A) (d : A) → 0 < length xs → last_row xs ≡ Some (get_or xs (length xs - 1) d)
last_got [] d lt = absurd (omega arith)
last_got (x ∷ []) d lt = refl
last_got (x ∷ y ∷ xs) d lt =
    let k : length (x ∷ y ∷ xs) - 1 ≡ suc (length (y ∷ xs) - 1) = omega arith in
    last_got (y ∷ xs) d (omega arith) ∙ ap (λ i. Some (get_or (x ∷ y ∷ xs) i d)) (sym k)

pub above_last : (before : List ℕ) (b n : ℕ) → 0 < length before → b ≡ get_or before (length before - 1) b → is_above before n ≡ nat_lt b n
above_last before b n lt h = ap (λ o. is_behind o n) (last_got before b lt ∙ ap (λ x. Some x) (sym h))

last_in : (places : List (ℕ × ℕ)) (p : ℕ × ℕ) → last_row places ≡ Some p → last_row (ids_in places) ≡ Some p.0
last_in [] p h = absurd cc
last_in (q ∷ []) p h = ap (λ x. Some x.0) (same_some q p h)
last_in (q ∷ r ∷ places) p h = last_in (r ∷ places) p h

pub above_place : (places : List (ℕ × ℕ)) (p : ℕ × ℕ) (n : ℕ) → 0 < length places → p ≡ get_or places (length places - 1) p → is_above (ids_in places) n ≡ nat_lt p.0 n
above_place places p n lt h = ap (λ o. is_behind o n) (last_in places p (last_got places p lt ∙ ap (λ x. Some x) (sym h)))

-- where a word ends
pub word_end : (bytes : List ℕ) (at n next : ℕ) → word.read bytes at ≡ Ok (n, next) → next ≤ length bytes
unfolding word
word_end bytes at n next e =
    let g = guard_ok (ltb (length bytes) (at + 4)) (fault.Short (missing bytes at)) (from_be_bytes w32 (take 4 (drop at bytes)), at + 4) (n, next) e in
    subst (λ k. k ≤ length bytes) (ap (λ (p : ℕ × ℕ). p.1) g.1) (ltb-false _ _ g.0)
