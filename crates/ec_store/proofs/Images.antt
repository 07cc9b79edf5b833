-- Images that a record leaves alone, and images that have a code.
use Rattle.std.proofs.Common.{◌≡◌, ℕ, zero, suc, ◌+◌, Bool, true, false, cond, List, [], ◌∷◌, length, Option, None, Some, Result, Ok, Err, refl, sym, ap, subst, ◌∙◌, ⊎_elim}
use Rattle.std.specs.Prelude.{◌==◌, ◌&&◌, T, not, nat_le, unwrap_or, slice_get}
use Rattle.std.specs.List.{list_all, flat_map}
use Rattle.std.specs.Ordering.{nat_cmp}
use Rattle.std.specs.Cmp.{nat_cmp_total}
use Rattle.std.specs.Cmp.Lexicographic.{nat_list_cmp_total}
use Rattle.std.specs.declared.cmp.Ordering.TheVariants.{Less, Equal}
use Rattle.std.specs.FinMap.{is_sorted}
use Rattle.std.specs.FinMap.Entries.{below_all}
use Rattle.std.proofs.lemmas.Bool.{and_parts, and_from}
use Rattle.std.proofs.lemmas.Cmp.{tied_itself}
use Rattle.std.proofs.lemmas.List.Folds.{list_any-append}
use Rattle.std.proofs.lemmas.Option.{get_or_from_slice_get, slice_get_within}
use Rattle.ec_base.specs.SortedLaws.{first, second, found_at, below_each}
use Rattle.ec_base.specs.Tables.{Table}
use Rattle.ec_volume.specs.Image.{is_gone, entries_of}
use Rattle.ec_volume.specs.Entries.{Entries, by_bytes, entry}
use Rattle.ec_volume.specs.Update.{member, distinct, operands, is_sound, effect}
use Rattle.ec_volume.specs.Volume as volume
use Rattle.ec_volume.specs.Held.{IsVolume, is_held, changed}
use Rattle.ec_volume.specs.declared.image.Image.{Image}
use Rattle.ec_volume.specs.declared.image.Image.TheVariants.{Gone, File, Dir}
use Rattle.ec_volume.specs.declared.update.Update.{Update}
use Rattle.ec_volume.proofs.Held.{images_find, held_live}
use Rattle.ec_volume.proofs.Changed.{changed_images}
use Rattle.ec_codes.specs.Images.{ids_under}
use Rattle.ec_codes.specs.SoundImages.{is_sound_image}
use Rattle.ec_sessions.specs.Slots as slots
use Rattle.ec_durable.specs.declared.state.Durable.{Durable}
use Rattle.ec_durable.specs.declared.record.Record.{Record}
use Rattle.ec_durable.specs.declared.record.Record.TheVariants.{Batch, Open, End, Ids, Epoch}
use Rattle.ec_durable.specs.declared.record.RecordFault.{RecordFault}
use Rattle.ec_durable.specs.declared.record.RecordFault.TheVariants.{NoSession, Done, Beyond, BadAge, BadNumber, NoRoom}
use Rattle.ec_durable.specs.Durable.{step, slot, live, reserved, is_full, is_session, with_slot, op_fault, carried_out, operations, low, has_batch, is_beyond, marked, is_next_grant, is_next_session}
use Rattle.ec_durable.specs.Steps.{AreSound, AreSoundOps}
use Rattle.ec_durable.proofs.Batches.{same_Ok, not_Ok}
use Rattle.ec_store.specs.Places.{touched}
use Rattle.ec_store.proofs.Members.{same_some, member_cases}
use Rattle.ec_base.proofs.Bools.{or_none, is-true as told}

-- What each step of a record keeps, records keep: it doesn't speak of sessions and numbers, and such updates keep it.
abbrev pub EachOp : (Update → Type 0) → List (ℕ × Update) → Type 0
EachOp Q [] = Unit {0}
EachOp Q (op ∷ ops) = Q op.1 × EachOp Q ops

abbrev pub EachUpdate : (Update → Type 0) → Record → Type 0
EachUpdate Q (Batch c s b ops) = EachOp Q ops
EachUpdate Q (Open c age s) = Unit {0}
EachUpdate Q (End c s) = Unit {0}
EachUpdate Q (Ids c s got f) = Unit {0}
EachUpdate Q (Epoch n) = Unit {0}

module _ (P : Table Image → ℕ → Type 0) (Q : Update → Type 0) (keeps : (u : Update) (es : Table Image) (m : ℕ) → Q u → P es m → P (changed u es) m) where
  abbrev HasIt : Durable → Type 0
  HasIt d = P d.volume d.max_objects

  operations_keep : (c : ℕ) (ops : List (ℕ × Update)) (d e : Durable) → EachOp Q ops → HasIt d → operations c ops d ≡ Ok e → HasIt e
  operations_keep c [] d e q h is = subst HasIt (same_Ok is) h
  operations_keep c (op ∷ ops) d e q h is = go (op_fault c op.0 op.1 d) is (operations_keep c ops (carried_out c op.1 d) e q.1 (keeps op.1 d.volume d.max_objects q.0 h))
    where
      go : (f : Option RecordFault) → (elim f as (λ z. Result Durable RecordFault) [ Some fault ↦ Err fault | None ↦ operations c ops (carried_out c op.1 d) ]) ≡ Ok e
          → (operations c ops (carried_out c op.1 d) ≡ Ok e → HasIt e) → HasIt e
      go (Some fault) s rest = absurd (not_Ok s)
      go None s rest = rest s

  pub step_keeps : (r : Record) (d e : Durable) → EachUpdate Q r → HasIt d → step r d ≡ Ok e → HasIt e
  step_keeps (Batch c s b ops) d e q w is = go (is_session s (slot d c)) (has_batch b (slot d c)) (is_beyond b (slot d c)) (operations c ops d) refl is
    where
      go : (x y z : Bool) (r : Result Durable RecordFault) → operations c ops d ≡ r
          → (elim x as (λ w. Result Durable RecordFault) [
            | false ↦ Err NoSession
            | true ↦ elim y as (λ w. Result Durable RecordFault) [
              | true ↦ Err (Done b)
              | false ↦ elim z as (λ w. Result Durable RecordFault) [
                | true ↦ Err (Beyond (low (slot d c)))
                | false ↦ elim r as (λ w. Result Durable RecordFault) [ Err fault ↦ Err fault | Ok m ↦ Ok (marked c b m) ]
              ]
            ]
          ]) ≡ Ok e → HasIt e
      go false y z r p is = absurd (not_Ok is)
      go true true z r p is = absurd (not_Ok is)
      go true false true r p is = absurd (not_Ok is)
      go true false false (Err fault) p is = absurd (not_Ok is)
      go true false false (Ok m) p is = subst HasIt (same_Ok is) (operations_keep c ops d m q w p)
  step_keeps (Open c age s) d e q w is = go (slots.is_greater (slot d c) age) (is_next_session s d) is
    where
      go : (x y : Bool)
          → (elim x as (λ w. Result Durable RecordFault) [ false ↦ Err BadAge | true ↦ elim y as (λ w. Result Durable RecordFault) [ false ↦ Err BadNumber | true ↦ Ok (with_slot c (Some (slots.new_slot age s)) (record d { next_session = s + 1 })) ] ]) ≡ Ok e → HasIt e
      go false y is = absurd (not_Ok is)
      go true false is = absurd (not_Ok is)
      go true true is = subst HasIt (same_Ok is) w
  step_keeps (End c s) d e q w is = go (is_session s (slot d c)) is
    where
      go : (x : Bool) → (elim x as (λ w. Result Durable RecordFault) [ false ↦ Err NoSession | true ↦ Ok (with_slot c (slots.ended (slot d c)) d) ]) ≡ Ok e → HasIt e
      go false is = absurd (not_Ok is)
      go true is = subst HasIt (same_Ok is) w
  step_keeps (Ids c s got f) d e q w is = go (is_session s (slot d c)) (is_next_grant c got f d) (is_full d) is
    where
      go : (x y z : Bool)
          → (elim x as (λ w. Result Durable RecordFault) [
            | false ↦ Err NoSession
            | true ↦ elim y as (λ w. Result Durable RecordFault) [
              | false ↦ Err BadNumber
              | true ↦ elim z as (λ w. Result Durable RecordFault) [
                | true ↦ Err (NoRoom (live d) (reserved d))
                | false ↦ Ok (with_slot c (slots.granted f (slot d c)) (record d { next_id = f + 16 }))
              ]
            ]
          ]) ≡ Ok e → HasIt e
      go false y z is = absurd (not_Ok is)
      go true false z is = absurd (not_Ok is)
      go true true true is = absurd (not_Ok is)
      go true true false is = subst HasIt (same_Ok is) w
  step_keeps (Epoch n) d e q w is = go (n == d.epoch + 1) is
    where
      go : (x : Bool) → (elim x as (λ w. Result Durable RecordFault) [ false ↦ Err BadNumber | true ↦ Ok (record d { epoch = n }) ]) ≡ Ok e → HasIt e
      go false is = absurd (not_Ok is)
      go true is = subst HasIt (same_Ok is) w

-- The limit of objects stays.

any_update : (ops : List (ℕ × Update)) → EachOp (λ u. Unit {0}) ops
any_update [] = tt
any_update (op ∷ ops) = (tt, any_update ops)

any_record : (r : Record) → EachUpdate (λ u. Unit {0}) r
any_record (Batch c s b ops) = any_update ops
any_record (Open c age s) = tt
any_record (End c s) = tt
any_record (Ids c s got f) = tt
any_record (Epoch n) = tt

pub step_most : (r : Record) (d e : Durable) → step r d ≡ Ok e → e.max_objects ≡ d.max_objects
step_most r d e is = step_keeps (λ es m. m ≡ d.max_objects) (λ u. Unit {0}) (λ u es m q h. h) r d e (any_record r) refl is

-- The image of an object that is no operand stays.

abbrev Spares : ℕ → Update → Type 0
Spares o u = T (is_sound u) × (member o (operands u) ≡ false)

ops_spare : (o : ℕ) (ops : List (ℕ × Update)) → AreSoundOps ops → member o (flat_map (λ op. operands op.1) ops) ≡ false → EachOp (Spares o) ops
ops_spare o [] sound out = tt
ops_spare o (op ∷ ops) sound out =
    let parts = or_none (member o (operands op.1)) (member o (flat_map (λ op. operands op.1) ops)) (sym (list_any-append (λ p. o == p) (operands op.1) (flat_map (λ op. operands op.1) ops)) ∙ out) in
    ((sound.0, parts.0), ops_spare o ops sound.1 parts.1)

record_spares : (o : ℕ) (r : Record) → AreSound r → member o (touched r) ≡ false → EachUpdate (Spares o) r
record_spares o (Batch c s b ops) sound out = ops_spare o ops sound out
record_spares o (Open c age s) sound out = tt
record_spares o (End c s) sound out = tt
record_spares o (Ids c s got f) sound out = tt
record_spares o (Epoch n) sound out = tt

image_spared : (o : ℕ) (v : Image) (u : Update) (es : Table Image) (m : ℕ) → Spares o u → volume.images es o ≡ v → volume.images (changed u es) o ≡ v
image_spared o v u es m spares h =
    changed_images u es spares.0 o ∙ ap (λ (b : Bool). cond b (effect u o (volume.images es o)) (volume.images es o)) spares.1 ∙ h

pub step_images : (r : Record) (d e : Durable) (o : ℕ) → AreSound r → member o (touched r) ≡ false → step r d ≡ Ok e → volume.images e.volume o ≡ volume.images d.volume o
step_images r d e o sound out is =
    step_keeps (λ es m. volume.images es o ≡ volume.images d.volume o) (Spares o) (image_spared o (volume.images d.volume o)) r d e (record_spares o r sound out) refl is

-- Images in a volume's list.

held_at : (es : List (ℕ × Image)) (i : ℕ) (e : ℕ × Image) → T (list_all (λ x. is_held x.1) es) → slice_get es i ≡ Some e → is_held e.1 ≡ true
held_at [] i e h is = absurd cc
held_at (f ∷ es) zero e h is = ap (λ (x : ℕ × Image). is_held x.1) (sym (same_some f e is)) ∙ told (is_held f.1) (first (is_held f.1) (list_all (λ x. is_held x.1) es) h)
held_at (f ∷ es) (suc i) e h is = held_at es i e (second (is_held f.1) (list_all (λ x. is_held x.1) es) h) is

pub image_at : (es : List (ℕ × Image)) (i : ℕ) (e : ℕ × Image) → IsVolume es → slice_get es i ≡ Some e → (volume.images es e.0 ≡ e.1) × (is_gone e.1 ≡ false)
image_at es i e v is = (
  images_find es e.0 ∙ ap (λ (f : Option Image). unwrap_or f Gone) (found_at nat_cmp nat_cmp_total es i e v.sorted is),
  held_live e.1 (held_at es i e v.held is),
)

-- In a well-formed volume no directory names an object twice.

id_at : (o : ℕ) (es : Entries) → member o (ids_under es) ≡ true → (i : ℕ) × (n : List ℕ) × (slice_get es i ≡ Some (n, o))
id_at o [] is = absurd cc
id_at o (e ∷ es) is =
    ⊎_elim (λ same. (0, e.0, ap (λ (x : ℕ). Some (e.0, x)) (sym same))) (λ later. let rec = id_at o es later in (suc rec.0, rec.1, rec.2)) (member_cases o e.1 (ids_under es) is)

ids_once : (whole es : Entries) → T (is_sorted by_bytes es) → ((i : ℕ) (e : List ℕ × ℕ) → slice_get es i ≡ Some e → entry whole e.0 ≡ Some e.1)
    → ((m n : List ℕ) (o : ℕ) → entry whole m ≡ Some o → entry whole n ≡ Some o → m ≡ n) → distinct (ids_under es) ≡ true
ids_once whole [] sorted stand once = refl
ids_once whole (e ∷ es) sorted stand once =
    and_from (not (member e.1 (ids_under es))) (distinct (ids_under es)) (out (member e.1 (ids_under es)) (λ is. never (id_at e.1 es is)))
    (ids_once whole es (second (below_all by_bytes e.0 es) (is_sorted by_bytes es) sorted) (λ i f is. stand (suc i) f is) once)
  where
    out : (b : Bool) → (b ≡ true → ⊥) → not b ≡ true
    out true h = absurd (h refl)
    out false h = refl

    never : ((i : ℕ) × (n : List ℕ) × (slice_get es i ≡ Some (n, e.1))) → ⊥
    never x =
        let same : e.0 ≡ x.1 = once e.0 x.1 e.1 (stand 0 e refl) (stand (suc x.0) (x.1, e.1) x.2) in
        let lower = below_each by_bytes e.0 es x.0 (x.1, e.1) (first (below_all by_bytes e.0 es) (is_sorted by_bytes es) sorted) (slice_get_within es x.0 (x.1, e.1) x.2) in
        let less : by_bytes e.0 x.1 ≡ Less = ap (λ (y : List ℕ × ℕ). by_bytes e.0 y.0) (sym (get_or_from_slice_get es x.0 (x.1, e.1) (x.1, e.1) x.2)) ∙ lower in
        let tie : by_bytes e.0 x.1 ≡ Equal = ap (λ (n : List ℕ). by_bytes e.0 n) (sym same) ∙ tied_itself nat_list_cmp_total e.0 in
        apart (sym less ∙ tie)
      where
        apart : Less ≡ Equal → ⊥
        apart h = cc

sound_of_held : (i : Image) → is_held i ≡ true → distinct (ids_under (entries_of i)) ≡ true → is_sound_image i ≡ true
sound_of_held Gone held once = refl
sound_of_held (File m s w bs) held once = held
sound_of_held (Dir m s w es) held once =
    let parts = and_parts (nat_le m 4095 && nat_le (length es) 128) (is_sorted by_bytes es) held in
    and_from (nat_le m 4095 && nat_le (length es) 128) (distinct (ids_under es)) parts.0 once

pub sound_image : (es : List (ℕ × Image)) (i : ℕ) (e : ℕ × Image) → IsVolume es → volume.WellFormed (volume.images es) → slice_get es i ≡ Some e → is_sound_image e.1 ≡ true
sound_image es i e v formed is =
    let same = (image_at es i e v is).0 in
    let sorted : T (is_sorted by_bytes (entries_of e.1)) = subst (λ x. T (is_sorted by_bytes (entries_of x))) same (formed.maps e.0) in
    sound_of_held e.1 (held_at es i e v.held is)
    (ids_once (entries_of e.1) (entries_of e.1) sorted (λ k f at_k. found_at by_bytes nat_list_cmp_total (entries_of e.1) k f sorted at_k)
    (λ m n o one other. (formed.once o e.0 e.0 m n (subst (λ x. entry (entries_of x) m ≡ Some o) (sym same) one) (subst (λ x. entry (entries_of x) n ≡ Some o) (sym same) other)).1))
