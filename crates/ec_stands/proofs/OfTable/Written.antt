-- Tables written field by field.
use Rattle.std.proofs.Common.{◌≡◌, ◌+◌, ◌<◌, ◌≤◌, ℕ, zero, suc, Bool, true, false, cond, List, [], ◌∷◌, ◌++◌, length, Some, refl, sym, ap, subst, ◌∙◌, append_assoc, arith, length-append}
use Rattle.std.specs.Prelude.{slice_get}
use Rattle.std.specs.List.{list_all, AllPairs}
use Rattle.std.specs.List.Sorted.{IsStrictlyIncreasing}
use Rattle.std.proofs.lemmas.Bool.{and_from, and_parts, eq-eqb, lt-ltb, le-leb}
use Rattle.std.proofs.lemmas.List.Kept.{AllPairs-from_increasing}
use Rattle.ec_sessions.specs.Slots.{Slots, slot_at, unspent_of, all_unspent}
use Rattle.ec_sessions.specs.declared.slot.Slot.{Slot}
use Rattle.ec_codes.specs.Formats.{byte, rows_fit}
use Rattle.ec_codes.specs.Spelling.{Writes}
use Rattle.ec_codes.specs.Fields.{word, long, id}
use Rattle.ec_codes.specs.Clerks.{age_field}
use Rattle.ec_codes.proofs.Written.{chain}
use Rattle.ec_durable.specs.CodeLaws.{rows_all}
use Rattle.ec_stands.specs.declared.table.table.Table.{Table}
use Rattle.ec_stands.specs.declared.table.table.Version.TheVariants.{Two}
use Rattle.ec_stands.specs.OfTable.Codes.{last_first_field, is_above, id_above, ids_field, slot_fields, fields_of, slot_form, slot_code, slots_field, places_field, state_fields, state_code, max_new_state, new_table, table_code}
use Rattle.ec_stands.specs.OfTable.LengthLaws.{max_state_code, state_len}

-- The slots of the clerks.

pub slot_got : (slots : Slots) (i : ℕ) → i < length slots → slice_get slots i ≡ Some (slot_at slots i)
slot_got [] i lt = absurd (omega (arith, lt))
slot_got (s ∷ slots) zero lt = refl
slot_got (s ∷ slots) (suc i) lt = slot_got slots i (omega (arith, lt))

pub slot_few : (slots : Slots) (c : ℕ) → length (unspent_of (slot_at slots c)) ≤ length (all_unspent slots)
slot_few [] c = omega arith
slot_few (s ∷ slots) zero = omega (arith, length-append (unspent_of s) (all_unspent slots))
slot_few (s ∷ slots) (suc c) = omega (arith, slot_few slots c, length-append (unspent_of s) (all_unspent slots))

pub slots_fit : (slots : Slots) → length slots ≡ 16 → list_all slot_code.fits slots ≡ true → slots_field.fits slots ≡ true
unfolding slots_field
slots_fit slots n h = and_from _ _ (eq-eqb (length slots) 16 n) (rows_all slot_code [] slots ∙ h)

pub slot_written : (o : Bool) (sl : Slot) (b0 b1 b2 : List ℕ) → sl.is_open ≡ o → b1 ≡ b0 ++ cond o 1 2 ∷ [] → Writes slot_fields (fields_of sl) b1 b2 → Writes slot_code (Some sl) b0 b2
unfolding slot_code slot_form
slot_written true sl b0 b1 b2 is h w = rw is (chain (1 ∷ []) _ b0 b1 b2 h w.0, w.1)
slot_written false sl b0 b1 b2 is h w = rw is (chain (2 ∷ []) _ b0 b1 b2 h w.0, w.1)

pub fields_written : (sl : Slot) (b0 b1 b2 b3 b4 b5 b6 b7 : List ℕ) → Writes age_field sl.age b0 b1 → Writes long sl.session b1 b2 → Writes long sl.window.low b2 b3 → Writes byte sl.window.mask b3 b4 → Writes word sl.grants b4 b5
    → Writes last_first_field sl.last_first b5 b6 → Writes ids_field sl.unspent b6 b7 → Writes slot_fields (fields_of sl) b0 b7
unfolding slot_fields
fields_written sl b0 b1 b2 b3 b4 b5 b6 b7 w0 w1 w2 w3 w4 w5 w6 = (
  chain _ _ b0 b1 b7 w0.0 (chain _ _ b1 b2 b7 w1.0 (chain _ _ b2 b3 b7 w2.0 (chain _ _ b3 b4 b7 w3.0 (chain _ _ b4 b5 b7 w4.0 (chain _ _ b5 b6 b7 w5.0 w6.0))))),
  and_from _ _ w0.1 (and_from _ _ w1.1 (and_from _ _ w2.1 (and_from _ _ w3.1 (and_from _ _ w4.1 (and_from _ _ w5.1 w6.1))))),
)

-- Rising ids.

above : (before os : List ℕ) (o : ℕ) → AllPairs (λ x y. x < y) (before ++ o ∷ os) → is_above before o ≡ true
above [] os o h = refl
above (b ∷ []) os o h = lt-ltb b o (h 0 1 0 (omega arith) (omega arith))
above (b ∷ c ∷ before) os o h = above (c ∷ before) os o (λ i j d lt within. h (suc i) (suc j) d (omega (arith, lt)) (omega (arith, within)))

rise : (before os : List ℕ) → AllPairs (λ x y. x < y) (before ++ os) → list_all id.fits os ≡ true → rows_fit id_above before os ≡ true
unfolding id_above
rise before [] h fit = refl
rise before (o ∷ os) h fit =
    let a = and_parts (id.fits o) (list_all id.fits os) fit in
    and_from _ _ (and_from _ _ a.0 (above before os o h)) (rise (before ++ o ∷ []) os (subst (AllPairs (λ x y. x < y)) (sym (append_assoc before (o ∷ []) os)) h) a.1)

pub ids_rise : (os : List ℕ) → IsStrictlyIncreasing os → list_all id.fits os ≡ true → rows_fit id_above [] os ≡ true
ids_rise os h fit = rise [] os (AllPairs-from_increasing os h) fit

-- The state and the table.

pub state_written : (most : ℕ) (t : Table) (b0 b1 b2 b3 b4 b5 : List ℕ) → Writes word t.next_id b0 b1 → Writes long t.next_session b1 b2 → Writes long t.epoch b2 b3 → Writes slots_field t.slots b3 b4 → Writes (places_field most) t.places b4 b5
    → Writes (state_code most) t b0 b5
unfolding state_code state_fields
state_written most t b0 b1 b2 b3 b4 b5 w0 w1 w2 w3 w4 = (
  chain _ _ b0 b1 b5 w0.0 (chain _ _ b1 b2 b5 w1.0 (chain _ _ b2 b3 b5 w2.0 (chain _ _ b3 b4 b5 w3.0 w4.0))),
  and_from _ _ (and_from _ _ w0.1 (and_from _ _ w1.1 (and_from _ _ w2.1 (and_from _ _ w3.1 w4.1)))) refl,
)

pub table_written : (most : ℕ) (t : Table) (none body empty head all : List ℕ) (n : ℕ) → none ≡ [] → body ≡ none ++ (state_code most).spell t → empty ≡ [] → n ≡ length body → head ≡ empty ++ 2 ∷ word.spell n → all ≡ head ++ body
    → all ≡ (table_code most).spell (Two, t)
unfolding table_code new_table
table_written most t none body empty head all n empty_first is empty_then counts first second =
    let spelled : body ≡ (state_code most).spell t = is ∙ ap (λ (xs : List ℕ). xs ++ (state_code most).spell t) empty_first in
    chain (2 ∷ word.spell n) body empty head all first second
    ∙ ap (λ (xs : List ℕ). xs ++ 2 ∷ (word.spell n ++ body)) empty_then
    ∙ ap (λ (k : ℕ). 2 ∷ (word.spell k ++ body)) counts
    ∙ ap (λ (xs : List ℕ). 2 ∷ (word.spell (length xs) ++ xs)) spelled

pub table_fits : (most : ℕ) (t : Table) → length t.slots ≤ 16 → length t.places + length (all_unspent t.slots) ≤ 1024 → (state_code most).fits t ≡ true → (table_code most).fits (Two, t) ≡ true
unfolding table_code new_table
table_fits most t clerks few h = and_from _ _ h (le-leb (length ((state_code most).spell t)) max_new_state (omega (arith, state_len most t clerks few)))

pub body_short : (most : ℕ) (t : Table) (none body : List ℕ) → none ≡ [] → body ≡ none ++ (state_code most).spell t → length t.slots ≡ 16 → length t.places + length (all_unspent t.slots) ≤ 1024 → length body ≤ max_state_code
body_short most t none body empty_first is clerks few =
    let spelled : body ≡ (state_code most).spell t = is ∙ ap (λ (xs : List ℕ). xs ++ (state_code most).spell t) empty_first in
    subst (λ (xs : List ℕ). length xs ≤ max_state_code) (sym spelled) (state_len most t (omega (arith, clerks)) few)
