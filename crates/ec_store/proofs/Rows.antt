-- What a table that has a code holds: rising places, and the slots of sixteen clerks.
use Rattle.std.proofs.Common.{◌≡◌, ℕ, zero, suc, ◌<◌, ◌≤◌, Bool, true, false, cond, List, [], ◌∷◌, ◌++◌, length, Option, None, Some, T, refl, sym, ap, subst, ◌∙◌, arith}
use Rattle.std.specs.Prelude.{◌==◌, ◌&&◌, nat_lt, nat_le}
use Rattle.std.specs.Ordering.{nat_cmp, is_lt}
use Rattle.std.specs.Cmp.{nat_cmp_is}
use Rattle.std.specs.FinMap.{is_sorted}
use Rattle.std.specs.FinMap.Entries.{below_all}
use Rattle.std.specs.declared.cmp.Ordering.TheVariants.{Less}
use Rattle.std.proofs.lemmas.Bool.{and_parts, ltb-true, eqb-true}
use Rattle.ec_base.specs.SortedLaws.{first, second, both}
use Rattle.ec_base.specs.Tables.{keys}
use Rattle.ec_base.specs.Limits.{clerk_count}
use Rattle.ec_codes.specs.Formats.{rows_fit, is_given, byte}
use Rattle.ec_codes.specs.Fields.{word, long, id}
use Rattle.ec_codes.specs.Clerks.{age_field}
use Rattle.ec_sessions.specs.WindowMarks.{times}
use Rattle.ec_sessions.specs.IdLaws.{times-append}
use Rattle.ec_sessions.specs.Slots.{Slots, slot_at, unspent_of, all_unspent}
use Rattle.ec_sessions.specs.SlotChecks.{AreSlots}
use Rattle.ec_sessions.specs.declared.slot.Slot.{Slot}
use Rattle.ec_sessions.proofs.Rising.{increasing_from}
use Rattle.ec_stands.specs.OfTable.Codes.{last_row, is_behind, is_above, id_above, ids_field, last_first_field, slot_fields, fields_of, slot_tag, slot_form, slot_code, slots_field, ids_in, place_after, places_field, state_fields, state_code, parts_of, old_table, new_table, table_code}
use Rattle.ec_stands.specs.declared.table.table.Table.{Table}
use Rattle.ec_stands.specs.declared.table.table.Version.{Version}
use Rattle.ec_stands.specs.declared.table.table.Version.TheVariants.{One, Two}
use Rattle.ec_store.proofs.Members.{less_is}
use Rattle.ec_store.proofs.Placing.{last_push, ids_push}
use Rattle.ec_base.proofs.Lists.{Above, Rises}

-- Places.

is_less : (a b : ℕ) → a < b → T (is_lt (nat_cmp a b))
is_less a b lt = subst (λ r. T (is_lt r)) (nat_cmp_is a b Less lt) tt

below_lower : (n m : ℕ) → n < m → (xs : List (ℕ × ℕ)) → T (below_all nat_cmp m xs) → T (below_all nat_cmp n xs)
below_lower n m lt [] h = tt
below_lower n m lt (x ∷ xs) h =
    both (is_lt (nat_cmp n x.0)) (below_all nat_cmp n xs) (is_less n x.0 (omega (arith, lt, less_is m x.0 (first (is_lt (nat_cmp m x.0)) (below_all nat_cmp m xs) h)))) (below_lower n m lt xs (second (is_lt (nat_cmp m x.0)) (below_all nat_cmp m xs) h))

place_above : (most : ℕ) (before : List (ℕ × ℕ)) (p : ℕ × ℕ) → (place_after most before).fits p ≡ true → is_above (ids_in before) p.0 ≡ true
unfolding place_after id_above
place_above most before p fits = (and_parts (id.fits p.0) (is_above (ids_in before) p.0) (and_parts (id.fits p.0 && is_above (ids_in before) p.0) _ fits).0).1

behind_is : (l : Option ℕ) (n m : ℕ) → l ≡ Some n → is_behind l m ≡ true → n < m
behind_is l n m is h = ltb-true n m (ap (λ (x : Option ℕ). is_behind x m) (sym is) ∙ h)

rise : (most : ℕ) (before xs : List (ℕ × ℕ)) (n : ℕ) → last_row (ids_in before) ≡ Some n → rows_fit (place_after most) before xs ≡ true → T (below_all nat_cmp n xs) × T (is_sorted nat_cmp xs)
rise most before [] n last fits = (tt, tt)
rise most before (x ∷ xs) n last fits =
    let parts = and_parts ((place_after most before).fits x) (rows_fit (place_after most) (before ++ x ∷ []) xs) fits in
    let above : n < x.0 = behind_is (last_row (ids_in before)) n x.0 last (place_above most before x parts.0) in
    let later = rise most (before ++ x ∷ []) xs x.0 (ap (λ (l : List ℕ). last_row l) (ids_push before x) ∙ last_push (ids_in before) x.0) parts.1 in
    (both (is_lt (nat_cmp n x.0)) (below_all nat_cmp n xs) (is_less n x.0 above) (below_lower n x.0 above xs later.0), both (below_all nat_cmp x.0 xs) (is_sorted nat_cmp xs) later.0 later.1)

pub places_rise : (most : ℕ) (xs : List (ℕ × ℕ)) → rows_fit (place_after most) [] xs ≡ true → T (is_sorted nat_cmp xs)
places_rise most [] fits = tt
places_rise most (x ∷ xs) fits =
    let later = rise most (x ∷ []) xs x.0 refl (and_parts ((place_after most []).fits x) (rows_fit (place_after most) (x ∷ []) xs) fits).1 in
    both (below_all nat_cmp x.0 xs) (is_sorted nat_cmp xs) later.0 later.1

head_is : (x y : ℕ) (xs ys : List ℕ) → x ∷ xs ≡ y ∷ ys → x ≡ y
head_is x y xs ys e = cc

tail_is : (x y : ℕ) (xs ys : List ℕ) → x ∷ xs ≡ y ∷ ys → xs ≡ ys
tail_is x y xs ys e = cc

no_head : (x : ℕ) (xs : List ℕ) → x ∷ xs ≡ [] → ⊥
no_head x xs e = cc

-- pairs with the keys of rising places rise
module _ {A : Type 0} where
  below_as : (n : ℕ) (es : List (ℕ × A)) (ps : List (ℕ × ℕ)) → keys es ≡ ids_in ps → T (below_all nat_cmp n ps) → T (below_all nat_cmp n es)
  below_as n [] ps same h = tt
  below_as n (e ∷ es) [] same h = absurd (no_head e.0 (keys es) same)
  below_as n (e ∷ es) (p ∷ ps) same h =
      both (is_lt (nat_cmp n e.0)) (below_all nat_cmp n es) (subst (λ k. T (is_lt (nat_cmp n k))) (sym (head_is e.0 p.0 (keys es) (ids_in ps) same)) (first (is_lt (nat_cmp n p.0)) (below_all nat_cmp n ps) h))
      (below_as n es ps (tail_is e.0 p.0 (keys es) (ids_in ps) same) (second (is_lt (nat_cmp n p.0)) (below_all nat_cmp n ps) h))

  pub sorted_as : (es : List (ℕ × A)) (ps : List (ℕ × ℕ)) → keys es ≡ ids_in ps → T (is_sorted nat_cmp ps) → T (is_sorted nat_cmp es)
  sorted_as [] ps same h = tt
  sorted_as (e ∷ es) [] same h = absurd (no_head e.0 (keys es) same)
  sorted_as (e ∷ es) (p ∷ ps) same h =
      let later = tail_is e.0 p.0 (keys es) (ids_in ps) same in
      both (below_all nat_cmp e.0 es) (is_sorted nat_cmp es) (subst (λ k. T (below_all nat_cmp k es)) (sym (head_is e.0 p.0 (keys es) (ids_in ps) same)) (below_as p.0 es ps later (first (below_all nat_cmp p.0 ps) (is_sorted nat_cmp ps) h)))
      (sorted_as es ps later (second (below_all nat_cmp p.0 ps) (is_sorted nat_cmp ps) h))

  pub length_as : (es : List (ℕ × A)) (ps : List (ℕ × ℕ)) → keys es ≡ ids_in ps → length es ≡ length ps
  length_as [] [] same = refl
  length_as [] (p ∷ ps) same = absurd (no_head p.0 (ids_in ps) (sym same))
  length_as (e ∷ es) [] same = absurd (no_head e.0 (keys es) same)
  length_as (e ∷ es) (p ∷ ps) same = ap suc (length_as es ps (tail_is e.0 p.0 (keys es) (ids_in ps) same))

-- Slots.

id_is_above : (before : List ℕ) (o : ℕ) → (id_above before).fits o ≡ true → is_above before o ≡ true
unfolding id_above
id_is_above before o fits = (and_parts (id.fits o) (is_above before o) fits).1

rise_ids : (before xs : List ℕ) (n : ℕ) → last_row before ≡ Some n → rows_fit id_above before xs ≡ true → Above n xs × Rises xs
rise_ids before [] n last fits = (tt, tt)
rise_ids before (x ∷ xs) n last fits =
    let parts = and_parts ((id_above before).fits x) (rows_fit id_above (before ++ x ∷ []) xs) fits in
    let above : n < x = behind_is (last_row before) n x last (id_is_above before x parts.0) in
    let later = rise_ids (before ++ x ∷ []) xs x (last_push before x) parts.1 in
    ((above, lower xs above later.0), (later.0, later.1))
  where
    lower : (ys : List ℕ) → n < x → Above x ys → Above n ys
    lower [] lt h = tt
    lower (y ∷ ys) lt h = (omega (arith, lt, h.0), lower ys lt h.1)

ids_rise : (xs : List ℕ) → rows_fit id_above [] xs ≡ true → Rises xs
ids_rise [] fits = tt
ids_rise (x ∷ xs) fits =
    let later = rise_ids (x ∷ []) xs x refl (and_parts ((id_above []).fits x) (rows_fit id_above (x ∷ []) xs) fits).1 in
    (later.0, later.1)

unspent_rise : (sl : Slot) → slot_fields.fits (fields_of sl) ≡ true → Rises sl.unspent
unfolding slot_fields ids_field
unspent_rise sl fits =
    let a = and_parts (age_field.fits sl.age) _ fits in
    let b = and_parts (long.fits sl.session) _ a.1 in
    let c = and_parts (long.fits sl.window.low) _ b.1 in
    let d = and_parts (byte.fits sl.window.mask) _ c.1 in
    let e = and_parts (word.fits sl.grants) _ d.1 in
    let f = and_parts (last_first_field.fits sl.last_first) _ e.1 in
    ids_rise sl.unspent (and_parts (word.fits (length sl.unspent)) (rows_fit id_above [] sl.unspent) f.1).1

form_fields : (sl : Slot) (b : Bool) → sl.is_open ≡ b → (slot_form (cond b 1 2)).fits (Some sl) ≡ true → slot_fields.fits (fields_of sl) ≡ true
unfolding slot_form
form_fields sl true is fits = ap (λ (x : Bool). is_given slot_fields.fits (cond x (Some (fields_of sl)) None)) (sym is) ∙ fits
form_fields sl false is fits = ap (λ (x : Bool). is_given slot_fields.fits (cond x None (Some (fields_of sl)))) (sym is) ∙ fits

slot_rises : (s : Option Slot) → slot_code.fits s ≡ true → Rises (unspent_of s)
unfolding slot_code
slot_rises None fits = tt
slot_rises (Some sl) fits =
    unspent_rise sl
    (form_fields sl sl.is_open refl (and_parts (nat_lt (slot_tag (Some sl)) 256 && nat_le (slot_tag (Some sl)) 2) ((slot_form (slot_tag (Some sl))).fits (Some sl)) fits).1)

slots_rise : (before slots : Slots) (c : ℕ) → rows_fit (λ b. slot_code) before slots ≡ true → Rises (unspent_of (slot_at slots c))
slots_rise before [] c fits = tt
slots_rise before (s ∷ slots) zero fits = slot_rises s (and_parts (slot_code.fits s) (rows_fit (λ b. slot_code) (before ++ s ∷ []) slots) fits).0
slots_rise before (s ∷ slots) (suc c) fits = slots_rise (before ++ s ∷ []) slots c (and_parts (slot_code.fits s) (rows_fit (λ b. slot_code) (before ++ s ∷ []) slots) fits).1

pub are_slots : (slots : Slots) → slots_field.fits slots ≡ true → ((id : ℕ) → times id (all_unspent slots) ≤ 1) → AreSlots slots
unfolding slots_field
are_slots slots fits once =
    let parts = and_parts (length slots == clerk_count) (rows_fit (λ b. slot_code) [] slots) fits in
    record { sixteen = eqb-true (length slots) clerk_count parts.0; rising = λ c. increasing_from (unspent_of (slot_at slots c)) (slots_rise [] slots c parts.1); once = once }

-- Tables.

state_parts : (most : ℕ) (t : Table) → (state_code most).fits t ≡ true → (slots_field.fits t.slots ≡ true) × ((places_field most).fits t.places ≡ true)
unfolding state_code state_fields
state_parts most t fits =
    let a = and_parts ((state_fields most).fits (parts_of t)) true fits in
    let b = and_parts (word.fits t.next_id) _ a.0 in
    let c = and_parts (long.fits t.next_session) _ b.1 in
    let d = and_parts (long.fits t.epoch) _ c.1 in
    and_parts (slots_field.fits t.slots) ((places_field most).fits t.places) d.1

pub table_parts : (most : ℕ) (v : Version) (t : Table) → (table_code most).fits (v, t) ≡ true → (slots_field.fits t.slots ≡ true) × ((places_field most).fits t.places ≡ true)
unfolding table_code old_table new_table
table_parts most One t fits = state_parts most t (and_parts ((state_code most).fits t) _ fits).0
table_parts most Two t fits = state_parts most t (and_parts ((state_code most).fits t) _ fits).0

pub table_rows : (most : ℕ) (places : List (ℕ × ℕ)) → (places_field most).fits places ≡ true → rows_fit (place_after most) [] places ≡ true
unfolding places_field
table_rows most places fits = (and_parts (word.fits (length places)) (rows_fit (place_after most) [] places) fits).1

pub unspent_once : (ks : List ℕ) (slots : Slots) → ((id : ℕ) → times id (ks ++ all_unspent slots) ≤ 1) → (id : ℕ) → times id (all_unspent slots) ≤ 1
unspent_once ks slots once id = omega (arith, once id, times-append id ks (all_unspent slots))
