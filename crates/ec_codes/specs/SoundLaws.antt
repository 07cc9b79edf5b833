-- Which updates have a code: the sound ones, with fields in the ranges of their types.
use Rattle.std.proofs.Common.{◌≡◌, ◌<◌, ℕ, Bool, true, false, cond, eqb, not, ◌&&◌, ◌||◌, List, [], ◌∷◌, ◌++◌, map, length, Option, Some, None, Result, Ok, Err, refl, sym, ap, subst, ◌∙◌, append_assoc, arith}
use Rattle.std.specs.Prelude.{IfOk, nat_le, ◌==◌}
use Rattle.std.specs.Int.{w16, w32}
use Rattle.std.specs.List.{filter, list_any, list_all}
use Rattle.std.proofs.lemmas.Bool.{and_parts, and_from}
use Rattle.std.proofs.lemmas.Bool.Decides.{nat_tests}
use Rattle.std.proofs.lemmas.List.{map_push, append-nil}
use Rattle.ec_volume.proofs.Distinct.{distinct_apart}
use Rattle.ec_volume.specs.Entries.{same_name}
use Rattle.ec_volume.specs.Update.{Above, root, ids_of, listed, member, distinct, is_way, first_of, is_sound}
use Rattle.ec_volume.specs.declared.image.Kind.{Kind}
use Rattle.ec_volume.specs.declared.image.Kind.TheVariants as kind
use Rattle.ec_volume.specs.declared.update.Update.{Update}
use Rattle.ec_volume.specs.declared.update.Update.TheVariants.{Make, Drop, Move, Put, Len, Mode, Stamp, Order, Shift, Owner}
use Rattle.ec_codes.specs.declared.fault.CodeFault.{CodeFault}
use Rattle.ec_codes.specs.Formats.{Format, byte, number, such, rows_fit}
use Rattle.ec_codes.specs.Spelling.{Spells}
use Rattle.ec_codes.specs.Fields.{id, id_but, flag, mode_field, is_apart, victim_but, name}
use Rattle.ec_codes.specs.Updates.{entry_fields, move_fields, put_fields, is_put_length, len_fields, mode_fields, stamp_fields, owner_fields, is_order_count, order_fields, is_way_count, begins_well, step_fields, way_fields, shift_fields, tag, is_tag, form, update_code}

-- Ids, none of which repeats an earlier one.

-- none of the ids is among those seen or repeats an earlier one
abbrev pub are_fresh : List ℕ → List ℕ → Bool
are_fresh seen [] = true
are_fresh seen (o ∷ os) = not (member o seen) && are_fresh (seen ++ o ∷ []) os

or_group : (a b c : Bool) → ((a || b) || c) ≡ (a || (b || c))
or_group true b c = refl
or_group false b c = refl

or_nothing : (a : Bool) → (a || false) ≡ a
or_nothing true = refl
or_nothing false = refl

any_last : (p : ℕ → Bool) (xs : List ℕ) (o : ℕ) → list_any p (xs ++ o ∷ []) ≡ (list_any p xs || p o)
any_last p [] o = or_nothing (p o)
any_last p (x ∷ xs) o = ap (λ b. p x || b) (any_last p xs o) ∙ sym (or_group (p x) (list_any p xs) (p o))

mixed : (a b c d : Bool) → ((a || b) || (c || d)) ≡ ((a || c) || (b || d))
mixed true b c d = refl
mixed false true true d = refl
mixed false true false d = refl
mixed false false c d = refl

same_test : (a b : ℕ) → (a == b) ≡ (b == a)
same_test a b = grind (arith, nat_tests)

any_met : (o : ℕ) (os seen : List ℕ) → list_any (λ p. member p (o ∷ os)) seen ≡ (member o seen || list_any (λ p. member p os) seen)
any_met o os [] = refl
any_met o os (p ∷ seen) =
    rw (any_met o os seen, same_test p o) (mixed (o == p) (member p os) (member o seen) (list_any (λ q. member q os) seen))

fresh_group : (m a l d : Bool) → (not m && (not (a || l) && d)) ≡ (not (m || a) && (not l && d))
fresh_group true a l d = refl
fresh_group false true l d = refl
fresh_group false false l d = refl

none_met : (seen : List ℕ) → true ≡ (not (list_any (λ o. member o []) seen) && true)
none_met [] = refl
none_met (o ∷ seen) = none_met seen

pub fresh_is : (seen os : List ℕ) → are_fresh seen os ≡ (not (list_any (λ o. member o os) seen) && distinct os)
fresh_is seen [] = none_met seen
fresh_is seen (o ∷ os) =
    rw (fresh_is (seen ++ o ∷ []) os, any_last (λ p. member p os) seen o, any_met o os seen)
    (fresh_group (member o seen) (list_any (λ p. member p os) seen) (member o os) (distinct os))

-- Counted ids.

ids_group : (f m a r : Bool) → ((f && not m) && (a && r)) ≡ ((f && a) && (not m && r))
ids_group true true true r = refl
ids_group true true false r = refl
ids_group true false a r = refl
ids_group false m a r = refl

pub ids_fit : (before os : List ℕ) → rows_fit id_but before os ≡ (list_all id.fits os && are_fresh before os)
ids_fit before [] = refl
ids_fit before (o ∷ os) = ap (λ r. (id.fits o && not (member o before)) && r) (ids_fit (before ++ o ∷ []) os)
    ∙ ids_group (id.fits o) (member o before) (list_all id.fits os) (are_fresh (before ++ o ∷ []) os)

-- The directories on a way.

-- the directory and the name are in their ranges
abbrev pub is_step : ℕ × List ℕ → Bool
is_step e = id.fits e.0 && name.fits e.1

abbrev pub starts : Above → Above → Bool
starts before [] = true
starts before (e ∷ up) = begins_well before e.0

starts_later : (before up : Above) (e : ℕ × List ℕ) → starts (before ++ e ∷ []) up ≡ true
starts_later before [] e = refl
starts_later [] (f ∷ up) e = refl
starts_later (g ∷ before) (f ∷ up) e = refl

step_group : (f m b n a r : Bool) → (((f && not m) && b) && n) && (a && (r && true)) ≡ (((f && n) && a) && ((not m && r) && b))
step_group true false true true true r = refl
step_group true false true true false r = refl
step_group true false true false a r = refl
step_group true false false true true true = refl
step_group true false false true true false = refl
step_group true false false true false r = refl
step_group true false false false a r = refl
step_group true true b true true r = refl
step_group true true b true false r = refl
step_group true true b false a r = refl
step_group false m b n a r = refl

pub steps_fit : (os : List ℕ) (before up : Above) → rows_fit (step_fields os) before up ≡ (list_all is_step up && (are_fresh (os ++ ids_of before) (ids_of up) && starts before up))
unfolding step_fields
steps_fit os before [] = refl
steps_fit os before (e ∷ up) =
    let seen : os ++ ids_of (before ++ e ∷ []) ≡ (os ++ ids_of before) ++ e.0 ∷ [] = ap (λ ids. os ++ ids) (map_push (λ (f : ℕ × List ℕ). f.0) before e) ∙ sym (append_assoc os (ids_of before) (e.0 ∷ [])) in
    let later : rows_fit (step_fields os) (before ++ e ∷ []) up ≡ (list_all is_step up && (are_fresh ((os ++ ids_of before) ++ e.0 ∷ []) (ids_of up) && true)) =
    steps_fit os (before ++ e ∷ []) up ∙ rw (seen, starts_later before up e) refl in
    ap (λ r. (((id.fits e.0 && not (member e.0 (os ++ ids_of before))) && begins_well before e.0) && name.fits e.1) && r) later
    ∙ step_group (id.fits e.0) (member e.0 (os ++ ids_of before)) (begins_well before e.0) (name.fits e.1) (list_all is_step up) (are_fresh ((os ++ ids_of before) ++ e.0 ∷ []) (ids_of up))

-- What has a code is sound.

two_apart : (a b : ℕ) → not (member b (a ∷ [])) ≡ true → distinct (a ∷ b ∷ []) ≡ true
two_apart a b h = grind (arith, nat_tests)

victim_apart : (a b : ℕ) (v : Option ℕ) → not (member b (a ∷ [])) ≡ true → is_apart (a ∷ b ∷ []) v ≡ true → distinct (a ∷ b ∷ listed v) ≡ true
victim_apart a b None h k = two_apart a b h
victim_apart a b (Some v) h k = grind (arith, nat_tests)

four_apart : (a b c : ℕ) (v : Option ℕ) → not (member b (a ∷ [])) ≡ true → not (member c (a ∷ b ∷ [])) ≡ true → is_apart (a ∷ b ∷ c ∷ []) v ≡ true → distinct (a ∷ b ∷ c ∷ listed v) ≡ true
four_apart a b c None h i k = grind (arith, nat_tests)
four_apart a b c (Some v) h i k = grind (arith, nat_tests)

entry_sound : (dir obj : ℕ) (k : Kind) (n : List ℕ) → entry_fields.fits (dir, (obj, (k, n))) ≡ true → distinct (dir ∷ obj ∷ []) ≡ true
unfolding entry_fields
entry_sound dir obj k n h =
    let a = and_parts (id.fits dir) _ h in
    let b = and_parts ((id_but (dir ∷ [])).fits obj) _ a.1 in
    two_apart dir obj (and_parts (id.fits obj) _ b.0).1

move_sound : (dir obj : ℕ) (k : Kind) (v : Option ℕ) (from to : List ℕ) → move_fields.fits (dir, (obj, (k, (v, (from, to))))) ≡ true → (distinct (dir ∷ obj ∷ listed v) && not (same_name from to)) ≡ true
unfolding move_fields
move_sound dir obj k v from to h =
    let a = and_parts (id.fits dir) _ h in
    let b = and_parts ((id_but (dir ∷ [])).fits obj) _ a.1 in
    let c = and_parts _ _ b.1 in
    let d = and_parts ((victim_but (dir ∷ obj ∷ [])).fits v) _ c.1 in
    let e = and_parts (name.fits from) _ d.1 in
    and_from _ _ (victim_apart dir obj v (and_parts (id.fits obj) _ b.0).1 (and_parts _ (is_apart (dir ∷ obj ∷ []) v) d.0).1) (and_parts (name.fits to) _ e.1).1

order_sound : (os : List ℕ) → order_fields.fits os ≡ true → (distinct os && (nat_le 1 (length os) && nat_le (length os) 8)) ≡ true
unfolding order_fields
order_sound os h =
    let a = and_parts ((such is_order_count byte).fits (length os)) _ h in
    let b = and_parts (list_all id.fits os) _ (sym (ids_fit [] os) ∙ a.1) in
    and_from _ _ (sym (fresh_is [] os) ∙ b.1) (and_parts (byte.fits (length os)) (is_order_count (length os)) a.0).1

dir_way : (b : Bool) (into : ℕ) (up : Above) → cond b (length up == 0) (nat_le 1 (length up) && nat_le (length up) 15) ≡ true → starts [] up ≡ true
    → cond b (length up == 0) (nat_le 1 (length up) && nat_le (length up) 15 && (first_of up into == root)) ≡ true
dir_way true into up h s = h
dir_way false into [] h s = absurd cc
dir_way false into (e ∷ up) h s = and_from _ _ h s

way_sound : (k : Kind) (into : ℕ) (up : Above) → is_way_count k into (length up) ≡ true → starts [] up ≡ true → is_way k into up ≡ true
way_sound kind.File into up h s = h
way_sound kind.Dir into up h s = dir_way (into == root) into up h s

shift_sound : (dir into obj : ℕ) (k : Kind) (v : Option ℕ) (from to : List ℕ) (up : Above) → shift_fields.fits (dir, (into, (obj, (k, (v, (from, (to, up))))))) ≡ true
    → (distinct (dir ∷ into ∷ obj ∷ listed v ++ filter (λ o. not (o == dir)) (ids_of up)) && (distinct (ids_of up) && is_way k into up)) ≡ true
unfolding shift_fields way_fields
shift_sound dir into obj k v from to up h =
    let os : List ℕ = into ∷ obj ∷ listed v in
    let a = and_parts (id.fits dir) _ h in
    let b = and_parts ((id_but (dir ∷ [])).fits into) _ a.1 in
    let c = and_parts ((id_but (dir ∷ into ∷ [])).fits obj) _ b.1 in
    let d = and_parts _ _ c.1 in
    let e = and_parts ((victim_but (dir ∷ into ∷ obj ∷ [])).fits v) _ d.1 in
    let f = and_parts (name.fits from) _ e.1 in
    let g = and_parts (name.fits to) _ f.1 in
    let w = and_parts ((such (is_way_count k into) byte).fits (length up)) _ g.1 in
    let count = (and_parts (byte.fits (length up)) (is_way_count k into (length up)) w.0).1 in
    let steps = and_parts (list_all is_step up) _ (sym (steps_fit os [] up) ∙ w.1) in
    let rows = and_parts (are_fresh (os ++ []) (ids_of up)) (starts [] up) steps.1 in
    let fresh : (not (list_any (λ o. member o (ids_of up)) os) && distinct (ids_of up)) ≡ true = sym (fresh_is os (ids_of up)) ∙ ap (λ seen. are_fresh seen (ids_of up)) (sym (append-nil os)) ∙ rows.0 in
    let parts = and_parts (not (list_any (λ o. member o (ids_of up)) os)) (distinct (ids_of up)) fresh in
    let apart : distinct (dir ∷ into ∷ obj ∷ listed v) ≡ true =
    four_apart dir into obj v (and_parts (id.fits into) _ b.0).1 (and_parts (id.fits obj) _ c.0).1 (and_parts _ (is_apart (dir ∷ into ∷ obj ∷ []) v) e.0).1 in
    and_from _ _ (distinct_apart dir os (ids_of up) parts.1 ∙ and_from _ _ apart parts.0) (and_from _ _ parts.1 (way_sound k into up count rows.1))

pub fits_sound : (u : Update) → update_code.fits u ≡ true → is_sound u ≡ true
unfolding update_code form put_fields len_fields mode_fields mode_field
fits_sound (Make dir n obj k) h = and_from _ _ (entry_sound dir obj k n h) refl
fits_sound (Drop dir n obj k) h = and_from _ _ (entry_sound dir obj k n h) refl
fits_sound (Move dir from to obj k v) h = move_sound dir obj k v from to h
fits_sound (Put obj at bytes inside) h =
    let a = and_parts (id.fits obj) _ h in
    let b = and_parts ((number w32).fits at) _ a.1 in
    let c = and_parts (flag.fits inside) _ b.1 in
    (and_parts ((number w16).fits (length bytes)) (is_put_length at (length bytes)) c.1).1
fits_sound (Len obj len) h = (and_parts ((number w32).fits len) (nat_le len 65536) (and_parts (id.fits obj) _ h).1).1
fits_sound (Mode obj mode) h = (and_parts ((number w16).fits mode) (nat_le mode 4095) (and_parts (id.fits obj) _ h).1).1
fits_sound (Stamp obj stamp) h = refl
fits_sound (Order os) h = order_sound os h
fits_sound (Shift dir from into to obj k v up) h = shift_sound dir into obj k v from to up h
fits_sound (Owner obj owner) h = refl

pub found_sound : (bytes : List ℕ) (at : ℕ) (r : Result (Update × ℕ) CodeFault) → IfOk r (λ x. Spells update_code bytes at x.0 x.1) → IfOk r (λ x. is_sound x.0 ≡ true)
found_sound bytes at (Ok x) h = fits_sound x.0 h.fits
found_sound bytes at (Err e) h = tt

-- What is sound has a code.

pub order_fit : (os : List ℕ) → list_all id.fits os ≡ true → distinct os ≡ true → rows_fit id_but [] os ≡ true
order_fit os f d = ids_fit [] os ∙ and_from _ _ f (fresh_is [] os ∙ d)

-- these directories may lead to `into`, and none of them is one of the others
pub record IsWay (k : Kind) (into : ℕ) (others : List ℕ) (up : Above) : Type 0 where
  pub apart : list_any (λ o. member o (ids_of up)) others ≡ false
  pub once : distinct (ids_of up) ≡ true
  pub way : is_way k into up ≡ true

way_counts : (b : Bool) (into : ℕ) (up : Above) → cond b (length up == 0) (nat_le 1 (length up) && nat_le (length up) 15 && (first_of up into == root)) ≡ true
    → (cond b (length up == 0) (nat_le 1 (length up) && nat_le (length up) 15) ≡ true) × (starts [] up ≡ true)
way_counts true into [] h = (refl, refl)
way_counts true into (e ∷ up) h = absurd (grind (arith, nat_tests))
way_counts false into [] h = absurd cc
way_counts false into (e ∷ up) h = and_parts _ _ h

no_way : (up : Above) → (length up == 0) ≡ true → starts [] up ≡ true
no_way [] h = refl
no_way (e ∷ up) h = absurd (grind (arith, nat_tests))

way_parts : (k : Kind) (into : ℕ) (up : Above) → is_way k into up ≡ true → (is_way_count k into (length up) ≡ true) × (starts [] up ≡ true)
way_parts kind.File into up h = (h, no_way up h)
way_parts kind.Dir into up h = way_counts (into == root) into up h

way_length : (k : Kind) (b : Bool) (n : ℕ) → (elim k [ kind.File ↦ n == 0 | kind.Dir ↦ cond b (n == 0) (nat_le 1 n && nat_le n 15) ]) ≡ true → n < 256
way_length kind.File b n h = grind (arith, nat_tests)
way_length kind.Dir true n h = grind (arith, nat_tests)
way_length kind.Dir false n h = grind (arith, nat_tests)

pub way_short : (k : Kind) (into : ℕ) (up : Above) → is_way k into up ≡ true → length up < 256
way_short kind.File into up h = way_length kind.File (into == root) (length up) h
way_short kind.Dir into up h = way_length kind.Dir (into == root) (length up) (way_parts kind.Dir into up h).0

pub way_fits : (k : Kind) (into : ℕ) (others : List ℕ) (up : Above) → IsWay k into others up → byte.fits (length up) ≡ true → list_all is_step up ≡ true → (way_fields k into others).fits up ≡ true
unfolding way_fields
way_fits k into others up h short steps =
    let parts = way_parts k into up h.way in
    let fresh : are_fresh (others ++ []) (ids_of up) ≡ true = ap (λ seen. are_fresh seen (ids_of up)) (append-nil others) ∙ fresh_is others (ids_of up) ∙ rw (h.apart, h.once) refl in
    and_from _ _ (and_from _ _ short parts.0) (steps_fit others [] up ∙ and_from _ _ steps (and_from _ _ fresh parts.1))

not_true : (b : Bool) → not b ≡ true → b ≡ false
not_true true h = absurd cc
not_true false h = refl

pub shift_parts : (dir into obj : ℕ) (k : Kind) (v : Option ℕ) (up : Above) → (distinct (dir ∷ into ∷ obj ∷ listed v ++ filter (λ o. not (o == dir)) (ids_of up)) && (distinct (ids_of up) && is_way k into up)) ≡ true
    → (distinct (dir ∷ into ∷ obj ∷ listed v) ≡ true) × IsWay k into (into ∷ obj ∷ listed v) up
shift_parts dir into obj k v up h =
    let os : List ℕ = into ∷ obj ∷ listed v in
    let a = and_parts (distinct (dir ∷ os ++ filter (λ o. not (o == dir)) (ids_of up))) _ h in
    let b = and_parts (distinct (ids_of up)) (is_way k into up) a.1 in
    let c = and_parts (distinct (dir ∷ os)) (not (list_any (λ o. member o (ids_of up)) os)) (sym (distinct_apart dir os (ids_of up) b.0) ∙ a.0) in
    (c.0, record { apart = not_true _ c.1; once = b.0; way = b.1 })
