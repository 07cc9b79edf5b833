-- Rows whose numbers rise.
use Rattle.std.proofs.Common.{◌≡◌, ℕ, zero, suc, ◌+◌, ◌-◌, ◌≤◌, drop, Bool, true, false, ◌&&◌, List, [], ◌∷◌, ◌++◌, map, length, Option, Some, None, refl, sym, ap, ◌∙◌, arith}
use Rattle.std.specs.Prelude.{slice_get, nat_lt}
use Rattle.std.specs.List.{list_all}
use Rattle.ec_base.specs.Tables.{keys}
use Rattle.ec_codes.specs.Formats.{Format, rows_fit}
use Rattle.ec_wire.specs.Messages.{rises}
use Rattle.ec_wire.specs.Codes.{last_of, is_over, row_after}

last_more : {X : Type 0} (x : X) (xs : List X) → slice_get xs (length xs - 1) ≡ last_of xs → slice_get (x ∷ xs) (length (x ∷ xs) - 1) ≡ last_of (x ∷ xs)
last_more x [] h = refl
last_more x (y ∷ xs) h =
    let k : length (x ∷ y ∷ xs) - 1 ≡ suc (length (y ∷ xs) - 1) = omega arith in
    ap (slice_get (x ∷ y ∷ xs)) k ∙ h

pub last_is : {X : Type 0} (xs : List X) → slice_get xs (length xs - 1) ≡ last_of xs
last_is [] = refl
last_is (x ∷ xs) = last_more x xs (last_is xs)

last_pushed : {X : Type 0} (xs : List X) (x : X) → last_of (xs ++ x ∷ []) ≡ Some x
last_pushed [] x = refl
last_pushed (y ∷ []) x = refl
last_pushed (y ∷ z ∷ xs) x = last_pushed (z ∷ xs) x

-- the numbers rise, behind this one
abbrev pub rises_over : Option ℕ → List ℕ → Bool
rises_over None [] = true
rises_over (Some m) [] = true
rises_over None (n ∷ ns) = rises_over (Some n) ns
rises_over (Some m) (n ∷ ns) = nat_lt m n && rises_over (Some n) ns

rises_behind : (n : ℕ) (ns : List ℕ) → rises_over (Some n) ns ≡ rises (n ∷ ns)
rises_behind n [] = refl
rises_behind n (m ∷ ns) = ap (λ b. nat_lt n m && b) (rises_behind m ns)

pub rises_all : (ns : List ℕ) → rises_over None ns ≡ rises ns
rises_all [] = refl
rises_all (n ∷ ns) = rises_behind n ns

abbrev pub key_of : {X : Type 0} → Option (ℕ × X) → Option ℕ
key_of None = None
key_of (Some e) = Some e.0

over_more : {X : Type 0} (o : Option (ℕ × X)) (n : ℕ) (ns : List ℕ) → rises_over (key_of o) (n ∷ ns) ≡ (is_over o n && rises_over (Some n) ns)
over_more None n ns = refl
over_more (Some e) n ns = refl

-- the number and what stands beside it are in their ranges
abbrev pub is_row : {X : Type 0} → Format ℕ → Format X → ℕ × X → Bool
is_row K V e = K.fits e.0 && V.fits e.1

and_group : (v a r : Bool) → (v && (a && r)) ≡ ((v && a) && r)
and_group true a r = refl
and_group false a r = refl

row_group : (k o v a r : Bool) → (((k && o) && v) && (a && r)) ≡ (((k && v) && a) && (o && r))
row_group false o v a r = refl
row_group true false false a r = refl
row_group true false true true r = refl
row_group true false true false r = refl
row_group true true v a r = and_group v a r

over_none : {X : Type 0} (o : Option (ℕ × X)) → true ≡ (true && rises_over (key_of o) [])
over_none None = refl
over_none (Some e) = refl

pub rows_rise : {X : Type 0} (K : Format ℕ) (V : Format X) (before rows : List (ℕ × X)) → rows_fit (row_after K V) before rows ≡ (list_all (is_row K V) rows && rises_over (key_of (last_of before)) (keys rows))
rows_rise K V before [] = over_none (last_of before)
rows_rise K V before (e ∷ es) =
    ap (λ r. ((K.fits e.0 && is_over (last_of before) e.0) && V.fits e.1) && r)
    (rows_rise K V (before ++ e ∷ []) es ∙ ap (λ o. list_all (is_row K V) es && rises_over (key_of o) (keys es)) (last_pushed before e))
    ∙ row_group (K.fits e.0) (is_over (last_of before) e.0) (V.fits e.1) (list_all (is_row K V) es) (rises_over (Some e.0) (keys es))
    ∙ ap (λ r. ((K.fits e.0 && V.fits e.1) && list_all (is_row K V) es) && r) (sym (over_more (last_of before) e.0 (keys es)))

-- A number behind the last one.

abbrev pub is_next : Option ℕ → ℕ → Bool
is_next None n = true
is_next (Some m) n = nat_lt m n

pub next_more : (o : Option ℕ) (n : ℕ) (ns : List ℕ) → rises_over o (n ∷ ns) ≡ (is_next o n && rises_over (Some n) ns)
next_more None n ns = refl
next_more (Some m) n ns = refl

pub next_none : (o : Option ℕ) → rises_over o [] ≡ true
next_none None = refl
next_none (Some m) = refl

-- The rows from a place on.

pub drop_here : {X : Type 0} (xs : List X) (i : ℕ) (x : X) → slice_get xs i ≡ Some x → drop i xs ≡ x ∷ drop (i + 1) xs
drop_here [] i x h = absurd cc
drop_here (y ∷ xs) zero x h = ap (λ z. z ∷ xs) (let e : Some y ≡ Some x = h in cc)
drop_here (y ∷ xs) (suc i) x h = let k : suc i + 1 ≡ suc (i + 1) = omega arith in drop_here xs i x h ∙ ap (λ n. x ∷ drop n (y ∷ xs)) (sym k)

pub drop_past : {X : Type 0} (xs : List X) (i : ℕ) → length xs ≤ i → drop i xs ≡ []
drop_past [] zero h = refl
drop_past [] (suc i) h = refl
drop_past (y ∷ xs) zero h = absurd (omega arith)
drop_past (y ∷ xs) (suc i) h = drop_past xs i (omega arith)
