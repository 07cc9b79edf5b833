-- How often numbers stand in lists: none twice, all of them within a range, and no more of them than in another list.
use Rattle.std.proofs.Common.{◌≡◌, ◌==◌, ℕ, ◌+◌, ◌≤◌, Bool, true, false, not, ◌||◌, if◌then◌else◌, List, [], ◌∷◌, length, T, refl, sym, ap, subst, ◌∙◌, arith, inl, inr}
use Rattle.std.specs.List.{list_all}
use Rattle.std.proofs.lemmas.Bool.{cases_eq, cases_lt, eq-eqb, ne_eqb}
use Rattle.ec_base.specs.SortedLaws.{first, second, both}
use Rattle.ec_volume.specs.Update.{member, distinct}
use Rattle.ec_sessions.specs.WindowMarks.{times}
use Rattle.ec_sessions.specs.Slots.{without}
use Rattle.ec_base.proofs.Bools.{clash, or-right, as_one}

pub here : (o x : ℕ) (xs : List ℕ) → x ≡ o → times o (x ∷ xs) ≡ 1 + times o xs
here o x xs e = ap (λ b. (if b then 1 else 0) + times o xs) (eq-eqb x o e)

pub there : (o x : ℕ) (xs : List ℕ) → (x ≡ o → ⊥) → times o (x ∷ xs) ≡ times o xs
there o x xs n = ap (λ b. (if b then 1 else 0) + times o xs) (ne_eqb x o n) ∙ omega arith

pub more : (o x : ℕ) (xs : List ℕ) → times o xs ≤ times o (x ∷ xs)
more o x xs = elim (cases_eq x o) [ inl e ↦ omega (arith, here o x xs e) | inr n ↦ omega (arith, there o x xs n) ]

-- Members.

is_there : (o : ℕ) (xs : List ℕ) → 1 ≤ times o xs → T (member o xs)
is_there o [] h = absurd (omega (arith, h))
is_there o (x ∷ xs) h =
    elim (cases_eq x o) [
      | inl e ↦ subst (λ b. T (b || member o xs)) (sym (eq-eqb o x (sym e))) tt
      | inr n ↦ or-right (o == x) (member o xs) (is_there o xs (omega (arith, h, there o x xs n)))
    ]

stands : (o : ℕ) (xs : List ℕ) → T (member o xs) → 1 ≤ times o xs
stands o [] h = absurd h
stands o (x ∷ xs) h =
    elim (cases_eq x o) [
      | inl e ↦ omega (arith, here o x xs e)
      | inr n ↦ omega (arith, there o x xs n, stands o xs (subst (λ b. T (b || member o xs)) (ne_eqb o x (λ e. n (sym e))) h))
    ]

nowhere : (o : ℕ) (xs : List ℕ) → times o xs ≤ 0 → T (not (member o xs))
nowhere o xs h =
    elim (member o xs) as (λ b. (T b → 1 ≤ times o xs) → T (not b)) [
      | true ↦ λ s. absurd (omega (arith, h, s tt))
      | false ↦ λ s. tt
    ] (stands o xs)

pub no_times : (o : ℕ) (xs : List ℕ) → T (not (member o xs)) → times o xs ≤ 0
no_times o xs h =
    elim (cases_lt 0 (times o xs)) [
      | inl l ↦ absurd (clash (member o xs) h (is_there o xs (omega (arith, l))))
      | inr l ↦ l
    ]

-- none stands twice
pub apart_once : (xs : List ℕ) → ((id : ℕ) → times id xs ≤ 1) → T (distinct xs)
apart_once [] h = tt
apart_once (x ∷ xs) h =
    both _ _ (nowhere x xs (omega (arith, h x, here x x xs refl))) (apart_once xs (λ id. omega (arith, h id, more id x xs)))

pub once_apart : (xs : List ℕ) → T (distinct xs) → (id : ℕ) → times id xs ≤ 1
once_apart [] h id = omega arith
once_apart (x ∷ xs) h id =
    let rest : times id xs ≤ 1 = once_apart xs (second _ _ h) id in
    elim (cases_eq x id) [
      | inl e ↦ omega (arith, here id x xs e, subst (λ k. times k xs ≤ 0) e (no_times x xs (first _ _ h)))
      | inr n ↦ omega (arith, there id x xs n, rest)
    ]

-- each one passes a test
pub all_pass : (p : ℕ → Bool) (xs : List ℕ) → ((id : ℕ) → 1 ≤ times id xs → T (p id)) → T (list_all p xs)
all_pass p [] h = tt
all_pass p (x ∷ xs) h =
    both _ _ (h x (omega (arith, here x x xs refl))) (all_pass p xs (λ id s. h id (omega (arith, s, more id x xs))))

pub each_passes : (p : ℕ → Bool) (xs : List ℕ) → T (list_all p xs) → (id : ℕ) → 1 ≤ times id xs → T (p id)
each_passes p [] h id s = absurd (omega (arith, s))
each_passes p (x ∷ xs) h id s =
    elim (cases_eq x id) [
      | inl e ↦ subst (λ k. T (p k)) e (first _ _ h)
      | inr n ↦ each_passes p xs (second _ _ h) id (omega (arith, s, there id x xs n))
    ]

-- one taken out
pub out_times : (x id : ℕ) (ys : List ℕ) → 1 ≤ times x ys → times id (without x ys) + as_one (x == id) ≡ times id ys
out_times x id [] s = absurd (omega (arith, s))
out_times x id (y ∷ ys) s =
    elim (cases_eq y x) [
      | inl e ↦ ap (λ b. times id (if b then ys else y ∷ without x ys) + as_one (x == id)) (eq-eqb y x e) ∙ omega (arith, ap (λ k. as_one (k == id)) e)
      | inr n ↦ ap (λ b. times id (if b then ys else y ∷ without x ys) + as_one (x == id)) (ne_eqb y x n) ∙ omega (arith, out_times x id ys (omega (arith, s, there x y ys n)))
    ]

out_length : (x : ℕ) (ys : List ℕ) → 1 ≤ times x ys → length (without x ys) + 1 ≡ length ys
out_length x [] s = absurd (omega (arith, s))
out_length x (y ∷ ys) s =
    elim (cases_eq y x) [
      | inl e ↦ ap (λ b. length (if b then ys else y ∷ without x ys) + 1) (eq-eqb y x e) ∙ omega arith
      | inr n ↦ ap (λ b. length (if b then ys else y ∷ without x ys) + 1) (ne_eqb y x n) ∙ omega (arith, out_length x ys (omega (arith, s, there x y ys n)))
    ]

-- none stands more often, so there are no more
pub no_longer : (xs ys : List ℕ) → ((id : ℕ) → times id xs ≤ times id ys) → length xs ≤ length ys
no_longer [] ys h = omega arith
no_longer (x ∷ xs) ys h =
    let s : 1 ≤ times x ys = omega (arith, h x, here x x xs refl) in
    omega (arith, out_length x ys s, no_longer xs (without x ys) (λ id. omega (arith, h id, out_times x id ys s)))
