-- Rising lists, by recursion.
use Rattle.std.proofs.Common.{◌≡◌, ◌==◌, ◌+◌, ◌<◌, ◌≤◌, inl, inr, ℕ, zero, suc, if◌then◌else◌, nat_lt, List, [], ◌∷◌, ◌++◌, get_or, refl, sym, ap, subst, arith, add-one, append-nil}
use Rattle.std.specs.List.Sorted.{IsStrictlyIncreasing}
use Rattle.std.proofs.lemmas.Bool.{cases_Bool, ltb-true, ltb-false, eq-eqb}
use Rattle.ec_sessions.specs.WindowMarks.{times}
use Rattle.ec_sessions.specs.Slots.{without, run, sixteen, with_ids}
use Rattle.ec_base.proofs.Lists.{Above, Rises}
use Rattle.ec_base.proofs.Bools.{as_one}

pub increasing_from : (xs : List ℕ) → Rises xs → IsStrictlyIncreasing xs
increasing_from [] h k l = absurd (omega arith)
increasing_from (x ∷ []) h k l = absurd (omega arith)
increasing_from (x ∷ y ∷ ys) h zero l = h.0.0
increasing_from (x ∷ y ∷ ys) h (suc k) l =
    let rest : get_or (y ∷ ys) k 0 < get_or (y ∷ ys) (k + 1) 0 = increasing_from (y ∷ ys) h.1 k (omega arith) in
    rw add-one (rw add-one at rest)

above_lower : (m n : ℕ) (xs : List ℕ) → m < n → Above n xs → Above m xs
above_lower m n [] l h = tt
above_lower m n (x ∷ xs) l h = (omega arith, above_lower m n xs l h.1)

above_append : (n : ℕ) (xs ys : List ℕ) → Above n xs → Above n ys → Above n (xs ++ ys)
above_append n [] ys h k = k
above_append n (x ∷ xs) ys h k = (h.0, above_append n xs ys h.1 k)

-- one taken out

above-without : (n gone : ℕ) (ids : List ℕ) → Above n ids → Above n (without gone ids)
above-without n gone [] h = tt
above-without n gone (id ∷ ids) h =
    elim (cases_Bool (id == gone)) [
      | inl e ↦ subst (Above n) (sym (ap (λ b. if b then ids else id ∷ without gone ids) e)) h.1
      | inr e ↦ subst (Above n) (sym (ap (λ b. if b then ids else id ∷ without gone ids) e)) (h.0, above-without n gone ids h.1)
    ]

pub rises-without : (gone : ℕ) (ids : List ℕ) → Rises ids → Rises (without gone ids)
rises-without gone [] h = tt
rises-without gone (id ∷ ids) h =
    elim (cases_Bool (id == gone)) [
      | inl e ↦ subst Rises (sym (ap (λ b. if b then ids else id ∷ without gone ids) e)) h.1
      | inr e ↦ subst Rises (sym (ap (λ b. if b then ids else id ∷ without gone ids) e)) (above-without id gone ids h.0, rises-without gone ids h.1)
    ]

-- sixteen put in

above-run : (n first k : ℕ) → n < first → Above n (run first k)
above-run n first zero l = tt
above-run n first (suc k) l = (l, above-run n (first + 1) k (omega arith))

-- a run before ids that are above it
rises-run : (first k : ℕ) (ids : List ℕ) → ((n : ℕ) → n < first + k → Above n ids) → Rises ids → Rises (run first k ++ ids)
rises-run first zero ids a h = h
rises-run first (suc k) ids a h = (
  above_append first (run (first + 1) k) ids (above-run first (first + 1) k (omega arith)) (a first (omega arith)),
  rises-run (first + 1) k ids (λ n l. a n (omega arith)) h,
)

above-with_ids : (n first : ℕ) (ids : List ℕ) → n < first → Above n ids → Above n (with_ids first ids)
unfolding sixteen
above-with_ids n first [] l h = above-run n first 16 l
above-with_ids n first (id ∷ ids) l h =
    elim (cases_Bool (nat_lt id first)) [
      | inl e ↦ subst (Above n) (sym (ap (λ b. if b then id ∷ with_ids first ids else run first 16 ++ id ∷ ids) e)) (h.0, above-with_ids n first ids l h.1)
      | inr e ↦ subst (Above n) (sym (ap (λ b. if b then id ∷ with_ids first ids else run first 16 ++ id ∷ ids) e)) (above_append n (run first 16) (id ∷ ids) (above-run n first 16 l) h)
    ]

-- none of the sixteen is there
abbrev pub Misses : ℕ → List ℕ → Type 0
Misses first ids = (id : ℕ) → first ≤ id → id < first + 16 → times id ids ≡ 0

misses_tail : (first id : ℕ) (ids : List ℕ) → Misses first (id ∷ ids) → Misses first ids
misses_tail first id ids m k l h = omega (arith, m k l h)

misses_head : (first id : ℕ) (ids : List ℕ) → Misses first (id ∷ ids) → first ≤ id → first + 16 ≤ id
misses_head first id ids m l =
    elim (cases_Bool (nat_lt id (first + 16))) [
      | inl e ↦ absurd (omega (arith, m id l (ltb-true id (first + 16) e), ap as_one (eq-eqb id id refl)))
      | inr e ↦ ltb-false id (first + 16) e
    ]

pub rises-with_ids : (first : ℕ) (ids : List ℕ) → Misses first ids → Rises ids → Rises (with_ids first ids)
unfolding sixteen
rises-with_ids first [] m h = subst Rises (append-nil (run first 16)) (rises-run first 16 [] (λ n l. tt) tt)
rises-with_ids first (id ∷ ids) m h =
    elim (cases_Bool (nat_lt id first)) [
      | inl e ↦
          subst Rises (sym (ap (λ b. if b then id ∷ with_ids first ids else run first 16 ++ id ∷ ids) e))
          (above-with_ids id first ids (ltb-true id first e) h.0, rises-with_ids first ids (misses_tail first id ids m) h.1)
      | inr e ↦
          let far : first + 16 ≤ id = misses_head first id ids m (ltb-false id first e) in
          subst Rises (sym (ap (λ b. if b then id ∷ with_ids first ids else run first 16 ++ id ∷ ids) e))
          (rises-run first 16 (id ∷ ids) (λ n l. (omega arith, above_lower n id ids (omega arith) h.0)) h)
    ]
