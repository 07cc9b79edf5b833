-- Numbers in lists, by their places.
use Rattle.std.proofs.Common.{◌≡◌, ◌⊎◌, ◌≤◌, ◌<◌, ◌+◌, ◌∙◌, inl, inr, refl, sym, ap, subst, arith, ℕ, zero, suc, T, Bool, true, false, List, [], ◌∷◌, length, take, drop, get_or}
use Rattle.std.specs.Prelude.{◌==◌, ◌||◌, nat_lt}
use Rattle.std.specs.List.{AllWithin}
use Rattle.std.specs.List.Sorted.{IsNonDecreasing}
use Rattle.std.proofs.lemmas.Bool.{true≢false, cases_Bool, ltb-true}
use Rattle.std.proofs.lemmas.Bool.Decides.{nat_tests}
use Rattle.ec_volume.specs.Update.{member}
use Rattle.ec_base.proofs.Bools.{or-right, is-true as from-true, holds-true}

or-left : (a b : Bool) → a ≡ true → T (a || b)
or-left true b e = tt
or-left false b e = absurd (true≢false (sym e))

pub same-number : (m n : ℕ) → T (m == n) → m ≡ n
same-number m n t = grind (arith, nat_tests, from-true (m == n) t)

itself : (m n : ℕ) → m ≡ n → (n == m) ≡ true
itself m n e = grind (arith, nat_tests, e)

pub member-first : (n m : ℕ) (ns : List ℕ) → T (member n (m ∷ ns)) → (n ≡ m) ⊎ T (member n ns)
member-first n m ns t = go (n == m) refl t
  where
    go : (b : Bool) → (n == m) ≡ b → T (b || member n ns) → (n ≡ m) ⊎ T (member n ns)
    go true e t = inl (same-number n m (holds-true (n == m) e))
    go false e t = inr t

pub member-at : (n : ℕ) (ns : List ℕ) → T (member n ns) → (i : ℕ) × (i < length ns) × ((d : ℕ) → get_or ns i d ≡ n)
member-at n [] t = absurd t
member-at n (m ∷ ns) t = elim (member-first n m ns t) [
  | inl e ↦ (0, omega arith, λ d. sym e)
  | inr r ↦ let p = member-at n ns r in let l = p.1 in (suc p.0, omega (arith, l), p.2)
]

pub at-member : (n i : ℕ) (ns : List ℕ) → i < length ns → ((d : ℕ) → get_or ns i d ≡ n) → T (member n ns)
at-member n i [] l e = absurd (omega (arith, l))
at-member n zero (m ∷ ns) l e = or-left (n == m) (member n ns) (itself m n (e 0))
at-member n (suc i) (m ∷ ns) l e = or-right (n == m) (member n ns) (at-member n i ns (omega (arith, l)) e)

pub front-member : (n i r : ℕ) (ns : List ℕ) → i < r → i < length ns → ((d : ℕ) → get_or ns i d ≡ n) → T (member n (take r ns))
front-member n i zero ns f l e = absurd (omega (arith, f))
front-member n i (suc r) [] f l e = absurd (omega (arith, l))
front-member n zero (suc r) (m ∷ ns) f l e = or-left (n == m) (member n (take r ns)) (itself m n (e 0))
front-member n (suc i) (suc r) (m ∷ ns) f l e = or-right (n == m) (member n (take r ns)) (front-member n i r ns (omega (arith, f)) (omega (arith, l)) e)

-- a member of the first ones is before their end
pub member-front : (n r : ℕ) (ns : List ℕ) → T (member n (take r ns)) → (i : ℕ) × (i < r) × (i < length ns) × ((d : ℕ) → get_or ns i d ≡ n)
member-front n zero ns t = absurd t
member-front n (suc r) [] t = absurd t
member-front n (suc r) (m ∷ ns) t = elim (member-first n m (take r ns) t) [
  | inl e ↦ (0, omega arith, omega arith, λ d. sym e)
  | inr u ↦ let p = member-front n r ns u in let a = p.1 in let b = p.2 in (suc p.0, omega (arith, a), omega (arith, b), p.3)
]

-- the first ones, and one more
pub member-next : (n r : ℕ) (ns : List ℕ) (m : ℕ) → m ≡ get_or ns r m → T (member n (take (r + 1) ns)) → (n ≡ m → ⊥) → T (member n (take r ns))
member-next n r ns m e t other =
    let p = member-front n (r + 1) ns t in
    let low = p.1 in
    let l = p.2 in
    elim (cases_Bool (nat_lt p.0 r)) [
      | inl b ↦ front-member n p.0 r ns (ltb-true p.0 r b) l p.3
      | inr b ↦
          let at : p.0 ≡ r = last p.0 low b in
          absurd (other (sym (p.3 m) ∙ ap (λ k. get_or ns k m) at ∙ sym e))
    ]
  where
    last : (k : ℕ) → k < r + 1 → nat_lt k r ≡ false → k ≡ r
    last k low b = grind (arith, nat_tests, low, b)

-- behind a place, and one fewer
behind-next : (n r : ℕ) (ns : List ℕ) (m : ℕ) → m ≡ get_or ns r m → T (member n (drop r ns)) → (n ≡ m) ⊎ T (member n (drop (suc r) ns))
behind-next n zero [] m e t = absurd t
behind-next n zero (k ∷ ns) m e t = elim (member-first n k ns t) [ inl s ↦ inl (s ∙ sym e) | inr u ↦ inr u ]
behind-next n (suc r) [] m e t = absurd t
behind-next n (suc r) (k ∷ ns) m e t = behind-next n r ns m e t

pub member-behind : (n r : ℕ) (ns : List ℕ) (m : ℕ) → m ≡ get_or ns r m → T (member n (drop r ns)) → (n ≡ m) ⊎ T (member n (drop (r + 1) ns))
member-behind n r ns m e t = subst (λ k. (n ≡ m) ⊎ T (member n (drop k ns))) (next r) (behind-next n r ns m e t)
  where
    next : (r : ℕ) → suc r ≡ r + 1
    next r = omega arith

-- a member behind a place stands there or later
pub behind-at : (n r : ℕ) (ns : List ℕ) → T (member n (drop r ns)) → (i : ℕ) × (r ≤ i) × (i < length ns) × ((d : ℕ) → get_or ns i d ≡ n)
behind-at n zero ns t = let p = member-at n ns t in let l = p.1 in (p.0, omega arith, l, p.2)
behind-at n (suc r) [] t = absurd t
behind-at n (suc r) (m ∷ ns) t = let p = behind-at n r ns t in let a = p.1 in let b = p.2 in (suc p.0, omega (arith, a), omega (arith, b), p.3)

-- Of rising numbers.

pub most-of-front : (n r : ℕ) (ns : List ℕ) (m : ℕ) → IsNonDecreasing ns → r < length ns → m ≡ get_or ns r m → T (member n (take (r + 1) ns)) → n ≤ m
most-of-front n r ns m up l e t =
    let p = member-front n (r + 1) ns t in
    let low = p.1 in
    let rises = up p.0 r m (omega (arith, low)) l in
    let a = p.3 m in
    omega (arith, rises, a, e)

pub least-behind : (n r : ℕ) (ns : List ℕ) (m : ℕ) → IsNonDecreasing ns → m ≡ get_or ns r m → T (member n (drop r ns)) → m ≤ n
least-behind n r ns m up e t =
    let p = behind-at n r ns t in
    let rises = up r p.0 m p.1 p.2 in
    let a = p.3 m in
    omega (arith, rises, a, e)

-- By a test that the first ones pass, and none behind them.

module _ (p : ℕ → Bool) (ns : List ℕ) (r : ℕ) where
  pub passing-in-front : AllWithin (λ y. p y ≡ false) ns r (length ns) → (n : ℕ) → p n ≡ true → T (member n ns) → T (member n (take r ns))
  passing-in-front behind n e t =
      let q = member-at n ns t in
      elim (cases_Bool (nat_lt q.0 r)) [
        | inl b ↦ front-member n q.0 r ns (ltb-true q.0 r b) q.1 q.2
        | inr b ↦ absurd (true≢false (sym e ∙ ap p (sym (q.2 n)) ∙ behind q.0 n (late q.0 b) q.1))
      ]
    where
      late : (k : ℕ) → nat_lt k r ≡ false → r ≤ k
      late k b = grind (arith, nat_tests, b)

  pub in-front-passing : AllWithin (λ y. p y ≡ true) ns 0 r → (n : ℕ) → T (member n (take r ns)) → p n ≡ true
  in-front-passing front n t = let q = member-front n r ns t in ap p (sym (q.3 n)) ∙ front q.0 n (omega arith) q.1
