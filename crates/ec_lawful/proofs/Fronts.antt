-- Lines and pieces one more: how many ends each front of them asks for and shows.
use Rattle.std.proofs.Common.{◌≡◌, refl, sym, ap, subst, ◌∙◌, arith, ◌≤◌, ◌+◌, ℕ, zero, suc, Bool, true, false, cond, length, List, [], ◌∷◌, ◌++◌, append-nil, append_assoc}
use Rattle.std.specs.Prelude.{nat_le, take}
use Rattle.std.specs.List.{filter}
use Rattle.std.proofs.lemmas.List.{length-append}
use Rattle.std.proofs.lemmas.List.Elements.{filter-append}
use Rattle.ec_history.specs.declared.shown.Shown.{Shown}
use Rattle.ec_protocol.specs.declared.script.Line.{Line}
use Rattle.ec_lawful.specs.Headline.{AreEndsAsked, Lines, Pieces, joined, may_end}
use Rattle.ec_lawful.specs.Asked.{asked_by, ended_by}
use Rattle.ec_base.specs.Bools.{one_if}

-- What lines ask for.

asked-more : (c : ℕ) (xs ys : Lines) → asked_by (xs ++ ys) c ≡ asked_by xs c + asked_by ys c
asked-more c xs ys = ap length (filter-append (may_end c) xs ys) ∙ length-append _ _

pub asked-line : (c : ℕ) (xs : Lines) (l : Line) → asked_by (xs ++ l ∷ []) c ≡ asked_by xs c + one_if (may_end c l)
asked-line c xs l = asked-more c xs (l ∷ []) ∙ ap (λ n. asked_by xs c + n) (go (may_end c l))
  where
    go : (b : Bool) → length (cond b (l ∷ []) []) ≡ one_if b
    go true = refl
    go false = refl

-- a front of fewer lines asks for no more
asked-front : (c k : ℕ) (xs ys : Lines) → asked_by (take k xs) c ≤ asked_by (take k (xs ++ ys)) c
asked-front c zero xs ys = omega arith
asked-front c (suc k) [] ys = none (asked_by (take (suc k) ys) c)
  where
    none : (n : ℕ) → 0 ≤ n
    none n = omega arith
asked-front c (suc k) (x ∷ xs) ys = go (may_end c x) (asked-front c k xs ys)
  where
    one : (n m : ℕ) → n ≤ m → suc n ≤ suc m
    one n m p = omega (arith, p)

    go : (b : Bool) → asked_by (take k xs) c ≤ asked_by (take k (xs ++ ys)) c → length (cond b (x ∷ filter (may_end c) (take k xs)) (filter (may_end c) (take k xs))) ≤ length (cond b (x ∷ filter (may_end c) (take k (xs ++ ys))) (filter (may_end c) (take k (xs ++ ys))))
    go true p = one (asked_by (take k xs) c) (asked_by (take k (xs ++ ys)) c) p
    go false p = p

-- Fronts.

module _ {X : Type 0} where
  take-all : (k : ℕ) (xs : List X) → length xs ≤ k → take k xs ≡ xs
  take-all zero [] p = refl
  take-all (suc k) [] p = refl
  take-all zero (x ∷ xs) p = absurd (none (length xs) p)
    where
      none : (n : ℕ) → suc n ≤ 0 → ⊥
      none n p = omega (arith, p)
  take-all (suc k) (x ∷ xs) p = ap (λ ys. x ∷ ys) (take-all k xs (less (length xs) k p))
    where
      less : (n m : ℕ) → suc n ≤ suc m → n ≤ m
      less n m p = omega (arith, p)

  take-front : (k : ℕ) (xs ys : List X) → k ≤ length xs → take k (xs ++ ys) ≡ take k xs
  take-front zero xs ys p = refl
  take-front (suc k) [] ys p = absurd (none k p)
    where
      none : (n : ℕ) → suc n ≤ 0 → ⊥
      none n p = omega (arith, p)
  take-front (suc k) (x ∷ xs) ys p = ap (λ zs. x ∷ zs) (take-front k xs ys (less k (length xs) p))
    where
      less : (n m : ℕ) → suc n ≤ suc m → n ≤ m
      less n m p = omega (arith, p)

-- with more lines behind them
pub fronts-more : (lines more : Lines) (pieces : Pieces) → AreEndsAsked lines pieces → AreEndsAsked (lines ++ more) pieces
fronts-more lines more pieces a = λ c k p. further (ended_by c (joined (take k pieces))) (asked_by (take k lines) c) (asked_by (take k (lines ++ more)) c) (a c k p) (asked-front c k lines more)
  where
    further : (a b d : ℕ) → a ≤ b → b ≤ d → a ≤ d
    further a b d p q = omega (arith, p, q)

-- with one piece more, which all lines so far ask for
pub fronts-push : (lines : Lines) (pieces : Pieces) (p : List Shown) → AreEndsAsked lines pieces → length lines ≤ length pieces + 1 → ((c : ℕ) → ended_by c (joined (pieces ++ p ∷ [])) ≤ asked_by lines c) → AreEndsAsked lines (pieces ++ p ∷ [])
fronts-push lines pieces p a few now = λ c k q. go c k q (nat_le k (length pieces)) refl
  where
    below : (k n : ℕ) → nat_le k n ≡ true → k ≤ n
    below k n e = grind arith

    above : (k n : ℕ) → nat_le k n ≡ false → n + 1 ≤ k
    above k n e = grind arith

    further : (a b d : ℕ) → a ≤ b → b ≤ d → a ≤ d
    further a b d p q = omega (arith, p, q)

    go : (c k : ℕ) → k ≤ length (pieces ++ p ∷ []) → (z : Bool) → nat_le k (length pieces) ≡ z → ended_by c (joined (take k (pieces ++ p ∷ []))) ≤ asked_by (take k lines) c
    go c k q true e = subst (λ x. ended_by c (joined x) ≤ asked_by (take k lines) c) (sym (take-front k pieces (p ∷ []) (below k (length pieces) e))) (a c k (below k (length pieces) e))
    go c k q false e =
        let more = above k (length pieces) e in
        subst (λ x. ended_by c (joined x) ≤ asked_by (take k lines) c) (sym (take-all k (pieces ++ p ∷ []) (subst (λ n. n ≤ k) (sym (length-append pieces (p ∷ []))) more)))
        (subst (λ x. ended_by c (joined (pieces ++ p ∷ [])) ≤ asked_by x c) (sym (take-all k lines (further (length lines) (length pieces + 1) k few more))) (now c))

pub joined-push : (ps : Pieces) (p : List Shown) → joined (ps ++ p ∷ []) ≡ joined ps ++ p
joined-push [] p = append-nil p
joined-push (q ∷ ps) p = ap (λ x. q ++ x) (joined-push ps p) ∙ sym (append_assoc q (joined ps) p)
