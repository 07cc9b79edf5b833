-- The first line of a call stands in the piece of its number: what each line of a piece is known to be of.
use Rattle.std.proofs.Common.{◌≡◌, refl, sym, subst, ◌∙◌, inl, inr, arith, ◌⊎◌, ◌+◌, ℕ, suc, Bool, true, false, ◌||◌, length, List, [], ◌∷◌, ◌++◌, append-nil, append_assoc}
use Rattle.std.specs.Bool.{OnFalse}
use Rattle.std.specs.List.{list_any}
use Rattle.std.proofs.lemmas.List.Folds.{list_any-append}
use Rattle.ec_plain.specs.declared.call.Call.{Call}
use Rattle.ec_history.specs.Placing.{EachLine, is_numbered}
use Rattle.ec_history.specs.declared.shown.Shown.{Shown}
use Rattle.ec_history.specs.declared.shown.Shown.TheVariants as show
use Rattle.ec_lawful.specs.Headline.{ArePieces, IsIn, IsPiece, Pieces, joined}
use Rattle.ec_lawful.specs.Calls.{IsOf}
use Rattle.ec_base.proofs.Numbers.{same-self as same}
use Rattle.ec_base.proofs.Bools.{or_right}

-- what holds of each line by two facts, and by each of them
module _ (P Q : ℕ → ℕ → Call → Type 0) where
  abbrev pub Two : ℕ → ℕ → Call → Type 0
  Two l c cl = P l c cl × Q l c cl

  pub two-lines : (ss : List Shown) → EachLine (IsOf P) ss → EachLine (IsOf Q) ss → EachLine (IsOf Two) ss
  two-lines [] e f = tt
  two-lines (s ∷ ss) e f = (its s e.0 f.0, two-lines ss e.1 f.1)
    where
      its : (s : Shown) → IsOf P s → IsOf Q s → IsOf Two s
      its (show.Waits l c cl) e f = (e, f)
      its (show.Answered l c cl a op) e f = (e, f)
      its _ e f = tt

  pub one-lines : (ss : List Shown) → EachLine (IsOf Two) ss → EachLine (IsOf P) ss
  one-lines [] e = tt
  one-lines (s ∷ ss) e = (its s e.0, one-lines ss e.1)
    where
      its : (s : Shown) → IsOf Two s → IsOf P s
      its (show.Waits l c cl) e = e.0
      its (show.Answered l c cl a op) e = e.0
      its _ e = tt

  pub other-lines : (ss : List Shown) → EachLine (IsOf Two) ss → EachLine (IsOf Q) ss
  other-lines [] e = tt
  other-lines (s ∷ ss) e = (its s e.0, other-lines ss e.1)
    where
      its : (s : Shown) → IsOf Two s → IsOf Q s
      its (show.Waits l c cl) e = e.1
      its (show.Answered l c cl a op) e = e.1
      its _ e = tt

-- the number is this one, or a line before has it
abbrev pub IsKnown : List Shown → ℕ → ℕ → ℕ → Call → Type 0
IsKnown past k l c cl = (l ≡ k) ⊎ (list_any (is_numbered l) past ≡ true)

or-first : (a b : Bool) → a ≡ true → (a || b) ≡ true
or-first true b e = refl
or-first false b e = absurd (cc)

-- each line of these is of a number that is in them
pub own-known : (past : List Shown) (k : ℕ) (ss : List Shown) → ((l : ℕ) → list_any (is_numbered l) ss ≡ true → list_any (is_numbered l) past ≡ true) → EachLine (IsOf (IsKnown past k)) ss
own-known past k [] f = tt
own-known past k (s ∷ ss) f = (its s (λ l e. f l (or-first (is_numbered l s) (list_any (is_numbered l) ss) e)), own-known past k ss (λ l e. f l (or_right (is_numbered l s) (list_any (is_numbered l) ss) e)))
  where
    its : (s : Shown) → ((l : ℕ) → is_numbered l s ≡ true → list_any (is_numbered l) past ≡ true) → IsOf (IsKnown past k) s
    its (show.Waits l c cl) g = inr (g l (same l))
    its (show.Answered l c cl a op) g = inr (g l (same l))
    its _ g = tt

pub behind-lines : (Q : Shown → Type 0) (xs ys : List Shown) → EachLine Q (xs ++ ys) → EachLine Q ys
behind-lines Q [] ys e = e
behind-lines Q (x ∷ xs) ys e = behind-lines Q xs ys e.1

known-more : (l : ℕ) (past more : List Shown) → list_any (is_numbered l) past ≡ true → list_any (is_numbered l) (past ++ more) ≡ true
known-more l past more e = list_any-append (is_numbered l) past more ∙ or-first (list_any (is_numbered l) past) (list_any (is_numbered l) more) e

-- so a piece of such lines is one of this number
pub known-piece : (k : ℕ) (past more piece : List Shown) → EachLine (IsOf (IsKnown past k)) piece → IsPiece k (past ++ more) piece
known-piece k past more [] e = tt
known-piece k past more (s ∷ ss) e = (its s e.0, subst (λ x. IsPiece k x ss) (sym (append_assoc past more (s ∷ []))) (known-piece k past (more ++ s ∷ []) ss e.1))
  where
    on : (l : ℕ) → (l ≡ k) ⊎ (list_any (is_numbered l) past ≡ true) → OnFalse (list_any (is_numbered l) (past ++ more)) (l ≡ k)
    on l (inl q) = go (list_any (is_numbered l) (past ++ more))
      where
        go : (b : Bool) → OnFalse b (l ≡ k)
        go true = tt
        go false = q
    on l (inr q) = subst (λ b. OnFalse b (l ≡ k)) (sym (known-more l past more q)) tt

    its : (s : Shown) → IsOf (IsKnown past k) s → IsIn k (past ++ more) s
    its (show.Waits l c cl) e = on l e
    its (show.Answered l c cl a op) e = on l e
    its _ e = tt

-- one piece more
pub pieces-push : (k n : ℕ) (past : List Shown) (ps : Pieces) (p : List Shown) → n ≡ k + length ps → ArePieces k past ps → IsPiece n (past ++ joined ps) p → ArePieces k past (ps ++ p ∷ [])
pieces-push k n past [] p q a i = (subst (λ x. IsPiece x past p) (q ∙ none k) (subst (λ x. IsPiece n x p) (append-nil past) i), tt)
  where
    none : (k : ℕ) → k + 0 ≡ k
    none k = omega arith
pieces-push k n past (o ∷ ps) p q a i = (a.0, pieces-push (k + 1) n (past ++ o) ps p (q ∙ next k (length ps)) a.1 (subst (λ x. IsPiece n x p) (sym (append_assoc past o (joined ps))) i))
  where
    next : (k n : ℕ) → k + suc n ≡ k + 1 + n
    next k n = omega arith
