-- Where the calls of the first lines began.
use Rattle.std.proofs.Common.{◌≡◌, refl, sym, ap, subst, ◌∙◌, arith, ◌≤◌, ℕ, zero, suc, List, [], ◌∷◌, ◌++◌, length, take}
use Rattle.ec_history.specs.declared.shown.Shown.{Shown}
use Rattle.ec_lines.specs.Index.{AreBegins}
use Rattle.ec_legal.proofs.Told.{front-of}
use Rattle.ec_lines.proofs.Onward.{as-many}
use Rattle.ec_base.proofs.Lists.{front-length}

take-none : (n : ℕ) → ◌≡◌ {A = List ℕ} (take n []) []
take-none zero = refl
take-none (suc n) = refl

begins-front : (past ss : List Shown) (bs : List ℕ) (n : ℕ) → AreBegins past ss bs → AreBegins past (take n ss) (take n bs)
begins-front past ss bs zero h = refl
begins-front past [] bs (suc n) h = ap (take (suc n)) h
begins-front past (s ∷ ss) [] (suc n) h = absurd h
begins-front past (s ∷ ss) (b ∷ bs) (suc n) h = (h.0, begins-front (past ++ s ∷ []) ss bs n h.1)

-- of lines up to a place and those up to one above it
pub begins-above : (ss : List Shown) (bs : List ℕ) (n m : ℕ) → n ≤ m → AreBegins [] (take m ss) bs → AreBegins [] (take n ss) (take n bs)
begins-above ss bs n m l h = subst (λ p. AreBegins [] p (take n bs)) (front-of ss n m l) (begins-front [] (take m ss) bs n h)

pub begins-reach : (ss : List Shown) (bs : List ℕ) (n m : ℕ) → n ≤ m → m ≤ length ss → AreBegins [] (take m ss) bs → n ≡ length (take n bs)
begins-reach ss bs n m l k h =
    let count = as-many [] (take m ss) bs h ∙ front-length ss m k in
    sym (front-length bs n (omega (arith, l, count)))
