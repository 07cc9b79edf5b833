-- Numbers that all stand in a list, each once.
use Rattle.std.proofs.Common.{◌≡◌, refl, sym, ap, subst, ◌∙◌, arith, ◌≤◌, ℕ, suc, T, Bool, true, false, ◌==◌, ◌||◌, cond, List, [], ◌∷◌, length}
use Rattle.std.specs.Prelude.{⊤}
use Rattle.std.proofs.lemmas.Bool.{eqb-true, true≢false}
use Rattle.ec_base.specs.Tables.{Table, keys}
use Rattle.ec_volume.specs.Update.{member}
use Rattle.ec_base.proofs.Numbers.{same-self}

abbrev pub AreOnce : List ℕ → Type 0
AreOnce [] = ⊤
AreOnce (x ∷ xs) = ((y : ℕ) → T (member y xs) → (y == x) ≡ false) × AreOnce xs

-- the list without the first x
abbrev less-one : ℕ → List ℕ → List ℕ
less-one x [] = []
less-one x (y ∷ ys) = cond (x == y) ys (y ∷ less-one x ys)

one-less : (x : ℕ) (ys : List ℕ) → T (member x ys) → length ys ≡ suc (length (less-one x ys))
one-less x [] m = absurd m
one-less x (y ∷ ys) m = go (x == y) m (one-less x ys)
  where
    go : (b : Bool) → T (b || member x ys) → (T (member x ys) → length ys ≡ suc (length (less-one x ys))) → suc (length ys) ≡ suc (length (cond b ys (y ∷ less-one x ys)))
    go true m r = refl
    go false m r = ap suc (r m)

still-there : (x z : ℕ) (ys : List ℕ) → (z == x) ≡ false → T (member z ys) → T (member z (less-one x ys))
still-there x z [] e m = absurd m
still-there x z (y ∷ ys) e m = go (x == y) refl (z == y) refl m (still-there x z ys e)
  where
    go : (a : Bool) → (x == y) ≡ a → (b : Bool) → (z == y) ≡ b → T (b || member z ys) → (T (member z ys) → T (member z (less-one x ys))) → T (member z (cond a ys (y ∷ less-one x ys)))
    go true p true q m r = absurd (true≢false (sym (ap (λ w. w == x) (eqb-true z y q ∙ sym (eqb-true x y p)) ∙ same-self x) ∙ e))
    go true p false q m r = m
    go false p true q m r = subst (λ b. T (b || member z (less-one x ys))) (sym q) tt
    go false p false q m r = subst (λ b. T (b || member z (less-one x ys))) (sym q) (r m)

pub fewer : (xs ys : List ℕ) → AreOnce xs → ((x : ℕ) → T (member x xs) → T (member x ys)) → length xs ≤ length ys
fewer [] ys o h = omega arith
fewer (x ∷ xs) ys o h =
    let here : T (member x ys) = h x (subst (λ b. T (b || member x xs)) (sym (same-self x)) tt) in
    let rest : length xs ≤ length (less-one x ys) = fewer xs (less-one x ys) o.1 (λ z m. still-there x z ys (o.0 z m) (h z (later (z == x) (member z xs) m))) in
    omega (arith, rest, one-less x ys here)
  where
    later : (a b : Bool) → T b → T (a || b)
    later true b m = tt
    later false b m = m

pub keys-length : {X : Type 0} (es : Table X) → length (keys es) ≡ length es
keys-length [] = refl
keys-length (e ∷ es) = ap suc (keys-length es)
