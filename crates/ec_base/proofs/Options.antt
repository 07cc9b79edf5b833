-- Lemmas on options.
use Rattle.std.proofs.Common.{◌≡◌, Some, None, refl, T, ℕ, sym, subst, false, ◌==◌, ◌∙◌}
use Rattle.std.specs.Prelude.{Option, is_some}

pub none_some : {A : Type 0} {x : A} → None ≡ Some x → ⊥
none_some e = absurd (cc)

abbrev pub or_last : {X : Type 0} → Option X → Option X → Option X
or_last None o = o
or_last (Some x) o = Some x

pub some-at : {A : Type 0} (o : Option A) → T (is_some o) → (x : A) × (o ≡ Some x)
some-at None t = absurd t
some-at (Some x) t = (x, refl)

pub none-number : (a : ℕ) → ◌≡◌ {A = Option ℕ} None (Some a) → ⊥
none-number a e = cc

pub one_entry : (o p : ℕ) → Some o ≡ Some p → o ≡ p
one_entry o p e = cc

pub no-fault : {A : Type 0} {B : Type 0} {f : B} → Some f ≡ None → A
no-fault q = absurd (none_some (sym q))

pub some_same : {A : Type 0} (a b : A) → Some a ≡ Some b → a ≡ b
some_same a b e = cc e

pub none-some : {A : Type 0} {B : Type 0} (k : A) → ◌≡◌ {A = Option A} None (Some k) → B
none-some {A} k e = absurd (apart e)
  where
    apart : ◌≡◌ {A = Option A} None (Some k) → ⊥
    apart e = cc

pub other-clerk : (e c d : ℕ) → Some e ≡ Some c → (d == c) ≡ false → (d == e) ≡ false
other-clerk e c d p n = subst (λ k. (d == k) ≡ false) (sym (it p)) n
  where
    it : Some e ≡ Some c → e ≡ c
    it q = cc

pub some_once : {X : Type 0} (o : Option X) (x y : X) → o ≡ Some x → o ≡ Some y → x ≡ y
some_once o x y e f = let s : Some x ≡ Some y = sym e ∙ f in cc
