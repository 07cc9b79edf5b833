-- Lemmas on equality.
use Rattle.std.proofs.Common.{◌≡◌, true, false, subst}

pub apart-two : false ≡ true → ⊥
apart-two e = cc

pub true_false : true ≡ false → ⊥
true_false e = cc e

pub not_false : true ≡ false → ⊥
not_false e = cc

pub moved : {A B C : Type 0} (P : A → B → C → Type 0) (a : A) (b : B) (c : C) (x : A) (y : B) (z : C) → P a b c → a ≡ x → b ≡ y → c ≡ z → P x y z
moved P a b c x y z h p q r = subst (λ v. P x y v) r (subst (λ v. P x v c) q (subst (λ v. P v b c) p h))
