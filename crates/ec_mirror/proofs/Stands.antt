-- How the disks of a mirror stand to it.
use Rattle.std.specs.Prelude.{◌≡◌, ◌⊎◌, ◌≤◌, ℕ, List, [], ◌∷◌, Bool, true, false}
use Rattle.std.proofs.Common.{refl, sym, subst, ◌∙◌, inl, inr, ⊎_elim, arith}
use Rattle.ec_base.specs.Outside.{Rose}
use Rattle.ec_disk.specs.Disk.{View, Counts}
use Rattle.ec_half.specs.Contents.{Content}
use Rattle.ec_mirror.specs.Joins.{lead}
use Rattle.ec_mirror.specs.Disks.{IsOne, faults_in}
use Rattle.ec_mirror.specs.Shown.{first_of, second_of, shown_by, shown, LeftOf}
use Rattle.ec_mirror.specs.declared.kept.Kept.{Kept}
use Rattle.ec_mirror.specs.declared.kept.Kept.TheVariants as left
use Rattle.ec_mirror.specs.declared.pair.Pair.{Pair}
use Rattle.ec_mirror.proofs.Lives.{gives-live, shown-live}

-- the one that was handed in
one-is : {D : Type 0} (from : List D) → IsOne from → (before : D) × (from ≡ before ∷ [])
one-is [] one = absurd (grind (arith, one))
one-is (before ∷ []) one = (before, refl)
one-is (before ∷ (other ∷ more)) one = absurd (grind (arith, one))

-- since a disk was handed in, its count hasn't fallen, and rose where it has failed
pub later-in : {D : Type 0} (counts : D → Counts) (from : List D) (now : D) → IsOne from → ((before : D) → from ≡ before ∷ [] → (counts before).faults ≤ (counts now).faults) → faults_in counts from ≤ (counts now).faults
later-in {D} counts from now one later = subst (λ (l : List D). faults_in counts l ≤ (counts now).faults) (sym (one-is from one).1) (later (one-is from one).0 (one-is from one).1)

pub rose-in : {D : Type 0} (counts : D → Counts) (from : List D) (now : D) → IsOne from → ((before : D) → from ≡ before ∷ [] → Rose (counts before).faults (counts now).faults) → Rose (faults_in counts from) (counts now).faults
rose-in {D} counts from now one rose = subst (λ (l : List D). Rose (faults_in counts l) (counts now).faults) (sym (one-is from one).1) (rose (one-is from one).0 (one-is from one).1)

-- one of two has failed
pub one-of : (first second : Bool) (P Q : Type 0) → (first ≡ true → P) → (second ≡ true → Q) → (first ≡ false → second ≡ true) → P ⊎ Q
one-of true second P Q p q other = inl (p refl)
one-of false second P Q p q other = inr (q (other refl))

-- what a crash may leave of a disk that isn't dropped
left-first : (k : Kept) (a b : Content) (c : List ℕ) → (k ≡ left.Second → ⊥) → a.may_leave c → LeftOf k a b c
left-first left.Both a b c out is = inl is
left-first left.Leaving a b c out is = inl is
left-first left.First a b c out is = is
left-first left.Second a b c out is = absurd (out refl)

left-second : (k : Kept) (a b : Content) (c : List ℕ) → (k ≡ left.First → ⊥) → b.may_leave c → LeftOf k a b c
left-second left.Both a b c out is = inr is
left-second left.Leaving a b c out is = inr is
left-second left.First a b c out is = absurd (out refl)
left-second left.Second a b c out is = is

-- what the second disk gives
gives-so : (k : Kept) (a b : Content) → (k ≡ left.Leaving → ⊥) → (k ≡ left.First → ⊥) → (k ≡ left.Both → a.gives ≡ b.gives) → (lead k a b).gives ≡ b.gives
gives-so left.Both a b stands out alike = alike refl
gives-so left.Leaving a b stands out alike = absurd (stands refl)
gives-so left.First a b stands out alike = absurd (out refl)
gives-so left.Second a b stands out alike = refl

module _ {A B : Type 0} {p : _} {q : _} {r : _} {s : _} (first : A → View) (second : B → View) where
  pub second-gives : (frozen : List (Pair A B p q r s)) (pair : Pair A B p q r s) (saved : List ℕ) → frozen ≡ [] → (pair.kept ≡ left.Leaving → ⊥) → (pair.kept ≡ left.First → ⊥) → (pair.kept ≡ left.Both → (first_of first second pair).gives ≡ (second_of first second pair).gives) → (shown_by first second frozen pair saved).gives ≡ (second_of first second pair).gives
  second-gives frozen pair saved is stands out alike = gives-live first second frozen pair saved is ∙ gives-so pair.kept (first_of first second pair) (second_of first second pair) stands out alike

  pub first-left : (frozen : List (Pair A B p q r s)) (pair : Pair A B p q r s) (saved : List ℕ) (c : List ℕ) → frozen ≡ [] → (pair.kept ≡ left.Second → ⊥) → (first_of first second pair).may_leave c → (shown_by first second frozen pair saved).may_leave c
  first-left frozen pair saved c is out may = shown-live first second (λ x. x.may_leave c) frozen pair saved is (inl (left-first pair.kept (first_of first second pair) (second_of first second pair) c out may))

  pub second-left : (frozen : List (Pair A B p q r s)) (pair : Pair A B p q r s) (saved : List ℕ) (c : List ℕ) → frozen ≡ [] → (pair.kept ≡ left.First → ⊥) → (second_of first second pair).may_leave c → (shown_by first second frozen pair saved).may_leave c
  second-left frozen pair saved c is out may = shown-live first second (λ x. x.may_leave c) frozen pair saved is (inl (left-second pair.kept (first_of first second pair) (second_of first second pair) c out may))
