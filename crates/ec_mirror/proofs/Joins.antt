-- What an opening makes of two disks.
use Rattle.std.proofs.Common.{◌≡◌, ◌≤◌, ◌<◌, ◌+◌, ℕ, List, length, Bool, true, false, refl, sym, ◌∙◌, ap, subst, arith}
use Rattle.std.proofs.lemmas.Bool.Decides.{nat_tests}
use Rattle.ec_half.specs.Contents.{Content, Rested}
use Rattle.ec_mirror.specs.Joins.{joined_of, lead}
use Rattle.ec_mirror.specs.Numbers.{Numbered}
use Rattle.ec_mirror.specs.declared.kept.Kept.{Kept}
use Rattle.ec_mirror.specs.declared.kept.Kept.TheVariants as left
use Rattle.ec_half.specs.OfSlots.Contents.{filled}

-- by which of them is greater
pub joined-first : (m n : ℕ) (a b : List ℕ) → n ≤ m → joined_of m n a b ≡ filled a (length b)
joined-first m n a b le = grind (arith, nat_tests, le)

pub joined-second : (m n : ℕ) (a b : List ℕ) → m < n → joined_of m n a b ≡ filled b (length a)
joined-second m n a b less = grind (arith, nat_tests, less)

pub joined-same : (m n i j : ℕ) (a b c d : List ℕ) → m ≡ i → n ≡ j → a ≡ c → b ≡ d → joined_of m n a b ≡ joined_of i j c d
joined-same m n i j a b c d first second one two =
    ap (λ (k : ℕ). joined_of k n a b) first ∙ ap (λ (k : ℕ). joined_of i k a b) second ∙ ap (λ (l : List ℕ). joined_of i j l b) one ∙ ap (λ (l : List ℕ). joined_of i j c l) two

both_not_second : left.Both ≡ left.Second → ⊥
both_not_second e = cc

both_not_first : left.Both ≡ left.First → ⊥
both_not_first e = cc

first_not_both : left.First ≡ left.Both → ⊥
first_not_both e = cc

second_not_both : left.Second ≡ left.Both → ⊥
second_not_both e = cc

-- what is read, where the first disk was the source, and where the second one was
pub lead-first : (joined : Bool) (kept : Kept) (a b : Content) (c : List ℕ) → (joined ≡ true → kept ≡ left.Both) → (joined ≡ false → kept ≡ left.First) → a.gives ≡ c → (lead kept a b).gives ≡ c
lead-first true kept a b c both alone is = subst (λ (k : Kept). (lead k a b).gives ≡ c) (sym (both refl)) is
lead-first false kept a b c both alone is = subst (λ (k : Kept). (lead k a b).gives ≡ c) (sym (alone refl)) is

pub lead-second : (joined : Bool) (kept : Kept) (a b : Content) (c : List ℕ) → (joined ≡ true → kept ≡ left.Both) → (joined ≡ false → kept ≡ left.Second) → (joined ≡ true → a.gives ≡ b.gives) → b.gives ≡ c → (lead kept a b).gives ≡ c
lead-second true kept a b c both alone alike is = subst (λ (k : Kept). (lead k a b).gives ≡ c) (sym (both refl)) (alike refl ∙ is)
lead-second false kept a b c both alone alike is = subst (λ (k : Kept). (lead k a b).gives ≡ c) (sym (alone refl)) is

-- both are kept only where both were joined
pub joined-both : (joined : Bool) (kept alone : Kept) → (joined ≡ false → kept ≡ alone) → (alone ≡ left.Both → ⊥) → kept ≡ left.Both → joined ≡ true
joined-both true kept alone is out both = refl
joined-both false kept alone is out both = absurd (out (sym (is refl) ∙ both))

pub first-alone : left.First ≡ left.Both → ⊥
first-alone e = first_not_both e

pub second-alone : left.Second ≡ left.Both → ⊥
second-alone e = second_not_both e

-- calls that rest on both
pub lead-rests : (kept : Kept) (a b c d : Content) → Rested a c → Rested b d → (lead kept c d).gives ≡ (lead kept a b).gives
lead-rests left.Both a b c d first second = first.gives
lead-rests left.Leaving a b c d first second = second.gives
lead-rests left.First a b c d first second = first.gives
lead-rests left.Second a b c d first second = second.gives

-- the generations behind a join
pub numbered-first : (joined : Bool) (kept : Kept) (f fm s sm n : ℕ) → (joined ≡ true → kept ≡ left.Both) → (joined ≡ false → kept ≡ left.First) → (joined ≡ true → f ≡ n) → (joined ≡ false → f ≡ n + 1) → (joined ≡ true → s ≡ n) → (joined ≡ true → fm ≤ n) → fm ≤ n + 1 → sm ≤ n → Numbered kept f fm s sm f
numbered-first true kept f fm s sm n both alone raised more other most most_alone other_most = record {
  first_is = λ out. refl;
  first_bound = λ out. omega (arith, raised refl, most refl);
  second_is = λ out. other refl ∙ sym (raised refl);
  second_bound = λ out. omega (arith, raised refl, other_most);
  first_older = λ e. absurd (both_not_second (sym (both refl) ∙ e));
  second_older = λ e. absurd (both_not_first (sym (both refl) ∙ e));
}
numbered-first false kept f fm s sm n both alone raised more other most most_alone other_most = record {
  first_is = λ out. refl;
  first_bound = λ out. omega (arith, more refl, most_alone);
  second_is = λ out. absurd (out (alone refl));
  second_bound = λ out. absurd (out (alone refl));
  first_older = λ e. absurd (first_not_second (sym (alone refl) ∙ e));
  second_older = λ e. omega (arith, more refl, other_most);
}
  where
    first_not_second : left.First ≡ left.Second → ⊥
    first_not_second e = cc

pub numbered-second : (joined : Bool) (kept : Kept) (f fm s sm n : ℕ) → (joined ≡ true → kept ≡ left.Both) → (joined ≡ false → kept ≡ left.Second) → (joined ≡ true → s ≡ n) → (joined ≡ false → s ≡ n + 1) → (joined ≡ true → f ≡ n) → (joined ≡ true → sm ≤ n) → sm ≤ n + 1 → fm ≤ n → Numbered kept f fm s sm s
numbered-second true kept f fm s sm n both alone raised more other most most_alone other_most = record {
  first_is = λ out. other refl ∙ sym (raised refl);
  first_bound = λ out. omega (arith, raised refl, other_most);
  second_is = λ out. refl;
  second_bound = λ out. omega (arith, raised refl, most refl);
  first_older = λ e. absurd (both_not_second (sym (both refl) ∙ e));
  second_older = λ e. absurd (both_not_first (sym (both refl) ∙ e));
}
numbered-second false kept f fm s sm n both alone raised more other most most_alone other_most = record {
  first_is = λ out. absurd (out (alone refl));
  first_bound = λ out. absurd (out (alone refl));
  second_is = λ out. refl;
  second_bound = λ out. omega (arith, more refl, most_alone);
  first_older = λ e. omega (arith, more refl, other_most);
  second_older = λ e. absurd (second_not_first (sym (alone refl) ∙ e));
}
  where
    second_not_first : left.Second ≡ left.First → ⊥
    second_not_first e = cc
