-- A base with a ring that no path reaches.
use Rattle.std.proofs.Common.{◌≡◌, refl, sym, subst, ◌∙◌, inl, inr, arith, ◌+◌, ◌≤◌, ◌⊎◌, ℕ, T, Bool, true, false, not, ◌==◌, cond, List, [], ◌∷◌, Some, None}
use Rattle.std.proofs.lemmas.Bool.{eqb-true, true≢false}
use Rattle.std.specs.FinMap.{is_sorted}
use Rattle.ec_volume.specs.Entries.{by_bytes, same_name, entry}
use Rattle.ec_volume.specs.Image.{is_gone, entries_of}
use Rattle.ec_volume.specs.Update.{root}
use Rattle.ec_volume.specs.Volume.{Names, WellFormed, AllReached, reach}
use Rattle.ec_volume.specs.declared.image.Image.{Image}
use Rattle.ec_volume.specs.declared.image.Image.TheVariants.{Gone, Dir}
use Rattle.ec_history.specs.OfLaws.Bases.{IsBase}
use Rattle.ec_history.specs.OfLaws.FormedExample.{a, ring}
use Rattle.ec_history.proofs.OfLaws.ForFormed.Entries.{same_name-is, found-with}
use Rattle.ec_base.proofs.Options.{none-number}

-- the image of an object, by whether it is the first, second or third one
abbrev by : Bool → Bool → Bool → Image
by x y z = cond x (Dir 493 0 0 []) (cond y (Dir 493 0 0 ((a, 3) ∷ [])) (cond z (Dir 493 0 0 ((a, 2) ∷ [])) Gone))

some_is : (m n : ℕ) → Some m ≡ Some n → n ≡ m
some_is m n q = cc

abbrev Leads : ℕ → List ℕ → ℕ → Type 0
Leads d n o = ((d ≡ 2) × (n ≡ a) × (o ≡ 3)) ⊎ ((d ≡ 3) × (n ≡ a) × (o ≡ 2))

leads : (d : ℕ) (n : List ℕ) (o : ℕ) → Names ring.volume d n o → Leads d n o
leads d n o h = go (d == 1) (d == 2) (d == 3) refl refl h
  where
    one : (k : ℕ) (b : Bool) → same_name n a ≡ b → cond b (Some k) None ≡ Some o → (n ≡ a) × (o ≡ k)
    one k true e q = (same_name-is n a e, some_is k o q)
    one k false e q = absurd (none-number o q)

    go : (x y z : Bool) → (d == 2) ≡ y → (d == 3) ≡ z → entry (entries_of (by x y z)) n ≡ Some o → Leads d n o
    go true y z ey ez q = absurd (none-number o q)
    go false true z ey ez q = let e = one 3 (same_name n a) refl (sym (found-with [] a 3 n) ∙ q) in inl (eqb-true d 2 ey, e.0, e.1)
    go false false true ey ez q = let e = one 2 (same_name n a) refl (sym (found-with [] a 2 n) ∙ q) in inr (eqb-true d 3 ez, e.0, e.1)
    go false false false ey ez q = absurd (none-number o q)

-- the numbers of an object that is second and third
apart : (o : ℕ) → o ≡ 3 → o ≡ 2 → ⊥
apart o p q = omega (arith, p, q)

ring-formed : WellFormed ring.volume
ring-formed = record {
  maps = λ d. sorted (d == 1) (d == 2) (d == 3);
  root_is_dir = tt;
  root_unnamed = λ d n h. elim (leads d n root h) [ inl p ↦ no_root root 3 p.2 (omega arith) refl | inr p ↦ no_root root 2 p.2 (omega arith) refl ];
  named = λ o l r. named o r (o == 1) (o == 2) (o == 3) refl refl refl l;
  once = λ o d e m n h k. elim (leads d m o h) [
    | inl p ↦ elim (leads e n o k) [ inl q ↦ (p.0 ∙ sym q.0, p.1 ∙ sym q.1) | inr q ↦ absurd (apart o p.2 q.2) ]
    | inr p ↦ elim (leads e n o k) [ inl q ↦ absurd (apart o q.2 p.2) | inr q ↦ (p.0 ∙ sym q.0, p.1 ∙ sym q.1) ]
  ];
  live = λ o d n h. elim (leads d n o h) [
    | inl p ↦ subst (λ x. T (not (is_gone (ring.volume x)))) (sym p.2) tt
    | inr p ↦ subst (λ x. T (not (is_gone (ring.volume x)))) (sym p.2) tt
  ];
}
  where
    sorted : (x y z : Bool) → T (is_sorted by_bytes (entries_of (by x y z)))
    sorted true y z = tt
    sorted false true z = tt
    sorted false false true = tt
    sorted false false false = tt

    no_root : (r k : ℕ) → r ≡ k → 2 ≤ k → r ≡ 1 → ⊥
    no_root r k e l f = omega (arith, e, l, f)

    named : (o : ℕ) → (o ≡ root → ⊥) → (x y z : Bool) → (o == 1) ≡ x → (o == 2) ≡ y → (o == 3) ≡ z → T (not (is_gone (by x y z))) → (d : ℕ) × (n : List ℕ) × Names ring.volume d n o
    named o r true y z ex ey ez l = absurd (r (eqb-true o 1 ex))
    named o r false true z ex ey ez l = (3, a, subst (Names ring.volume 3 a) (sym (eqb-true o 2 ey)) refl)
    named o r false false true ex ey ez l = (2, a, subst (Names ring.volume 2 a) (sym (eqb-true o 3 ez)) refl)
    named o r false false false ex ey ez l = absurd l

pub base-ring : IsBase ring
base-ring = record {
  formed = ring-formed;
  gone = λ p l. go (3 + p == 1) (3 + p == 2) (3 + p == 3) (above p 1 l (omega arith)) (above p 2 l (omega arith)) (above p 3 l (omega arith));
  apart = λ p q e. omega (arith, e);
}
  where
    above : (p n : ℕ) → 1 ≤ p → n ≤ 3 → (3 + p == n) ≡ false
    above p n l m = grind arith

    go : (x y z : Bool) → x ≡ false → y ≡ false → z ≡ false → T (is_gone (by x y z))
    go true y z e f g = absurd (true≢false e)
    go false true z e f g = absurd (true≢false f)
    go false false true e f g = absurd (true≢false g)
    go false false false e f g = tt

pub ring-unreached : ¬ AllReached ring.volume
ring-unreached all = let way = all 2 tt in lost way.0 way.1
  where
    lost : (path : List (List ℕ)) → reach ring.volume root path ≡ Some 2 → ⊥
    lost [] e = let one : 2 ≡ 1 = some_is 1 2 e in omega (arith, one)
    lost (n ∷ ns) e = none-number 2 e
