-- A path is its parent's path and its last name.
use Rattle.std.proofs.Common.{◌≡◌, refl, sym, ap, subst, ◌∙◌, arith, ℕ, suc, T, true, ◌&&◌, ◌-◌, ◌+◌, List, [], ◌∷◌, ◌++◌, length, take}
use Rattle.std.specs.Prelude.{nat_le}
use Rattle.std.specs.Ordering.{is_eq}
use Rattle.std.specs.Cmp.{tied_itself}
use Rattle.std.specs.Cmp.Lexicographic.{nat_list_cmp_total}
use Rattle.std.specs.FinMap.{nat_cmp-IsAntisymmetric, slice_cmp-IsAntisymmetric}
use Rattle.std.proofs.lemmas.List.{length_push}
use Rattle.std.specs.declared.cmp.Ordering.{Ordering}
use Rattle.std.specs.declared.cmp.Ordering.TheVariants.{Less, Equal, Greater}
use Rattle.ec_volume.specs.Entries.{by_bytes, same_name}
use Rattle.ec_plain.specs.Walk.{Path, parent_of, last_of, same_path}
use Rattle.ec_plain.specs.BoundedCalls.{is_short}
use Rattle.ec_base.proofs.Bools.{is-true}

equal : (r : Ordering) → T (is_eq r) → r ≡ Equal
equal Less h = absurd h
equal Equal h = refl
equal Greater h = absurd h

pub same_name-is : (m n : List ℕ) → T (same_name m n) → m ≡ n
same_name-is m n h = slice_cmp-IsAntisymmetric nat_cmp-IsAntisymmetric m n (equal (by_bytes m n) h)

pub same_name-self : (n : List ℕ) → T (same_name n n)
same_name-self n = subst (λ r. T (is_eq r)) (sym (tied_itself nat_list_cmp_total n)) tt

parent-more : (m n : List ℕ) (ns : Path) → parent_of (m ∷ n ∷ ns) ≡ m ∷ parent_of (n ∷ ns)
parent-more m n ns = ap (λ i. take i (m ∷ n ∷ ns)) (next (length ns))
  where
    next : (l : ℕ) → suc (suc l) - 1 ≡ suc (suc l - 1)
    next l = omega arith

pub parent-last : (n : List ℕ) (ns : Path) → parent_of (n ∷ ns) ++ last_of (n ∷ ns) ∷ [] ≡ n ∷ ns
parent-last n [] = refl
parent-last n (m ∷ ns) = ap (λ ms. ms ++ last_of (m ∷ ns) ∷ []) (parent-more n m ns) ∙ ap (λ ms. n ∷ ms) (parent-last m ns)

pub parent-short : (n : List ℕ) (ns : Path) → T (is_short (n ∷ ns)) → nat_le (length (parent_of (n ∷ ns))) 15 ≡ true
parent-short n ns h = fewer (length (parent_of (n ∷ ns))) (length (n ∷ ns)) (sym (ap length (parent-last n ns)) ∙ length_push (parent_of (n ∷ ns)) (last_of (n ∷ ns))) (is-true (nat_le (length (n ∷ ns)) 16) h)
  where
    fewer : (k l : ℕ) → l ≡ k + 1 → nat_le l 16 ≡ true → nat_le k 15 ≡ true
    fewer k l e h = grind arith

same_path-self : (p : Path) → same_path p p ≡ true
same_path-self [] = refl
same_path-self (n ∷ ns) = λ i. is-true (same_name n n) (same_name-self n) i && same_path-self ns i

pub path-same : (m : List ℕ) (ms : Path) (n : List ℕ) (ns : Path) → parent_of (m ∷ ms) ≡ parent_of (n ∷ ns) → last_of (m ∷ ms) ≡ last_of (n ∷ ns) → same_path (m ∷ ms) (n ∷ ns) ≡ true
path-same m ms n ns above last =
    let path : m ∷ ms ≡ n ∷ ns = sym (parent-last m ms) ∙ (λ i. above i ++ last i ∷ []) ∙ parent-last n ns in
    sym (ap (λ p. same_path (m ∷ ms) p) path) ∙ same_path-self (m ∷ ms)
