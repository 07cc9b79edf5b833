-- A change of a list of pairs whose keys rise, in another order.
use Rattle.std.proofs.Common.{◌≡◌, List, None, Some, Bool, true, false, cond, refl, sym, ap, ◌∙◌}
use Rattle.std.specs.Prelude.{T}
use Rattle.std.specs.declared.cmp.Ordering.{Ordering}
use Rattle.std.specs.declared.cmp.Ordering.TheVariants.{Less, Equal, Greater}
use Rattle.std.specs.Ordering.{is_eq, eq_by_cmp}
use Rattle.std.specs.Cmp.{IsTotalOrder}
use Rattle.std.specs.FinMap.{IsAntisymmetric, find, put, is_sorted}
use Rattle.std.specs.FinMap.Entries.{is_sorted-put, is_sorted-where_key, find-put, same_entries}
use Rattle.ec_base.specs.Sorted.{without}
use Rattle.ec_base.specs.SortedLaws.{find-without}

equal : (r : Ordering) → is_eq r ≡ true → r ≡ Equal
equal Equal e = refl
equal Less e = cc
equal Greater e = cc

-- of two tests that don't both hold, either may come first
commuted : {A : Type 0} (b p : Bool) (x y z : A) → (b ≡ true → p ≡ false) → cond p z (cond b x y) ≡ cond b x (cond p z y)
commuted true true x y z h = absurd (let e : true ≡ false = h refl in cc)
commuted true false x y z h = refl
commuted false p x y z h = refl

module _ {K X : Type 0} (R : K → K → Ordering) (o : IsTotalOrder R) (same : IsAntisymmetric R) where
  -- a key that goes, and another one that is put
  pub without-put : (k m : K) (v : X) (es : List (K × X)) → T (is_sorted R es) → eq_by_cmp R k m ≡ false → without R k (put R m v es) ≡ put R m v (without R k es)
  without-put k m v es h other =
      same_entries R o same _ _ (is_sorted-where_key R _ _ (is_sorted-put R o m v es h)) (is_sorted-put R o m v _ (is_sorted-where_key R _ es h))
      (λ q. find-without R o q k (put R m v es) ∙ ap (cond (eq_by_cmp R k q) None) (find-put R o q m v es)
      ∙ commuted (eq_by_cmp R q m) (eq_by_cmp R k q) (Some v) (find R q es) None (λ t. ap (λ n. eq_by_cmp R k n) (same q m (equal (R q m) t)) ∙ other)
      ∙ ap (cond (eq_by_cmp R q m) (Some v)) (sym (find-without R o q k es)) ∙ sym (find-put R o q m v (without R k es)))
