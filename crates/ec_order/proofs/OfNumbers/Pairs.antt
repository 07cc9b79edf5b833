-- Which of two starts is which.
use Rattle.std.proofs.Common.{◌≡◌, refl, ap, ◌∙◌, arith, ℕ, ◌==◌, ◌&&◌}
use Rattle.std.specs.BTreeMap.{is_at}
use Rattle.std.specs.Ordering.{is_eq, nat_cmp, ordering_then}
use Rattle.std.specs.declared.cmp.Ordering.{Ordering}
use Rattle.std.specs.declared.cmp.Ordering.TheVariants.{Less, Equal, Greater}
use Rattle.std.proofs.lemmas.Bool.Decides.{nat_tests}
use Rattle.ec_order.specs.OfNumbers.Starts.{start_cmp}

both : (x y : Ordering) → is_eq (ordering_then x y) ≡ (is_eq x && is_eq y)
both Less y = refl
both Equal y = refl
both Greater y = refl

one : (m n : ℕ) → is_eq (nat_cmp m n) ≡ (m == n)
one m n = grind (arith, nat_tests)

pub at-start : (c b d e : ℕ) → is_at (start_cmp (c, b)) (d, e) ≡ ((c == d) && (b == e))
at-start c b d e = both (nat_cmp c d) (nat_cmp b e) ∙ ap (λ x. x && is_eq (nat_cmp b e)) (one c d) ∙ ap (λ x. (c == d) && x) (one b e)
