-- Lemmas on the definitions of `Order` that several proofs cite.
use Rattle.std.proofs.Common.{◌<◌, ℕ, [], ◌∷◌, ◌++◌}
use Rattle.std.specs.Prelude.{T}
use Rattle.std.specs.Ordering.{nat_cmp}
use Rattle.std.specs.FinMap.Entries.{below_all}
use Rattle.ec_base.specs.SortedLaws.{first, second, both}
use Rattle.ec_volume.specs.declared.update.Update.{Update}
use Rattle.ec_order.specs.Order.{Issued}
use Rattle.ec_base.proofs.Bools.{is_lower}

pub below_more : (m : ℕ) (xs : Issued) (y : ℕ × Update) → T (below_all nat_cmp m xs) → m < y.0 → T (below_all nat_cmp m (xs ++ y ∷ []))
below_more m [] y h l = both _ _ (is_lower m y.0 l) tt
below_more m (x ∷ xs) y h l = both _ _ (first _ _ h) (below_more m xs y (second _ _ h) l)
