-- Lemmas on the definitions of `Update` that several proofs cite.
use Rattle.std.proofs.Common.{◌≡◌, ℕ, ◌==◌, ◌||◌, List, ◌++◌}
use Rattle.std.proofs.lemmas.List.Folds.{list_any-append}
use Rattle.ec_volume.specs.Update.{member}

pub member-append : (o : ℕ) (xs ys : List ℕ) → member o (xs ++ ys) ≡ (member o xs || member o ys)
member-append o xs ys = list_any-append (λ p. o == p) xs ys
