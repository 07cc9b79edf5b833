-- Sets of operations that hold what their members need.
use Rattle.std.specs.Prelude.{Bool, true, not, ◌&&◌, ◌||◌, List, [], ◌∷◌}
use Rattle.std.specs.List.{list_all}
use Rattle.ec_volume.specs.declared.update.Update.{Update}
use Rattle.ec_order.specs.Order.{needs}

-- Of these operations, in order, each that one inside needs and that stands before it is inside too.
abbrev pub holds_needed : {A : Type 0} → (A → Update) → (A → Bool) → List A → Bool
holds_needed update inside [] = true
holds_needed update inside (x ∷ xs) = (inside x || list_all (λ y. not (inside y && needs (update x) (update y))) xs) && holds_needed update inside xs
