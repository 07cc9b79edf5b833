-- What chosen operations need of the earlier ones, as two maps tell it.
use Rattle.std.specs.Prelude.{ℕ, Bool, true, ◌||◌, List, [], length, Option, None, Some, is_some}
use Rattle.std.specs.List.{list_any}
use Rattle.ec_base.specs.Tables.{Table, at, at_or}
use Rattle.ec_volume.specs.Update.{operands}
use Rattle.ec_volume.specs.declared.update.Update.{Update}
use Rattle.ec_volume.specs.declared.update.Update.TheVariants.{Put}
use Rattle.ec_order.specs.Order.{meet}
use Rattle.ec_order.specs.declared.needed.needed.Range.{Range}

-- the objects on which an operation is chosen that is no overwrite
abbrev pub Others : Type 0
Others = List (ℕ × Unit {0})

-- the ranges of the chosen overwrites of each file
abbrev pub Ranges : Type 0
Ranges = Table (List (ℕ × ℕ))

abbrev pub is_on : ℕ → Others → Ranges → Bool
is_on o others ranges = is_some (at o others) || is_some (at o ranges)

-- the bytes of an overwrite
abbrev pub range_of : Update → Option Range
range_of (Put o m xs true) = Some (record { obj = o; at = m; len = length xs })
range_of _ = None

-- A chosen operation needs this earlier one: one on a common object, where not both are overwrites, or an overwrite whose range meets its own.
abbrev pub is_needed : Others → Ranges → Update → Bool
is_needed others ranges u =
    elim (range_of u) [
      | Some r ↦ is_some (at r.obj others) || list_any (λ q. meet r.at r.len q.0 q.1) (at_or [] r.obj ranges)
      | None ↦ list_any (λ o. is_on o others ranges) (operands u)
    ]
