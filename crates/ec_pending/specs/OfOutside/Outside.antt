-- Which operations are ordered before one of some others, by the objects of these.
use Rattle.std.specs.Prelude.{Bool, if◌then◌else◌, is_some}
use Rattle.std.specs.List.{list_any}
use Rattle.ec_base.specs.Tables.{Table, at}
use Rattle.ec_volume.specs.Update.{operands}
use Rattle.ec_volume.specs.declared.update.Update.{Update}
use Rattle.ec_order.specs.Order.{is_overwrite}

-- the operation is on one of the objects; an overwrite on one of those of operations that are none
abbrev pub is_after : Table (Unit {0}) → Table (Unit {0}) → Update → Bool
is_after objs others u = list_any (λ o. is_some (at o (if is_overwrite u then others else objs))) (operands u)
