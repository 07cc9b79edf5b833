-- Ages of sessions: they rise by boot, then by round.
use Rattle.std.specs.Prelude.{◌==◌, Bool, ◌||◌, ◌&&◌, nat_lt}
use Rattle.ec_base.specs.declared.ids.Age.{Age}

abbrev pub is_older : Age → Age → Bool
is_older a b = nat_lt a.boot b.boot || ((a.boot == b.boot) && nat_lt a.round b.round)
