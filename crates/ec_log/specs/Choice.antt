-- A pick, by the numbers of the closure.
use Rattle.std.specs.Prelude.{ℕ, List, filter}
use Rattle.ec_base.specs.Tables.{keys}
use Rattle.ec_order.specs.Order.{Issued}
use Rattle.ec_log.specs.Log.{is_asked}
use Rattle.ec_log.specs.declared.state.Asked.{Asked}

-- the numbers of what is asked for by itself
abbrev pub numbers_asked : Asked → Issued → List ℕ
numbers_asked a xs = keys (filter (is_asked a) xs)
