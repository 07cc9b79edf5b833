-- The free slots that aren't used yet.
use Rattle.std.specs.Prelude.{ℕ, List, drop}
use Rattle.ec_store.specs.declared.plan.Placing.{Placing}

abbrev pub free_now : Placing → List ℕ
free_now placing = drop placing.used placing.free.items
