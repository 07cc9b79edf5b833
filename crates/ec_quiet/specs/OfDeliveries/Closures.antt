-- Write-behind, told by lines: in a script without faults a durable line names operations in a closure that its line of the script asks for.
use Rattle.std.specs.Prelude.{ℕ, List}
use Rattle.ec_volume.specs.Update.{member}
use Rattle.ec_order.specs.Order.{InClosure, Issued}
use Rattle.ec_history.specs.History.{Base, issued, of_issue}
use Rattle.ec_history.specs.Placing.{begun, place, watch}
use Rattle.ec_history.specs.declared.shown.Shown.{Shown}
use Rattle.ec_log.specs.Choice.{numbers_asked}
use Rattle.ec_log.specs.declared.state.Asked.{Asked}

-- all operations that the clerk's running start issued, as these lines show; and those that are kept: without losses these are all
abbrev pub operations : Base → ℕ → List Shown → Issued
operations base c ss = of_issue c (begun (watch c ss)).starts (issued base (place ss))

-- The operation is in the closure of what is asked: of the operations on an object, of one operation, or of all.
abbrev pub IsInClosureOf : Asked → Issued → ℕ → Type 0
IsInClosureOf a ops n = InClosure ops (λ m. member m (numbers_asked a ops)) n
