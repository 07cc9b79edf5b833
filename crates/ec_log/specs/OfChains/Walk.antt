-- Closures of the operations that pass a test.
use Rattle.std.specs.Prelude.{◌==◌, ℕ, Bool, true, ◌||◌, if◌then◌else◌, [], ◌∷◌}
use Rattle.std.specs.List.{list_any}
use Rattle.ec_volume.specs.Update.{has_operand}
use Rattle.ec_order.specs.Order.{Issued, needs}
use Rattle.ec_volume.specs.declared.update.Update.{Update}
use Rattle.ec_log.specs.declared.chains.closure.Ask.{Ask}
use Rattle.ec_log.specs.declared.chains.closure.Ask.TheVariants.{Object, Op, All}

abbrev pub passes : Ask → ℕ × Update → Bool
passes (Object obj) x = has_operand obj x.1
passes (Op op) x = x.0 == op
passes All x = true

-- One by one from the last to the first: those that pass the test, and those that a later one of them needs.
abbrev pub walk : (ℕ × Update → Bool) → Issued → Issued
walk p [] = []
walk p (x ∷ xs) = if p x || list_any (λ y. needs x.1 y.1) (walk p xs) then x ∷ walk p xs else walk p xs
