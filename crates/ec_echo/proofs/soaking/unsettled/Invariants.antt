use Rattle.std.proofs.Common.{◌≡◌, ◌+◌, ◌≤◌, drop}
use Rattle.ec_echo.specs.Soak.{unsettled}
use Rattle.ec_echo.proofs.soaking.unsettled.Given as goal

abbrev pub invariant-counting : goal.invariant-counting
invariant-counting l = (l.count + unsettled (drop l.sort-index l.sorts) ≡ unsettled l.sorts) × (l.count ≤ l.sort-index)
