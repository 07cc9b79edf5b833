use Rattle.std.proofs.Common.{◌≡◌, ◌+◌, ◌≤◌, drop}
use Rattle.ec_echo.specs.Soak.{answers}
use Rattle.ec_echo.proofs.soaking.answers.Given as goal

abbrev pub invariant-counting : goal.invariant-counting
invariant-counting l = (l.count + answers (drop l.sort-index l.sorts) ≡ answers l.sorts) × (l.count ≤ l.sort-index)
