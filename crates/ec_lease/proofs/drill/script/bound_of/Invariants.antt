use Rattle.std.proofs.Common.{◌≡◌, ◌≤◌, [], length, map, drop}
use Rattle.ec_lease_machine.specs.Drill.{named_in}
use Rattle.ec_lease.specs.OfDrill.Lines.{read_of, each_noted}
use Rattle.ec_lease.proofs.drill.script.bound_of.Given as goal

abbrev pub invariant-naming : goal.invariant-naming
invariant-naming l =
    (each_noted l.named.items (named_in (map read_of (drop l.line-index l.lines))) ≡ each_noted [] (named_in (map read_of l.lines)))
    × (length l.named.items ≤ l.line-index)
