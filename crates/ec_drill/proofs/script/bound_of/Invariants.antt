use Rattle.std.proofs.Common.{◌≡◌, ◌≤◌, [], length, map, drop}
use Rattle.ec_protocol.specs.Drill.{named_in}
use Rattle.ec_drill.specs.Lines.{read_of, noted}
use Rattle.ec_drill.proofs.script.bound_of.Given as goal

abbrev pub invariant-naming : goal.invariant-naming
invariant-naming l =
    (noted l.named.items (named_in (map read_of (drop l.line-index l.lines))) ≡ noted [] (named_in (map read_of l.lines)))
    × (length l.named.items ≤ l.line-index)
