use Rattle.std.proofs.Common.{◌≤◌}
use Rattle.ec_mount.specs.Run.{LostUnsent}
use Rattle.ec_mount.proofs.greeting.greet.Given as goal

abbrev pub invariant-loop : goal.invariant-loop
invariant-loop g l =
    (goal.iterator-loop g).can_next l.iterator' × (goal.iterator-loop g).is_finite l.iterator'
    × (g.N.Net.faults l.fn.net ≤ g.N.Net.faults l.net)
    × LostUnsent l.outs (record { faults = g.N.Net.faults l.fn.net; bad = g.N.Net.bad l.fn.net; ended = g.N.Net.ended l.fn.net }) (record { faults = g.N.Net.faults l.net; bad = g.N.Net.bad l.net; ended = g.N.Net.ended l.net })
