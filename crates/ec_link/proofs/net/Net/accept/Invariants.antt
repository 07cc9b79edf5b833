use Rattle.std.proofs.Common.{◌≡◌, ◌≤◌}
use Rattle.ec_link.proofs.net.Net.accept.Given as goal

abbrev pub invariant-loop : goal.invariant-loop
invariant-loop g l =
    (goal.iterator-loop g).can_next l.iterator' × (goal.iterator-loop g).is_finite l.iterator'
    × (g.Self.Net.faults l.fn.self ≤ g.Self.Net.faults l.self) × (g.Self.Net.bad l.self ≡ g.Self.Net.bad l.fn.self) × (g.Self.Net.ended l.self ≡ g.Self.Net.ended l.fn.self) × (g.Self.Net.asked l.self ≡ g.Self.Net.asked l.fn.self)
