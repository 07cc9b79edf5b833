use Rattle.std.proofs.Common.{◌≡◌}
use Rattle.ec_link.proofs.tcp.TcpLink.flush.Given as goal

abbrev pub invariant-loop : goal.invariant-loop
invariant-loop g l =
    (goal.iterator-loop g).can_next l.iterator' × (goal.iterator-loop g).is_finite l.iterator'
    × (l.self.happened ≡ l.fn.self.happened) × (l.self.frames.left ≡ l.fn.self.frames.left)
