use Rattle.std.proofs.Common.{◌≡◌, ℕ, ◌++◌, List}
use Rattle.ec_link.proofs.tcp.TcpLinkLink.recv.Given as goal

abbrev pub invariant-loop : goal.invariant-loop
invariant-loop g l =
    (goal.iterator-loop g).can_next l.iterator' × (goal.iterator-loop g).is_finite l.iterator'
    × (l.self.happened ≡ l.fn.self.happened) × ((more : List ℕ) × (l.self.frames.left ≡ l.fn.self.frames.left ++ more))
