use Rattle.std.proofs.Common.{◌≡◌}
use Rattle.ec_lock.specs.PassViews.{front}
use Rattle.ec_clerknode.specs.Turns.{calls_by}
use Rattle.ec_clerknode.specs.PassTurns.{Turned}
use Rattle.ec_clerknode.proofs.shared.SharedClerk.bye.Given as goal

abbrev pub invariant-loop : goal.invariant-loop
invariant-loop g l =
    (goal.iterator-loop g).can_next l.iterator' × (goal.iterator-loop g).is_finite l.iterator'
    × Turned l.self.lock l.fn.pass l.pass × (calls_by l.fn.pass.number (front l.pass) ≡ calls_by l.fn.pass.number (front l.fn.pass))
