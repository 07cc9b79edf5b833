use Rattle.ec_lock.specs.PassViews.{front}
use Rattle.ec_clerknode.specs.PassTurns.{Turned, Pending}
use Rattle.ec_clerknode.proofs.shared.SharedClerk.make_call.Given as goal

abbrev pub invariant-loop : goal.invariant-loop
invariant-loop g l =
    (goal.iterator-loop g).can_next l.iterator' × (goal.iterator-loop g).is_finite l.iterator'
    × Turned l.self.lock l.fn.pass l.pass × Pending l.fn.pass.number l.fn.call (front l.fn.pass) (front l.pass) l.number l.place
