use Rattle.ec_mounts.specs.Parts.{TookTurns}
use Rattle.ec_mounts.proofs.beside.take_turns.Given as goal

abbrev pub invariant-loop : goal.invariant-loop
invariant-loop g l = (goal.iterator-loop g).can_next l.iterator' × (goal.iterator-loop g).is_finite l.iterator' × TookTurns l.clerk.lock l.fn.pass l.pass
