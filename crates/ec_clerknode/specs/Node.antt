-- What the value behind the lock says of its list of steps.
use Rattle.std.specs.Prelude.{◌≡◌, ℕ, List, Some, slice_get}
use Rattle.ec_outs.specs.Outs.{Reply, answers}
use Rattle.ec_clerknode.specs.declared.step.Step.{Step}
use Rattle.ec_clerknode.specs.Run.{Among}

-- the step at this place answers the call of this number
abbrev pub AnsweredAt : List Step → ℕ → ℕ → Reply → Type 0
AnsweredAt steps at number reply = (s : Step) × (slice_get steps at ≡ Some s) × Among (number, reply) (answers s.outs.value.items)
