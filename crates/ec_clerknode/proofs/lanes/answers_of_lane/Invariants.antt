use Rattle.std.proofs.Common.{◌≡◌, map}
use Rattle.ec_clerknode.proofs.lanes.answers_of_lane.Given as goal

abbrev pub invariant-replies : goal.invariant-replies
invariant-replies l = l.answers.items ≡ map (λ reply. reply.0) l.yielded
