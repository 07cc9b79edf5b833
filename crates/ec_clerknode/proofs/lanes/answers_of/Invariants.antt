use Rattle.std.proofs.Common.{◌≡◌, map}
use Rattle.ec_clerknode.proofs.lanes.answers_of.Given as goal

abbrev pub invariant-lanes : goal.invariant-lanes
invariant-lanes l = map (λ answers. answers.items) l.all.items ≡ map (λ replies. map (λ reply. reply.0) replies.items) l.yielded
