use Rattle.std.proofs.Common.{rules, ◌+◌}
use Rattle.ec_clerknode.proofs.Turns.{begins}
use Rattle.ec_clerknode.proofs.shared.SharedClerk.linked_by.Goals as goal

pub new-requires-8-clause-begins : goal.new-requires-8-clause-begins
new-requires-8-clause-begins g c = begins (λ l. g.L.Link.faults l + g.L.Link.closes l) g.L.Link.given g.L.Link.got c.in_ok-state.state.value (search rules) (search rules) (search rules) (search rules) (search rules) (search rules) (search rules)
