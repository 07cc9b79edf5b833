use Rattle.std.proofs.Common.{◌∙◌, ap, arith}
use Rattle.ec_clerknode.specs.RunEnds.{highest}
use Rattle.ec_clerknode.proofs.shared.SharedClerk.end.Goals as goal

pub raise-requires-clause-low : goal.raise-requires-clause-low
raise-requires-clause-low g c =
    let top = c.requires.since.top in
    let of_node = ap (λ n. n.top) (c.deref.ensures ∙ c.node.view_is) in
    let same = ap highest c.leave.ensures.front in
    omega arith
