use Rattle.std.proofs.Common.{subst}
use Rattle.std.specs.Prelude.{T}
use Rattle.std.specs.Ordering.{nat_cmp}
use Rattle.std.specs.FinMap.{is_sorted}
use Rattle.ec_log.proofs.OfChains.Live.{sorted-live}
use Rattle.ec_log.proofs.chains.held.Held.count.Goals as goal

pub returns-clause-sorted : goal.returns-clause-sorted
returns-clause-sorted c = subst (λ l. T (is_sorted nat_cmp l)) c.self.view_is (sorted-live c.self.inside.slots.items c.self.invariant.2)
