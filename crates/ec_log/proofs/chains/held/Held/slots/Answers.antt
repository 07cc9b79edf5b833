use Rattle.std.proofs.Common.{subst, ◌∙◌}
use Rattle.std.specs.Prelude.{T}
use Rattle.std.specs.Ordering.{nat_cmp}
use Rattle.std.specs.FinMap.{is_sorted}
use Rattle.ec_log.proofs.OfChains.Emptied.{lent-live, lent-rising}
use Rattle.ec_log.proofs.OfChains.Live.{sorted-live}
use Rattle.ec_log.proofs.chains.held.Held.slots.Goals as goal

pub returns-clause-value : goal.returns-clause-value
returns-clause-value c = lent-live c.self.inside.gone c.self.inside.count c.self.inside.slots.items c.deref.result.now c.deref.ensures.value c.self.invariant ∙ c.self.view_is

pub returns-clause-rising : goal.returns-clause-rising
returns-clause-rising c = lent-rising c.self.inside.gone c.self.inside.count c.self.inside.slots.items c.deref.result.now c.deref.ensures.value c.self.invariant

pub returns-clause-sorted : goal.returns-clause-sorted
returns-clause-sorted c = subst (λ l. T (is_sorted nat_cmp l)) c.self.view_is (sorted-live c.self.inside.slots.items c.self.invariant.2)
