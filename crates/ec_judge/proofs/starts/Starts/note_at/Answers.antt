use Rattle.std.proofs.Common.{sym, subst}
use Rattle.std.specs.Prelude.{slice_index_or}
use Rattle.ec_order.specs.OfNumbers.Starts.{indexed}
use Rattle.ec_pending.specs.OfOwes.Rules.{IsNumbered}
use Rattle.ec_judge.proofs.Places.{index-same}
use Rattle.ec_judge.proofs.starts.Starts.note_at.Goals as goal

pub invariant_of-self : goal.invariant_of-self
invariant_of-self c = index-same (indexed c.self.inside.index) c.self.inside.items.items c.note_at.new.starts.items c.self.invariant c.note_at.ensures.same

pub note_at-requires-clause-next : goal.note_at-requires-clause-next
note_at-requires-clause-next c s = subst (λ l. IsNumbered (slice_index_or l c.args.at s).pending.0 c.args.answered.now.op.now) (sym c.self.view_is) (c.requires.next s)
