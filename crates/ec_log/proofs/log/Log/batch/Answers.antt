use Rattle.std.proofs.Common.{ap, ◌∙◌}
use Rattle.ec_log.proofs.Members.{found_rises}
use Rattle.ec_log.proofs.log.Log.batch.Goals as goal
use Rattle.ec_base.specs.SmallLaws.{rises}

pub those_in-requires : goal.those_in-requires
those_in-requires c = ap rises c.as_slice.ensures ∙ found_rises c.args.no c.in-Some.members.now c.self.inside.batches c.self.invariant.3 c.in-Some.ensures
