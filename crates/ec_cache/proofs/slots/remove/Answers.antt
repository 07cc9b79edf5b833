use Rattle.std.proofs.Common.{◌∙◌, ap, not}
use Rattle.std.specs.Ordering.{nat_cmp, eq_by_cmp}
use Rattle.ec_cache.specs.Marks.{marks}
use Rattle.ec_cache.proofs.Marks.{marks-filter}
use Rattle.ec_cache.proofs.slots.remove.Goals as goal

pub returns-clause-marks : goal.returns-clause-marks
returns-clause-marks c = ap marks c.remove.ensures.others ∙ marks-filter (λ k. not (eq_by_cmp nat_cmp c.args.obj k)) c.args.slots.now
