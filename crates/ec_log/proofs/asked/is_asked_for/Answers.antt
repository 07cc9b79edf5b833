use Rattle.std.proofs.Common.{ap, ◌∙◌}
use Rattle.ec_log.proofs.Fronts.{asked-at, asked-found}
use Rattle.ec_log.proofs.asked.is_asked_for.Goals as goal

pub returns-in-Some : goal.returns-in-Some
returns-in-Some c = c.is_asked.ensures ∙ ap (asked-at c.args.asked.now c.args.op) c.in-Some.ensures.value ∙ asked-found c.args.asked.now c.args.op c.args.undurable.now c.get.ensures.sorted

pub returns-in-None : goal.returns-in-None
returns-in-None c = ap (asked-at c.args.asked.now c.args.op) c.in-None.ensures.value ∙ asked-found c.args.asked.now c.args.op c.args.undurable.now c.get.ensures.sorted
