use Rattle.std.proofs.Common.{sym, ◌∙◌, []}
use Rattle.ec_drill.proofs.Carried.{settle_rests, unsettled}
use Rattle.ec_drill.proofs.carrying.end_settling.Goals as goal

pub returns-in_default-clause-rested : goal.returns-in_default-clause-rested
returns-in_default-clause-rested c = settle_rests 0 [] _ _ (sym c.due.ensures ∙ c.in_default.is)

pub returns-in-Ok-add-clause-rested : goal.returns-in-Ok-add-clause-rested
returns-in-Ok-add-clause-rested c = unsettled _ _ _ _ _ _ (sym c.due.ensures ∙ c.in-Some.is) c.in-Ok.ensures.value c.in-Ok.ensures.line c.in-Ok-add.ensures
