use Rattle.std.proofs.Common.{ap, ◌∙◌}
use Rattle.std.proofs.lemmas.Result.{IfOk-weaker}
use Rattle.ec_base.specs.Tables.{keys}
use Rattle.ec_log.specs.OfChains.Slots.{live}
use Rattle.ec_log.specs.Chosen.{lost_in}
use Rattle.ec_log.specs.Log.{lost}
use Rattle.ec_log.proofs.log.Log.lost.Goals as goal

pub returns : goal.returns
returns c =
    IfOk-weaker c.lost_of.result _ _ (λ ops is.
    is
    ∙ ap (λ bs. keys (lost_in c.args.window.now bs (live c.slots.result.now))) c.items.ensures.value
    ∙ ap (λ us. keys (lost_in c.args.window.now c.self.inside.batches us)) c.slots.ensures.value
    ∙ ap (λ l. keys (lost c.args.window.now l)) c.self.view_is)
    c.lost_of.ensures
