use Rattle.std.proofs.Common.{sym, ap, ◌∙◌}
use Rattle.std.specs.Prelude.{is_some}
use Rattle.ec_doing.proofs.OfHoldings.Asked.{no_batch}
use Rattle.ec_doing.proofs.holdings.asking.batch_of.Goals as goal

pub returns-in-None : goal.returns-in-None
returns-in-None c = no_batch c.args.batch c.args.log.now c.of.result (sym c.in_ok-ops.ensures.under_way ∙ ap is_some c.in-None.is) (c.of.ensures ∙ c.new.ensures.items)
