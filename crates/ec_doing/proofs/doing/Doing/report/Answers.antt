use Rattle.std.proofs.Common.{ap, ◌∙◌}
use Rattle.std.specs.Prelude.{not}
use Rattle.ec_volume.specs.Update.{member}
use Rattle.ec_doing.specs.OfHoldings.Owing.{owed_before}
use Rattle.ec_doing.proofs.OfHoldings.Owing.{cleared}
use Rattle.ec_doing.proofs.doing.Doing.report.Goals as goal

pub invariant_of-self : goal.invariant_of-self
invariant_of-self c = record {
  in_order =
      ap (owed_before c.args.self.now.ledger.log.first) c.clear.ensures
      ∙ cleared c.args.self.now.ledger.log.first (λ q. not (member q.1 c.args.objs.now)) c.args.self.now.ledger.owed c.args.self.now.ledger.in_order;
}

pub returns : goal.returns
returns c = rw c.clear.ensures at c.answer_with.ensures
