use Rattle.std.proofs.Common.{ap, ◌∙◌}
use Rattle.ec_log.specs.OfChains.Slots.{live}
use Rattle.ec_cache.specs.OfReport.Report as report
use Rattle.ec_doing.proofs.OfHoldings.Owing.{lost_are, lost_are_some, lost_come_behind, lost_owed}
use Rattle.ec_doing.proofs.holdings.ledger.Ledger.lose.Goals as goal

pub with_operands-requires : goal.with_operands-requires
with_operands-requires c = lost_are_some c.args.window.now c.args.self.now.log c.undurable.ensures.own c.deref.result.now (live c.undurable.result.now) (c.deref.ensures.value ∙ c.in_ok-lost.ensures) c.undurable.ensures.value

pub owe-requires : goal.owe-requires
owe-requires c =
    lost_come_behind c.args.window.now c.args.self.now.log c.undurable.ensures.own c.deref.result.now (live c.undurable.result.now) c.deref-2.result.now (c.deref.ensures.value ∙ c.in_ok-lost.ensures) c.undurable.ensures.value (c.deref-2.ensures.value ∙ c.in_ok-owed.ensures)
    c.args.self.now.owed c.args.self.now.in_order

pub invariant_of-self-2 : goal.invariant_of-self-2
invariant_of-self-2 c = record {
  in_order =
      lost_owed c.args.window.now c.args.self.now.log c.undurable.ensures.own c.deref.result.now (live c.undurable.result.now) c.deref-2.result.now (c.deref.ensures.value ∙ c.in_ok-lost.ensures) c.undurable.ensures.value (c.deref-2.ensures.value ∙ c.in_ok-owed.ensures)
      c.args.self.now.owed c.owe.new.self c.end.new.self c.args.self.now.in_order c.end.ensures c.in_ok-owe.ensures.ok;
}

pub returns-clause-owed : goal.returns-clause-owed
returns-clause-owed c =
    c.in_ok-owe.ensures.ok
    ∙ ap (λ os. report.owe os c.args.self.now.owed)
    (lost_are c.args.window.now c.args.self.now.log c.undurable.ensures.own c.deref.result.now (live c.undurable.result.now) c.deref-2.result.now (c.deref.ensures.value ∙ c.in_ok-lost.ensures) c.undurable.ensures.value (c.deref-2.ensures.value ∙ c.in_ok-owed.ensures))
