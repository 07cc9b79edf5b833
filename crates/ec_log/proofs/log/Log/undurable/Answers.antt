use Rattle.std.proofs.Common.{subst}
use Rattle.ec_log.specs.LogOrder.{AreOwn}
use Rattle.ec_log.specs.declared.state.LogState.{LogState}
use Rattle.ec_log.proofs.log.Log.undurable.Goals as goal

pub returns-clause-own : goal.returns-clause-own
returns-clause-own c =
    subst (λ (l : LogState). AreOwn l) c.self.view_is (record {
      begun = c.self.invariant.0;
      rising = c.slots.ensures.sorted;
      from = c.self.invariant.1;
      behind = c.self.invariant.2;
    })
