use Rattle.std.proofs.Common.{ap}
use Rattle.ec_volume.specs.Update.{member}
use Rattle.ec_sessions.specs.OfTokens.Tokens.{token}
use Rattle.ec_coherence.specs.System.{eff_from}
use Rattle.ec_coherence.proofs.ForBatches.FinishAgrees.{finish-agrees}
use Rattle.ec_coherence.proofs.ForBatches.FlushAgrees.{flush-agrees}
use Rattle.ec_coherence.proofs.ForBatches.GiveAgrees.{give-agrees}
use Rattle.ec_coherence.proofs.ForBatches.OpenAgrees.{open-agrees}
use Rattle.ec_coherence.proofs.ForBatches.OverAgrees.{over-agrees}
use Rattle.ec_coherence.proofs.batches.records_keep_nodes_in_agreement.Goals as goal
use Rattle.ec_base.proofs.Bools.{is-true}

pub returns-clause-finish : goal.returns-clause-finish
returns-clause-finish z = finish-agrees

pub returns-clause-flush : goal.returns-clause-flush
returns-clause-flush z g γ t u c sl k here opened there claimed b ns under unmarked = flush-agrees g γ t u c sl k here opened there b ns under unmarked
    (λ x. ap (λ o. eff_from o (token t.server.tokens sl.session x) t.server.durable.epoch (γ.old sl.session x)) (is-true (member sl.session t.server.claimed) claimed))

pub returns-clause-open : goal.returns-clause-open
returns-clause-open z = open-agrees

pub returns-clause-over : goal.returns-clause-over
returns-clause-over z = over-agrees

pub returns-clause-give : goal.returns-clause-give
returns-clause-give z g γ t u c sl here opened k there claimed taken current ask room enough small = give-agrees g γ t u c sl here opened k there claimed taken current ask room enough small
