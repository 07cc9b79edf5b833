use Rattle.ec_coherence.proofs.ForServer.Frames.{tell-stands}
use Rattle.ec_coherence.proofs.ForServer.Handlers.{back-stands, want-stands, note-stands, claim-stands, record-ids-stands}
use Rattle.ec_coherence.proofs.ForServer.Replies.{tell-ended-stands}
use Rattle.ec_coherence.proofs.ForServer.ServeStands.{serve-stands}
use Rattle.ec_coherence.proofs.ForServer.Start.{start-stands}
use Rattle.ec_coherence.proofs.server.server_steps_stand.Goals as goal

pub returns-clause-serve : goal.returns-clause-serve
returns-clause-serve c = serve-stands

pub returns-clause-start : goal.returns-clause-start
returns-clause-start c = start-stands

pub returns-clause-back : goal.returns-clause-back
returns-clause-back c = back-stands

pub returns-clause-want : goal.returns-clause-want
returns-clause-want c = want-stands

pub returns-clause-said : goal.returns-clause-said
returns-clause-said c g γ t u d m a s b l = tell-stands g γ t d m u a s b l

pub returns-clause-note : goal.returns-clause-note
returns-clause-note c = note-stands

pub returns-clause-claim : goal.returns-clause-claim
returns-clause-claim c = claim-stands

pub returns-clause-recorded : goal.returns-clause-recorded
returns-clause-recorded c = record-ids-stands

pub returns-clause-ended : goal.returns-clause-ended
returns-clause-ended c = tell-ended-stands
