use Rattle.ec_coherence.proofs.Crashes.{crashes-stand}
use Rattle.ec_coherence.proofs.Halts.{halts-stand, start-stands}
use Rattle.ec_coherence.proofs.Lines.{nothing-stands, started-stands, stopped-line-stands}
use Rattle.ec_coherence.proofs.clerk_changes.nodes_may_stop.Goals as goal

pub returns-clause-crash : goal.returns-clause-crash
returns-clause-crash z = crashes-stand

pub returns-clause-stop : goal.returns-clause-stop
returns-clause-stop z g all v up = halts-stand g all v up

pub returns-clause-start : goal.returns-clause-start
returns-clause-start z g all down sure = start-stands g all down sure

pub returns-clause-lines : goal.returns-clause-lines
returns-clause-lines z g all = (started-stands g all, stopped-line-stands g all, nothing-stands g all)
