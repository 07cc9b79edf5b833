use Rattle.ec_lawful.proofs.ForWhole.Doubted.{doubted-all, doubted-from}
use Rattle.ec_lawful.proofs.ForWhole.From.{doubts-stay, ends-from, takes-from}
use Rattle.ec_lawful.proofs.found.records_are_in_doubt.Goals as goal

pub returns-clause-stop : goal.returns-clause-stop
returns-clause-stop z g all v up r d steps q = (doubted-all g all v up r d steps, doubted-from g all v up r d steps q)

pub returns-clause-stay : goal.returns-clause-stay
returns-clause-stay z g h e f q = doubts-stay g h e f q

pub returns-clause-takes : goal.returns-clause-takes
returns-clause-takes z g v c m p r e = takes-from g v c m p r e

pub returns-clause-ends : goal.returns-clause-ends
returns-clause-ends z g v c r e = ends-from g v c r e
