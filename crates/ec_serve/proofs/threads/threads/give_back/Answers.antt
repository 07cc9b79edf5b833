use Rattle.ec_serve.specs.OfThreads.ServingMoments.{back_of}
use Rattle.ec_serve.specs.OfThreads.Goings.{goes_same}
use Rattle.ec_serve.proofs.threads.threads.give_back.Goals as goal

pub returns-in_default-clause-goes : goal.returns-in_default-clause-goes
returns-in_default-clause-goes g c = goes_same g.N.Net.faults g.N.Net.bad g.N.Net.ended (back_of g.N.Link.Link.faults g.N.Link.Link.closes g.N.Link.Link.given g.N.Link.Link.got) _
