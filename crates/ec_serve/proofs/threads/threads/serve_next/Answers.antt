use Rattle.ec_serve.specs.OfThreads.ServingMoments.{back_of}
use Rattle.ec_serve.specs.OfThreads.Goings.{goes_onward}
use Rattle.ec_serve.proofs.OfThreads.Goes.{goes_looked}
use Rattle.ec_serve.proofs.threads.threads.serve_next.Goals as goal

pub returns-then-is_over-clause-goes : goal.returns-then-is_over-clause-goes
returns-then-is_over-clause-goes g c =
    goes_looked g.N.Net.faults g.N.Net.bad g.N.Net.ended (back_of g.N.Link.Link.faults g.N.Link.Link.closes g.N.Link.Link.given g.N.Link.Link.got) c.args.net.now c.args.connections.now.tally c.is_over.new.self.tally c.args.pass.now.pass c.is_over.ensures.tally

pub returns-then-is_err-clause-goes : goal.returns-then-is_err-clause-goes
returns-then-is_err-clause-goes g c =
    goes_looked g.N.Net.faults g.N.Net.bad g.N.Net.ended (back_of g.N.Link.Link.faults g.N.Link.Link.closes g.N.Link.Link.given g.N.Link.Link.got) c.args.net.now c.args.connections.now.tally c.is_over.new.self.tally c.args.pass.now.pass c.is_over.ensures.tally

pub returns-in_default-clause-goes : goal.returns-in_default-clause-goes
returns-in_default-clause-goes g c =
    goes_onward g.N.Net.faults g.N.Net.bad g.N.Net.ended (back_of g.N.Link.Link.faults g.N.Link.Link.closes g.N.Link.Link.given g.N.Link.Link.got) _ _ _
    (goes_looked g.N.Net.faults g.N.Net.bad g.N.Net.ended (back_of g.N.Link.Link.faults g.N.Link.Link.closes g.N.Link.Link.given g.N.Link.Link.got) c.args.net.now c.args.connections.now.tally c.is_over.new.self.tally c.args.pass.now.pass c.is_over.ensures.tally) c.next.ensures.goes

pub returns-in-Some-start-clause-goes : goal.returns-in-Some-start-clause-goes
returns-in-Some-start-clause-goes g c =
    goes_onward g.N.Net.faults g.N.Net.bad g.N.Net.ended (back_of g.N.Link.Link.faults g.N.Link.Link.closes g.N.Link.Link.given g.N.Link.Link.got) _ _ _
    (goes_looked g.N.Net.faults g.N.Net.bad g.N.Net.ended (back_of g.N.Link.Link.faults g.N.Link.Link.closes g.N.Link.Link.given g.N.Link.Link.got) c.args.net.now c.args.connections.now.tally c.is_over.new.self.tally c.args.pass.now.pass c.is_over.ensures.tally) c.next.ensures.goes

pub returns-in-None-clause-goes : goal.returns-in-None-clause-goes
returns-in-None-clause-goes g c =
    goes_onward g.N.Net.faults g.N.Net.bad g.N.Net.ended (back_of g.N.Link.Link.faults g.N.Link.Link.closes g.N.Link.Link.given g.N.Link.Link.got) _ _ _
    (goes_looked g.N.Net.faults g.N.Net.bad g.N.Net.ended (back_of g.N.Link.Link.faults g.N.Link.Link.closes g.N.Link.Link.given g.N.Link.Link.got) c.args.net.now c.args.connections.now.tally c.is_over.new.self.tally c.args.pass.now.pass c.is_over.ensures.tally) c.next.ensures.goes
