use Rattle.ec_serve.specs.OfThreads.ServingMoments.{back_of}
use Rattle.ec_serve.specs.OfThreads.Goings.{goes_onward}
use Rattle.ec_serve.proofs.OfThreads.Goes.{goes_joined}
use Rattle.ec_serve.proofs.OfThreads.Lives.{all_ended}
use Rattle.ec_serve.proofs.threads.threads.run_in.Goals as goal

pub returns-clause-goes : goal.returns-clause-goes
returns-clause-goes g c =
    let end = c.end_warden.ensures in
    goes_onward g.N.Net.faults g.N.Net.bad g.N.Net.ended (back_of g.N.Link.Link.faults g.N.Link.Link.closes g.N.Link.Link.given g.N.Link.Link.got) _ _ _
    (goes_onward g.N.Net.faults g.N.Net.bad g.N.Net.ended (back_of g.N.Link.Link.faults g.N.Link.Link.closes g.N.Link.Link.given g.N.Link.Link.got) _ _ _ c.serve_all-spawned.ensures.goes c.finish_all.ensures.goes)
    (goes_joined g.N.Net.faults g.N.Net.bad g.N.Net.ended (back_of g.N.Link.Link.faults g.N.Link.Link.closes g.N.Link.Link.given g.N.Link.Link.got) _ _ c.finish_all.new.pass.pass c.end_warden.new.pass.pass end.kept end.later end.own)

pub returns-clause-each : goal.returns-clause-each
returns-clause-each g c all =
    let serve = c.serve_all-spawned.ensures in
    all_ended c.args.connections.now.tally c.serve_all-spawned.new.connections.tally c.finish_all.new.connections.tally c.new.result _ c.new.ensures.empty (serve.each all) (serve.over all) c.finish_all.ensures.gone
