use Rattle.std.proofs.Common.{◌≡◌, ◌+◌, add-zero, refl, ap, sym, ◌∙◌, subst, length, IfSome, arith}
use Rattle.ec_link.specs.Spawns.{faults_of}
use Rattle.ec_link.specs.JobCounts.{refused_by}
use Rattle.ec_serve.specs.OfThreads.ServingMoments.{AllServe, back_of}
use Rattle.ec_serve.specs.OfThreads.Goings.{goes_onward, goes_same}
use Rattle.ec_serve.proofs.OfThreads.Goes.{goes_watched}
use Rattle.ec_serve.proofs.threads.threads.serve_all.Goals as goal

pub loop-init : goal.loop-init
loop-init g c = (tt, tt, c.requires.pass, refl, goes_same g.N.Net.faults g.N.Net.bad g.N.Net.ended (back_of g.N.Link.Link.faults g.N.Link.Link.closes g.N.Link.Link.given g.N.Link.Link.got) _, refl, c.requires.kept, c.requires.warden, refl, refl)

pub loop-preserved : goal.loop-preserved
loop-preserved g c =
    let inv = c.loop.invariant in
    let ended = c.give_back_ended.ensures in
    let next = c.serve_next.ensures in
    let watch = c.start_warden.ensures in
    let none = ap refused_by c.in_default.is in
    let begun_none = ap refused_by c.in_default-start_warden.is in
    let server = next.server ∙ (ended.server ∙ inv.3) in (
      tt,
      tt,
      watch.pass,
      watch.others.0 ∙ server,
      goes_watched g.N.Net.faults g.N.Net.bad g.N.Net.ended (back_of g.N.Link.Link.faults g.N.Link.Link.closes g.N.Link.Link.given g.N.Link.Link.got) _ c.serve_next.new.net c.serve_next.new.connections.tally c.start_warden.new.connections.tally c.serve_next.new.pass.pass c.start_warden.new.pass.pass
          (goes_onward g.N.Net.faults g.N.Net.bad g.N.Net.ended (back_of g.N.Link.Link.faults g.N.Link.Link.closes g.N.Link.Link.given g.N.Link.Link.got) _ _ _ (goes_onward g.N.Net.faults g.N.Net.bad g.N.Net.ended (back_of g.N.Link.Link.faults g.N.Link.Link.closes g.N.Link.Link.given g.N.Link.Link.got) _ _ _ c.loop.invariant.4 c.give_back_ended.ensures.goes) c.serve_next.ensures.goes) watch.others.1 watch.knows,
      (let before = inv.5 in let begun = ap (λ t. length t.items) ended.begun in let each = ended.each in let more = next.each in let back = ap (λ t. length t.items) next.back in
          let came = ap (λ t. length t.begun.items) watch.others.1 in let gone = ap (λ t. length t.back.items) watch.others.1 in omega (arith, before, begun, each, more, back, none, came, gone)),
      subst (λ s. AllServe (λ one. one.handle.promise.0.value) s c.serve_next.new.live.links) (ap (λ s. s.now) (ended.server ∙ inv.3)) next.kept,
      subst (λ s. IfSome c.start_warden.new.warden (λ w. w.handle.promise.0.value ≡ s)) (ap (λ s. s.now) server) watch.warden,
      watch.faults ∙ (ap (λ n. faults_of c.serve_next.new.spawner + n) begun_none ∙ (add-zero (faults_of c.serve_next.new.spawner) ∙ (next.faults ∙ (ap (λ n. faults_of c.loop.spawner + n) none ∙ (add-zero (faults_of c.loop.spawner) ∙ inv.8))))),
      next.asked ∙ (ended.asked ∙ inv.9),
    )

pub returns-in-Some-serve_next-clause-goes : goal.returns-in-Some-serve_next-clause-goes
returns-in-Some-serve_next-clause-goes g c =
    goes_onward g.N.Net.faults g.N.Net.bad g.N.Net.ended (back_of g.N.Link.Link.faults g.N.Link.Link.closes g.N.Link.Link.given g.N.Link.Link.got) _ _ _ (goes_onward g.N.Net.faults g.N.Net.bad g.N.Net.ended (back_of g.N.Link.Link.faults g.N.Link.Link.closes g.N.Link.Link.given g.N.Link.Link.got) _ _ _ c.loop.invariant.4 c.give_back_ended.ensures.goes) c.serve_next.ensures.goes

pub returns-in-Some-start_warden-clause-goes : goal.returns-in-Some-start_warden-clause-goes
returns-in-Some-start_warden-clause-goes g c =
    let watch = c.start_warden.ensures in
    goes_watched g.N.Net.faults g.N.Net.bad g.N.Net.ended (back_of g.N.Link.Link.faults g.N.Link.Link.closes g.N.Link.Link.given g.N.Link.Link.got) _ c.serve_next.new.net c.serve_next.new.connections.tally c.start_warden.new.connections.tally c.serve_next.new.pass.pass c.start_warden.new.pass.pass
    (goes_onward g.N.Net.faults g.N.Net.bad g.N.Net.ended (back_of g.N.Link.Link.faults g.N.Link.Link.closes g.N.Link.Link.given g.N.Link.Link.got) _ _ _ (goes_onward g.N.Net.faults g.N.Net.bad g.N.Net.ended (back_of g.N.Link.Link.faults g.N.Link.Link.closes g.N.Link.Link.given g.N.Link.Link.got) _ _ _ c.loop.invariant.4 c.give_back_ended.ensures.goes) c.serve_next.ensures.goes) watch.others.1 watch.knows
