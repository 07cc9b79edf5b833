use Rattle.std.proofs.Common.{◌≡◌, refl, ap, ◌∙◌, subst}
use Rattle.ec_serve.specs.OfThreads.ServingMoments.{AllServe, back_of}
use Rattle.ec_serve.specs.OfThreads.Goings.{goes_same, goes_onward}
use Rattle.ec_serve.proofs.threads.threads.give_back_ended.Goals as goal

pub loop-init : goal.loop-init
loop-init g c = (tt, tt, c.requires.pass, refl, goes_same g.N.Net.faults g.N.Net.bad g.N.Net.ended (back_of g.N.Link.Link.faults g.N.Link.Link.closes g.N.Link.Link.given g.N.Link.Link.got) _, refl, refl, c.requires.kept, refl)

pub loop-preserved : goal.loop-preserved
loop-preserved g c =
    let inv = c.loop.invariant in
    let back = c.give_back.ensures in (
      tt,
      tt,
      back.pass,
      back.server ∙ inv.3,
      goes_onward g.N.Net.faults g.N.Net.bad g.N.Net.ended (back_of g.N.Link.Link.faults g.N.Link.Link.closes g.N.Link.Link.given g.N.Link.Link.got) _ _ _ inv.4 back.goes,
      back.begun ∙ inv.5,
      back.each ∙ inv.6,
      subst (λ s. AllServe (λ one. one.handle.promise.0.value) s c.give_back.new.live) (ap (λ s. s.now) inv.3) back.kept,
      back.asked ∙ inv.8,
    )
