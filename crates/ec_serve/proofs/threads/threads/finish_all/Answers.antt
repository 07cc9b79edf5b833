use Rattle.std.proofs.Common.{refl, ◌≡◌, length, sym, ap, ◌∙◌, subst, arith}
use Rattle.std.specs.List.{All}
use Rattle.std.proofs.lemmas.List.Elements.{All-head, All-rest}
use Rattle.slab.proofs.SlabLemmas.{length-entries}
use Rattle.ec_servernode.specs.TurnSteps.{IsServerPass}
use Rattle.ec_serve.specs.OfThreads.ServingMoments.{back_of}
use Rattle.ec_serve.specs.OfThreads.Goings.{goes_onward, goes_same}
use Rattle.ec_serve.proofs.OfThreads.Lives.{all_entries}
use Rattle.ec_serve.proofs.threads.threads.finish_all.Goals as goal

pub done-requires-clause-out : goal.done-requires-clause-out
done-requires-clause-out g c = λ κs within.
    let inv = c.loop-entry.invariant in
    let server = c.args.connections.now.server.now in
    let kept = All-head (λ e. e.1.handle.promise.0.value ≡ server) c.in-Some.entry c.next.new.self (subst (All (λ e. e.1.handle.promise.0.value ≡ server)) c.in-Some.ensures.steps inv.6) in
    let out = c.join-ended.result in (
      subst (λ s. IsServerPass g.K.Keeper.kept s.lock out.pass) (kept ∙ ap (λ s. s.now) (sym inv.1)) c.join-ended.ensures.0,
      c.join-ended.ensures.1,
      c.join-ended.ensures.2,
    )

pub loop-entry-preserved : goal.loop-entry-preserved
loop-entry-preserved g c =
    let inv = c.loop-entry.invariant in
    let done = c.done.ensures in
    let server = c.args.connections.now.server.now in (
      done.pass,
      done.server ∙ inv.1,
      goes_onward g.N.Net.faults g.N.Net.bad g.N.Net.ended (back_of g.N.Link.Link.faults g.N.Link.Link.closes g.N.Link.Link.given g.N.Link.Link.got) _ _ _ inv.2 done.goes,
      (done.gone.0 ∙ inv.3.0, done.gone.1 ∙ inv.3.1, done.gone.2 ∙ inv.3.2),
      (let back = done.gone.3 in let before = inv.4 in let size = ap length c.in-Some.ensures.steps in omega (arith, size, back, before)),
      (λ wants. done.gone.4 (inv.5 wants)),
      All-rest (λ e. e.1.handle.promise.0.value ≡ server) c.in-Some.entry c.next.new.self c.loop-entry.entry-iterator c.in-Some.ensures.steps inv.6,
      done.asked ∙ inv.7,
    )

pub loop-entry-init : goal.loop-entry-init
loop-entry-init g c =
    let server = c.args.connections.now.server.now in (
      c.requires.pass,
      refl,
      goes_same g.N.Net.faults g.N.Net.bad g.N.Net.ended (back_of g.N.Link.Link.faults g.N.Link.Link.closes g.N.Link.Link.given g.N.Link.Link.got) _,
      (refl, refl, refl),
      (let size = ap length c.into_iter-entry-iterator.ensures.into_iter_gives ∙ length-entries c.args.live in omega (arith, size)),
      (λ wants. wants),
      subst (All (λ e. e.1.handle.promise.0.value ≡ server)) (sym c.into_iter-entry-iterator.ensures.into_iter_gives) (all_entries (λ one. one.handle.promise.0.value) server c.args.live c.requires.kept),
      refl,
    )

pub returns-clause-gone : goal.returns-clause-gone
returns-clause-gone g c =
    let inv = c.loop-entry.invariant in
    let back = inv.4 in
    let none = ap length c.in-None.ensures.steps.0 in (inv.3.0, inv.3.1, inv.3.2, omega (arith, back, none), inv.5)
