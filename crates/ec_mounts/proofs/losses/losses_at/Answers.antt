use Rattle.std.proofs.Common.{◌≡◌, sym, ap, ◌∙◌, subst, arith}
use Rattle.std.specs.Prelude.{IfOk}
use Rattle.std.proofs.lemmas.List.{map-set}
use Rattle.ec_lock.specs.PassViews.{front}
use Rattle.ec_lock.specs.declared.types.Pass.{Pass}
use Rattle.ec_lock.specs.declared.types.TracedLock.{TracedLock}
use Rattle.ec_clerknode.specs.Run.{calls}
use Rattle.ec_clerknode.specs.declared.shared.SharedClerk.{SharedClerk}
use Rattle.ec_clerknode.specs.declared.state.Node.{Node}
use Rattle.ec_clerknode.specs.declared.step.Step.{Step}
use Rattle.ec_mounts.specs.Mounts.{Rests}
use Rattle.ec_mounts.specs.declared.part.Part.{Part}
use Rattle.ec_mounts.proofs.Seats.{found, same_length, seated_here, seated_put}
use Rattle.ec_mounts.proofs.Told.{told_put}
use Rattle.ec_mounts.proofs.Turning.{rests_turned}
use Rattle.ec_mounts.proofs.losses.losses_at.Goals as goal

pub clerk_at-requires-after_bounds : goal.clerk_at-requires-after_bounds
clerk_at-requires-after_bounds g c =
    let lock_of : SharedClerk g.row.L.Denot g.row.L-Bell.Denot → TracedLock (Node g.row.L.Denot) Step = λ k. k.lock in
    let pass_of : Part g.row.L.Denot g.row.L-Bell.Denot → Pass (Node g.row.L.Denot) Step = λ p. p.pass in
    omega (arith, c.requires.place, same_length lock_of pass_of c.args.clerks.now c.args.parts.now c.requires.seated)

pub losses-requires-clause-pass : goal.losses-requires-clause-pass
losses-requires-clause-pass g c κs within =
    let lock_of : SharedClerk g.row.L.Denot g.row.L-Bell.Denot → TracedLock (Node g.row.L.Denot) Step = λ k. k.lock in
    let pass_of : Part g.row.L.Denot g.row.L-Bell.Denot → Pass (Node g.row.L.Denot) Step = λ p. p.pass in
    seated_here lock_of pass_of c.args.clerks.now c.args.parts.now c.args.place c.clerk_at.result.now c.index-parts-place.result c.requires.seated c.requires.place c.clerk_at.ensures

pub returns-clause-seated : goal.returns-clause-seated
returns-clause-seated g c =
    let lock_of : SharedClerk g.row.L.Denot g.row.L-Bell.Denot → TracedLock (Node g.row.L.Denot) Step = λ k. k.lock in
    let pass_of : Part g.row.L.Denot g.row.L-Bell.Denot → Pass (Node g.row.L.Denot) Step = λ p. p.pass in
    seated_put lock_of pass_of c.args.clerks.now c.args.parts.now c.args.place c.clerk_at.result.now _ c.requires.seated c.clerk_at.ensures c.losses.ensures.turned.is_pass

pub returns-clause-took : goal.returns-clause-took
returns-clause-took g c =
    let pass_of : Part g.row.L.Denot g.row.L-Bell.Denot → Pass (Node g.row.L.Denot) Step = λ p. p.pass in
    let new = c.losses.new.pass in (
      new,
      map-set pass_of c.args.parts.now c.args.place _,
      (λ old at.
          let here = found pass_of c.args.parts.now c.args.place old at in
          subst (λ o. Rests o new) (ap pass_of (here.2 c.index-parts-place.result) ∙ here.3) (rests_turned c.clerk_at.result.now.lock _ new c.losses.ensures.turned (ap calls c.losses.ensures.same))),
    )

pub returns-clause-ok : goal.returns-clause-ok
returns-clause-ok g c =
    let pass_of : Part g.row.L.Denot g.row.L-Bell.Denot → Pass (Node g.row.L.Denot) Step = λ p. p.pass in
    subst (λ t. IfOk c.losses.result (λ lists. lists.items ≡ t)) (sym (told_put pass_of c.args.parts.now c.args.place _ c.requires.place)) c.losses.ensures.ok
