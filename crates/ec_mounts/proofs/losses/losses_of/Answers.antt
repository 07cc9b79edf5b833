use Rattle.std.proofs.Common.{◌<◌, ◌++◌, ◌∙◌, map, length, refl, sym, ap, rules, arith}
use Rattle.std.proofs.lemmas.List.{length-map}
use Rattle.ec_lock.specs.declared.types.Pass.{Pass}
use Rattle.ec_clerknode.specs.declared.state.Node.{Node}
use Rattle.ec_clerknode.specs.declared.step.Step.{Step}
use Rattle.ec_mounts.specs.declared.part.Part.{Part}
use Rattle.ec_mounts.specs.Parts.{told_at}
use Rattle.ec_mounts.proofs.Told.{all_rest_self, all_rest_more, told_more}
use Rattle.ec_mounts.proofs.losses.losses_of.Goals as goal

pub loop-place-init : goal.loop-place-init
loop-place-init g c = (c.requires.seated, all_rest_self (map (λ (p : Part g.row.L.Denot g.row.L-Bell.Denot). p.pass) c.args.parts.now), search rules, refl)

pub returns-in_err-lists-clause-rest : goal.returns-in_err-lists-clause-rest
returns-in_err-lists-clause-rest g c =
    let pass_of : Part g.row.L.Denot g.row.L-Bell.Denot → Pass (Node g.row.L.Denot) Step = λ p. p.pass in
    all_rest_more (map pass_of c.args.parts.now) (map pass_of c.loop-place.parts) (map pass_of c.losses_at.new.parts) c.loop-place.place c.loop-place.invariant.1 c.losses_at.ensures.took

pub returns-in_err-put_lists-clause-rest : goal.returns-in_err-put_lists-clause-rest
returns-in_err-put_lists-clause-rest g c =
    let pass_of : Part g.row.L.Denot g.row.L-Bell.Denot → Pass (Node g.row.L.Denot) Step = λ p. p.pass in
    all_rest_more (map pass_of c.args.parts.now) (map pass_of c.loop-place.parts) (map pass_of c.losses_at.new.parts) c.loop-place.place c.loop-place.invariant.1 c.losses_at.ensures.took

pub byte_of-requires : goal.byte_of-requires
byte_of-requires g c = omega (arith, c.loop-place-test.true, c.loop-place.invariant.3, c.requires.few)

pub loop-place-preserved : goal.loop-place-preserved
loop-place-preserved g c =
    let pass_of : Part g.row.L.Denot g.row.L-Bell.Denot → Pass (Node g.row.L.Denot) Step = λ p. p.pass in
    let place = c.loop-place.place in
    let told = c.loop-place.told.items in
    let mids = map pass_of c.loop-place.parts in
    let news = map pass_of c.losses_at.new.parts in
    let inside : place < length mids = omega (arith, length-map c.loop-place.parts pass_of, c.loop-place-test.true, c.loop-place.invariant.3) in (
      c.losses_at.ensures.seated,
      all_rest_more (map pass_of c.args.parts.now) (map pass_of c.loop-place.parts) (map pass_of c.losses_at.new.parts) c.loop-place.place c.loop-place.invariant.1 c.losses_at.ensures.took,
      c.in_ok-put_lists.ensures
          ∙ (ap (λ k. told ++ map (λ ops. (k, ops)) c.in_ok-lists.lists.items) c.byte_of.ensures
          ∙ (ap (λ l. told ++ map (λ ops. (place, ops)) l) c.in_ok-lists.ensures.ok
          ∙ (ap (λ l. l ++ map (λ ops. (place, ops)) (told_at place news)) c.loop-place.invariant.2 ∙ sym (told_more mids news place c.losses_at.ensures.took inside)))),
      c.losses_at.auto.parts ∙ c.loop-place.invariant.3,
    )
