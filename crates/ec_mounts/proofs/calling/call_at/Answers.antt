use Rattle.std.proofs.Common.{map, ap, ◌∙◌}
use Rattle.ec_lock.specs.declared.types.Pass.{Pass}
use Rattle.ec_clerknode.specs.declared.state.Node.{Node}
use Rattle.ec_clerknode.specs.declared.step.Step.{Step}
use Rattle.ec_mount_words.specs.OfRoute.Calls.{call_below}
use Rattle.ec_mounts.specs.declared.part.Part.{Part}
use Rattle.ec_mounts.specs.Mounts.{raised_reply}
use Rattle.ec_mounts.proofs.Made.{went_to}
use Rattle.ec_mounts.proofs.calling.call_at.Goals as goal

pub returns-clause-went : goal.returns-clause-went
returns-clause-went g c =
    let pass_of : Part g.row.L.Denot g.row.L-Bell.Denot → Pass (Node g.row.L.Denot) Step = λ p. p.pass in
    let met = c.make_at-met.result in
    let len = c.names_of-names.ensures.len in
    went_to c.args.path.now c.args.place c.args.call c.in_ok-inner.inner (map pass_of c.args.parts.now) (map pass_of c.make_at-met.new.parts) met c.shown.result (c.in_ok-inner.ensures ∙ ap (λ k. call_below k c.args.call) len) c.make_at-met.ensures.made
    (c.shown.ensures ∙ ap (λ k. raised_reply k met) len)
