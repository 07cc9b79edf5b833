use Rattle.std.proofs.Common.{map, refl, subst, arith}
use Rattle.ec_lock.specs.declared.types.Pass.{Pass}
use Rattle.ec_clerknode.specs.declared.state.Node.{Node}
use Rattle.ec_clerknode.specs.declared.step.Step.{Step}
use Rattle.ec_mount_words.specs.declared.route.routes.Route.TheVariants as route
use Rattle.ec_mounts.specs.declared.part.Part.{Part}
use Rattle.ec_mounts.specs.Mounts.{WentTo}
use Rattle.ec_mounts.proofs.calling.call_over.Goals as goal

pub path_at-path-requires : goal.path_at-path-requires
path_at-path-requires g c = (c.in-To.ensures 0 (omega (arith, c.requires.paths.0))).inside

pub call_at-requires-clause-place : goal.call_at-requires-clause-place
call_at-requires-clause-place g c κs within = omega (arith, (c.in-To.ensures 0 (omega (arith, c.requires.paths.0))).inside, c.requires.many)

pub returns-in-To-clause-went : goal.returns-in-To-clause-went
returns-in-To-clause-went g c =
    let pass_of : Part g.row.L.Denot g.row.L-Bell.Denot → Pass (Node g.row.L.Denot) Step = λ p. p.pass in
    (route.To c.in-To.place, c.in-To.ensures, subst (λ p. WentTo p c.in-To.place c.args.call (map pass_of c.args.parts.now) (map pass_of c.call_at.new.parts) c.call_at.result) c.path_at-path.ensures c.call_at.ensures.went)

pub returns-in-NoVolume-clause-went : goal.returns-in-NoVolume-clause-went
returns-in-NoVolume-clause-went g c = (route.NoVolume c.in-NoVolume.number, c.in-NoVolume.ensures, (refl, refl))

pub returns-in-CrossVolume-clause-went : goal.returns-in-CrossVolume-clause-went
returns-in-CrossVolume-clause-went g c = (route.CrossVolume, c.in-CrossVolume.ensures, (refl, refl))
