use Rattle.std.proofs.Common.{map, arith}
use Rattle.ec_lock.specs.declared.types.Pass.{Pass}
use Rattle.ec_clerknode.specs.declared.state.Node.{Node}
use Rattle.ec_clerknode.specs.declared.step.Step.{Step}
use Rattle.ec_mounts.specs.declared.part.Part.{Part}
use Rattle.ec_mount_table.proofs.Sofar.{came_at, went_nowhere}
use Rattle.ec_mount_table.proofs.rows.call_one.Goals as goal

pub path_at-path-requires : goal.path_at-path-requires
path_at-path-requires g c = (c.in-To.ensures 0 (omega (arith, c.requires.paths.0.0))).inside

pub call_at-requires-clause-place : goal.call_at-requires-clause-place
call_at-requires-clause-place g c κs within = omega (arith, (c.in-To.ensures 0 (omega (arith, c.requires.paths.0.0))).inside, c.requires.many)

pub returns-in-To-clause-came : goal.returns-in-To-clause-came
returns-in-To-clause-came g c =
    let pass_of : Part g.row.L.Denot g.row.L-Bell.Denot → Pass (Node g.row.L.Denot) Step = λ p. p.pass in
    came_at c.args.table.now c.path_at-path.result.now c.args.call c.in-To.place (map pass_of c.args.parts.now) (map pass_of c.call_at.new.parts) c.path_at-path.ensures c.requires.paths.1 c.in-To.ensures c.call_at.result c.call_at.ensures.came

pub returns-in-NoVolume-clause-came : goal.returns-in-NoVolume-clause-came
returns-in-NoVolume-clause-came g c =
    let pass_of : Part g.row.L.Denot g.row.L-Bell.Denot → Pass (Node g.row.L.Denot) Step = λ p. p.pass in
    ((c.requires.paths.1, c.in-NoVolume.ensures), went_nowhere (map pass_of c.args.parts.now))

pub returns-in-CrossVolume-clause-came : goal.returns-in-CrossVolume-clause-came
returns-in-CrossVolume-clause-came g c =
    let pass_of : Part g.row.L.Denot g.row.L-Bell.Denot → Pass (Node g.row.L.Denot) Step = λ p. p.pass in
    ((c.requires.paths.1, c.in-CrossVolume.ensures), went_nowhere (map pass_of c.args.parts.now))
