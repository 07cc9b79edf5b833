use Rattle.std.proofs.Common.{map, refl}
use Rattle.ec_lock.specs.declared.types.Pass.{Pass}
use Rattle.ec_clerknode.specs.declared.state.Node.{Node}
use Rattle.ec_clerknode.specs.declared.step.Step.{Step}
use Rattle.ec_mounts.specs.declared.part.Part.{Part}
use Rattle.ec_mount_table.proofs.Sofar.{last_cut}
use Rattle.ec_mount_table.proofs.rows.make_last.Goals as goal

pub returns-in-Err-clause-last : goal.returns-in-Err-clause-last
returns-in-Err-clause-last g c =
    let pass_of : Part g.row.L.Denot g.row.L-Bell.Denot → Pass (Node g.row.L.Denot) Step = λ p. p.pass in
    last_cut (map pass_of c.args.parts.now) (map pass_of c.sync_all.new.parts) c.in-Err.cut c.in-Err.cut.fault refl c.in-Err.ensures.came
