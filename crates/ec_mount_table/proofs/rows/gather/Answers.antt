use Rattle.std.proofs.Common.{arith, rules}
use Rattle.ec_mounts.specs.declared.part.Part.{Part}
use Rattle.ec_mount_table.proofs.Gathering.{first_all, first_cut}
use Rattle.ec_mount_table.proofs.rows.gather.Goals as goal

pub returns-in-Some-Err : goal.returns-in-Some-Err
returns-in-Some-Err g c =
    first_cut (λ (p : Part g.row.L.Denot g.row.L-Bell.Denot). p.met) c.args.parts.now c.parts.part-index c.part-item.result c.parts.replies.items c.in-Some-Err.fault c.parts-test.true (search rules) c.parts.invariant

pub returns : goal.returns
returns g c = first_all (λ (p : Part g.row.L.Denot g.row.L-Bell.Denot). p.met) c.args.parts.now c.parts.part-index c.parts.replies.items (omega (arith, c.parts-test.false)) c.parts.invariant
