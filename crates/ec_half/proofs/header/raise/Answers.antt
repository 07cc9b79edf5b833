use Rattle.std.specs.Prelude.{true, false}
use Rattle.ec_half.proofs.Raises.{ready-for, leaves-for, raised-for}
use Rattle.ec_half.proofs.header.raise.Goals as goal

pub returns-then-present-clause-any_moment : goal.returns-then-present-clause-any_moment
returns-then-present-clause-any_moment g c told rises have =
    leaves-for _ _ _ _ c.other-spare.result _ c.other-spare.ensures
    (c.write_open.ensures.any_moment told c.args.present.number rises (ready-for (g.D.Disk.view c.args.disk.now) c.args.present c.other-spare.result true c.other-spare.ensures c.if-present.true have))

pub returns-then-present-clause-raised : goal.returns-then-present-clause-raised
returns-then-present-clause-raised g c is told rises have =
    raised-for (g.D.Disk.view c.write_open.new.disk) c.args.number c.other-spare.result _ c.other-spare.ensures
    (c.write_open.ensures.done is told c.args.present.number rises (ready-for (g.D.Disk.view c.args.disk.now) c.args.present c.other-spare.result true c.other-spare.ensures c.if-present.true have))

pub returns-else-present-clause-any_moment : goal.returns-else-present-clause-any_moment
returns-else-present-clause-any_moment g c told rises have =
    leaves-for _ _ _ _ c.other-spare.result _ c.other-spare.ensures
    (c.write_shut.ensures.any_moment told c.args.present.number rises (ready-for (g.D.Disk.view c.args.disk.now) c.args.present c.other-spare.result false c.other-spare.ensures c.if-present.false have))

pub returns-else-present-clause-raised : goal.returns-else-present-clause-raised
returns-else-present-clause-raised g c is told rises have =
    raised-for (g.D.Disk.view c.write_shut.new.disk) c.args.number c.other-spare.result _ c.other-spare.ensures
    (c.write_shut.ensures.done is told c.args.present.number rises (ready-for (g.D.Disk.view c.args.disk.now) c.args.present c.other-spare.result false c.other-spare.ensures c.if-present.false have))
