use Rattle.ec_world.proofs.Left.{open_leaves, none_bad}
use Rattle.ec_world.proofs.cutting.open_left.Goals as goal

pub returns-clause-left : goal.returns-clause-left
returns-clause-left g c = λ told r d either.
    let view = g.D.Disk.view in
    open_leaves r d (view c.args.disk.now) (view c.open.new.disk) (λ since image earlier left. g.met.D.Disk.counts_now told c.open.new.disk since image earlier left) (g.met.D.Disk.given told c.args.disk.now) (c.open.ensures.any_moment told) either

pub returns-clause-not_bad : goal.returns-clause-not_bad
returns-clause-not_bad g c = λ place is told r d either.
    none_bad r d (g.D.Disk.view c.args.disk.now) place (g.met.D.Disk.given told c.args.disk.now) either (c.open.ensures.bad place is told)
