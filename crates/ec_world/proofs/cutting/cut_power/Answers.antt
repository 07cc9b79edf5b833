use Rattle.std.proofs.Common.{◌≡◌, ◌∙◌, sym, ap, subst, Bool}
use Rattle.ec_durable.specs.declared.state.Durable.{Durable}
use Rattle.ec_store.specs.Store.{view_of}
use Rattle.ec_world.specs.Cutting.{LeavesBy, left_of}
use Rattle.ec_marking.specs.Signs.{is_there}
use Rattle.ec_world.proofs.Left.{cut_leaves, sign_tells, leaves_by}
use Rattle.ec_world.proofs.cutting.cut_power.Goals as goal

pub returns-in-Ok-clause-found : goal.returns-in-Ok-clause-found
returns-in-Ok-clause-found g c = λ told r d e is takes either.
    let view = g.D.Disk.view in
    let cut = c.power_cut.new.self in
    let left = view_of c.in-Ok.store in
    let tells : c.is_in-is_there.result ≡ is_there c.args.sign left = c.is_in-is_there.ensures ∙ ap (λ (x : Durable). is_there c.args.sign x) c.view.ensures.value in
    let among = cut_leaves r d (view c.args.disk.now) (view cut) (c.power_cut.ensures.cut told) either (view cut).gives (g.met.D.Disk.given told cut) in
    sign_tells c.args.sign r d e left (view cut).gives is takes among (c.in-Ok.ensures.stands told) ∙ sym (ap (λ (b : Bool). left_of b d e) tells)

pub returns-in-Err-DiskFailed-clause-left : goal.returns-in-Err-DiskFailed-clause-left
returns-in-Err-DiskFailed-clause-left g c = λ told r d either.
    let view = g.D.Disk.view in
    c.open_left.ensures.left told r d (cut_leaves r d (view c.args.disk.now) (view c.power_cut.new.self) (c.power_cut.ensures.cut told) either)

pub returns-in-Err-BadDisk-clause-left : goal.returns-in-Err-BadDisk-clause-left
returns-in-Err-BadDisk-clause-left g c = λ told r d either.
    let view = g.D.Disk.view in
    c.open_left.ensures.left told r d (cut_leaves r d (view c.args.disk.now) (view c.power_cut.new.self) (c.power_cut.ensures.cut told) either)

pub returns-in-Ok-clause-left : goal.returns-in-Ok-clause-left
returns-in-Ok-clause-left g c = λ told r d either.
    let view = g.D.Disk.view in
    c.open_left.ensures.left told r d (cut_leaves r d (view c.args.disk.now) (view c.power_cut.new.self) (c.power_cut.ensures.cut told) either)

pub returns-in-Ok-clause-chosen : goal.returns-in-Ok-clause-chosen
returns-in-Ok-clause-chosen g c = λ told r d e is takes.
    let view = g.D.Disk.view in
    let left = view_of c.in-Ok.store in
    let tells : c.is_in-is_there.result ≡ is_there c.args.sign left = c.is_in-is_there.ensures ∙ ap (λ (x : Durable). is_there c.args.sign x) c.view.ensures.value in
    subst (λ (b : Bool). LeavesBy c.args.choice d e (view c.args.disk.now) b) (sym tells)
    (leaves_by c.args.choice c.args.sign r d e left (view c.args.disk.now) (view c.power_cut.new.self).gives is takes (c.power_cut.ensures.leaves told c.in-Done.is)
    ((c.power_cut.ensures.cut told).crash (view c.power_cut.new.self).gives (g.met.D.Disk.given told c.power_cut.new.self)) (c.in-Ok.ensures.stands told))
