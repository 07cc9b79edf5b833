use Rattle.ec_clerknode.specs.LaneRuns.{lists_of}
use Rattle.ec_mount.proofs.Passing.{ran_beside}
use Rattle.ec_mount.proofs.calls.run_beside.Goals as goal

pub returns : goal.returns
returns g c =
    let j = c.join.ensures in
    let k = c.join-2.ensures in
    ran_beside c.args.clerk.now.lock c.args.pass.now c.draw_two.new.pass c.in-Ok.passes.0 c.in-Ok.passes.1 c.in-Ok-run_both.both.lanes c.in-Ok-run_both.both.worker c.join.new.pass c.join-2.new.pass c.args.lanes.items (lists_of c.in-Ok-run_both.both.all.lanes) c.in-Ok-run_both.both.all.end c.in-Ok-run_both.both.met c.requires c.draw_two.ensures.drew
    c.in-Ok-run_both.ensures.lanes c.in-Ok-run_both.ensures.worker
    (record { is_pass = j.pass; number = j.number; later = j.later; other_later = j.other; own = j.own; others = j.others; apart = j.apart; both = j.same.0 })
    (record { is_pass = k.pass; number = k.number; later = k.later; other_later = k.other; own = k.own; others = k.others; apart = k.apart; both = k.same.0 })
    c.judged.result c.judged.ensures
