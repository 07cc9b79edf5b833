use Rattle.std.proofs.Common.{sym, ◌∙◌}
use Rattle.ec_lock.specs.PassViews.{front}
use Rattle.ec_clerknode.specs.LaneRuns.{lists_of}
use Rattle.ec_clerknode.specs.Run.{old_boot}
use Rattle.ec_clerknode.proofs.LanePasses.{looked, looks, told_old, tells, same_boot}
use Rattle.ec_clerknode.proofs.lanes.run_lane_calls.Goals as goal

pub returns-in-Some-clause-looked : goal.returns-in-Some-clause-looked
returns-in-Some-clause-looked g c =
    looks c.args.clerk.now.lock (front c.args.pass.now) c.args.pass.now c.run_apart-all.new.pass c.look.new.pass c.args.lanes.items (lists_of c.run_apart-all.result.lanes) c.run_apart-all.result.end c.run_apart-all.ensures c.look.ensures.turned

pub returns-in-Some-clause-lanes : goal.returns-in-Some-clause-lanes
returns-in-Some-clause-lanes g c =
    let lock = c.args.clerk.now.lock in
    let before = front c.args.pass.now in
    let all = lists_of c.run_apart-all.result.lanes in
    let end = c.run_apart-all.result.end in
    told_old lock before c.args.pass.now c.look.new.pass c.args.lanes.items all end c.in-Some.age
    (looked lock before c.args.pass.now c.run_apart-all.new.pass c.look.new.pass c.args.lanes.items all end c.run_apart-all.ensures c.look.ensures.turned c.look.ensures.own)
    (sym c.look.ensures.old_boot ∙ c.in-Some.is)

pub returns-in-Some-clause-old_boot : goal.returns-in-Some-clause-old_boot
returns-in-Some-clause-old_boot g c age is = same_boot (old_boot (front c.look.new.pass)) c.in-Some.age age (sym c.look.ensures.old_boot ∙ c.in-Some.is) is

pub returns-in-None-clause-looked : goal.returns-in-None-clause-looked
returns-in-None-clause-looked g c =
    looks c.args.clerk.now.lock (front c.args.pass.now) c.args.pass.now c.run_apart-all.new.pass c.look.new.pass c.args.lanes.items (lists_of c.run_apart-all.result.lanes) c.run_apart-all.result.end c.run_apart-all.ensures c.look.ensures.turned

pub returns-in-None-clause-lanes : goal.returns-in-None-clause-lanes
returns-in-None-clause-lanes g c =
    looked c.args.clerk.now.lock (front c.args.pass.now) c.args.pass.now c.run_apart-all.new.pass c.look.new.pass c.args.lanes.items (lists_of c.run_apart-all.result.lanes) c.run_apart-all.result.end c.run_apart-all.ensures c.look.ensures.turned c.look.ensures.own

pub returns-in-None-clause-old_boot : goal.returns-in-None-clause-old_boot
returns-in-None-clause-old_boot g c = tells (old_boot (front c.look.new.pass)) c.run_apart-all.result.end (sym c.look.ensures.old_boot ∙ c.in-None.is)
