use Rattle.std.proofs.Common.{Vec, map, sym, ap, ◌∙◌, subst, rules}
use Rattle.std.specs.declared.alloc.Global.{Global}
use Rattle.ec_lock.specs.PassViews.{front}
use Rattle.ec_outs.specs.Outs.{Reply}
use Rattle.ec_clerknode.specs.declared.fault.NodeFault.TheVariants as fault
use Rattle.ec_clerknode.specs.LaneRuns.{LanesRan, all_items}
use Rattle.ec_clerknode.specs.Run.{old_boot}
use Rattle.ec_clerknode.proofs.LanePasses.{wants, plain_fails, plain_done, no_boot}
use Rattle.ec_clerknode.proofs.lanes.run_lanes.Goals as goal
use Rattle.ec_base.proofs.Lists.{map_twice}

pub returns-in_err-replies-clause-looked : goal.returns-in_err-replies-clause-looked
returns-in_err-replies-clause-looked g c = c.run_lane_ops.ensures.looked

pub returns-in_err-replies-clause-lanes : goal.returns-in_err-replies-clause-lanes
returns-in_err-replies-clause-lanes g c =
    let lock = c.args.clerk.now.lock in
    let before = front c.args.pass.now in
    let new = c.run_lane_ops.new.pass in
    let ran = plain_fails lock before c.args.pass.now new c.args.lanes.items c.in_err-replies.field-0.0
    (subst (LanesRan lock before c.args.pass.now c.args.lanes.items new) (ap all_items c.in_err-replies.was) c.run_lane_ops.ensures.lanes) in
    search (rules, ran)

pub returns-in_err-replies-clause-old_boot : goal.returns-in_err-replies-clause-old_boot
returns-in_err-replies-clause-old_boot g c = let tells = c.in_err-replies.ensures.old_boot in search (rules, tells)

pub returns-in_err-answers_of-clause-looked : goal.returns-in_err-answers_of-clause-looked
returns-in_err-answers_of-clause-looked g c = c.run_lane_ops.ensures.looked

pub returns-in_err-answers_of-clause-lanes : goal.returns-in_err-answers_of-clause-lanes
returns-in_err-answers_of-clause-lanes g c =
    let lock = c.args.clerk.now.lock in
    let before = front c.args.pass.now in
    let new = c.run_lane_ops.new.pass in
    let ran = plain_fails lock before c.args.pass.now new c.args.lanes.items fault.NoMemory (wants lock before c.args.pass.now new c.args.lanes.items (all_items c.run_lane_ops.result) c.run_lane_ops.ensures.lanes) in
    search (rules, ran)

pub returns-in_err-answers_of-clause-old_boot : goal.returns-in_err-answers_of-clause-old_boot
returns-in_err-answers_of-clause-old_boot g c = let tells = no_boot (old_boot (front c.run_lane_ops.new.pass)) fault.NoMemory c.in_ok-replies.ensures.old_boot in search (rules, tells)

pub returns-clause-looked : goal.returns-clause-looked
returns-clause-looked g c = c.run_lane_ops.ensures.looked

pub returns-clause-lanes : goal.returns-clause-lanes
returns-clause-lanes g c =
    let lock = c.args.clerk.now.lock in
    let before = front c.args.pass.now in
    let new = c.run_lane_ops.new.pass in
    let items : Vec Reply Global → _ = λ w. w.items in
    let first : Reply → _ = λ reply. reply.0 in
    plain_done lock before c.args.pass.now new c.args.lanes.items (map items c.in_ok-replies.replies.items) _
    (subst (LanesRan lock before c.args.pass.now c.args.lanes.items new) (ap all_items c.in_ok-replies.was) c.run_lane_ops.ensures.lanes)
    (c.in_ok-answers_of.ensures ∙ sym (map_twice (map first) items c.in_ok-replies.replies.items))

pub returns-clause-old_boot : goal.returns-clause-old_boot
returns-clause-old_boot g c = c.in_ok-replies.ensures.old_boot
