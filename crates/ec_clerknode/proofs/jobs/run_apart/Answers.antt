use Rattle.std.proofs.Common.{◌<◌, List, sym, refl, ◌∙◌, subst, inl, rules}
use Rattle.ec_plain.specs.declared.call.Call.{Call}
use Rattle.ec_lock.specs.PassViews.{front}
use Rattle.ec_lock.specs.declared.types.Pass.{Pass}
use Rattle.ec_clerknode.specs.declared.fault.NodeFault.TheVariants as fault
use Rattle.ec_clerknode.specs.declared.jobs.Job.{Job}
use Rattle.ec_clerknode.specs.declared.state.Node.{Node}
use Rattle.ec_clerknode.specs.declared.step.Step.{Step}
use Rattle.ec_clerknode.specs.Jobs.{AreBack}
use Rattle.ec_clerknode.specs.LaneRuns.{lists_of}
use Rattle.ec_clerknode.proofs.LanePasses.{not_run, drawn, all_new, are_back, back_passes}
use Rattle.ec_clerknode.proofs.jobs.run_apart.Goals as goal
use Rattle.ec_clerknode.proofs.jobs.run_apart.Goals.{In-Ok-run_all}

-- the passes of all lanes come back
came_back : (g : _) (c : In-Ok-run_all g) → AreBack c.args.clerk.now.lock (front c.args.pass.now) c.args.lanes.items c.in-Ok-run_all.ran.items
came_back g c =
    let jobs = c.in-Ok.jobs in
    let ran = c.in-Ok-run_all.ran in
    let lock = c.args.clerk.now.lock in
    let calls_of : Job g.row.L.Denot g.row.L-Bell.Denot → List Call = λ job. job.calls.items in
    let pass_of : Job g.row.L.Denot g.row.L-Bell.Denot → Pass (Node g.row.L.Denot) Step = λ job. job.pass in
    subst (λ l. AreBack lock (front c.args.pass.now) l ran.items) c.in-Ok.ensures.calls
    (are_back lock pass_of calls_of (front c.args.pass.now) jobs.items ran.items (sym ran.ok.0 ∙ (c.in-Ok-run_all.ensures.len ∙ jobs.ok.0)) c.in-Ok.ensures.passes
    (λ i d e l. c.in-Ok-run_all.ensures.each i d e (subst (λ n. i < n) (sym jobs.ok.0) l)))

pub returns-in-Err : goal.returns-in-Err
returns-in-Err g c =
    let f = c.in-Err.fault in
    let ran = not_run c.args.clerk.now.lock c.args.pass.now c.draw_all.new.pass c.args.lanes.items f c.in-Err.ensures.err c.draw_all.ensures.drew (lists_of c.none.result.lanes) in
    rw c.none.ensures.1 ran

pub returns-in-Err-run_all : goal.returns-in-Err-run_all
returns-in-Err-run_all g c =
    let ran = not_run c.args.clerk.now.lock c.args.pass.now c.draw_all.new.pass c.args.lanes.items fault.NoMemory (inl refl) c.draw_all.ensures.drew (lists_of c.none-in-Err-run_all.result.lanes) in
    rw c.none-in-Err-run_all.ensures.1 ran

pub run_all-requires-after_bounds : goal.run_all-requires-after_bounds
run_all-requires-after_bounds g c =
    let pass_of : Job g.row.L.Denot g.row.L-Bell.Denot → Pass (Node g.row.L.Denot) Step = λ job. job.pass in
    let all = all_new c.args.clerk.now.lock pass_of (front c.args.pass.now) c.in-Ok.jobs.items c.in-Ok.ensures.passes in
    search (rules, all)

pub gather-requires-clause-pass : goal.gather-requires-clause-pass
gather-requires-clause-pass g c κs within = c.draw_all.ensures.drew.is_pass

pub gather-requires-clause-others : goal.gather-requires-clause-others
gather-requires-clause-others g c κs within =
    back_passes c.args.clerk.now.lock (front c.args.pass.now) c.args.lanes.items c.in-Ok-run_all.ran.items (came_back g (goal.at.gather-requires-clause-others g c).In-Ok-run_all)

pub returns-in-Ok-run_all : goal.returns-in-Ok-run_all
returns-in-Ok-run_all g c =
    let before = front c.args.pass.now in
    drawn c.args.clerk.now.lock before c.args.pass.now c.draw_all.new.pass c.gather.new.pass c.args.lanes.items (lists_of c.gather.result.lanes) c.gather.result.end c.draw_all.ensures.drew
    (c.gather.ensures before c.args.lanes.items (came_back g (goal.at.returns-in-Ok-run_all g c).In-Ok-run_all))
