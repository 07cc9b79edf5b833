use Rattle.std.proofs.Common.{◌<◌, slice_index_or, sym, subst}
use Rattle.ec_clerknode.specs.LaneRuns.{LaneRan}
use Rattle.ec_clerknode.specs.declared.jobs.Job.{Job}
use Rattle.ec_clerknode.proofs.LanePasses.{if_ok}
use Rattle.ec_clerknode.proofs.jobs.run_all.Goals as goal

pub returns-clause-each : goal.returns-clause-each
returns-clause-each g c =
    if_ok _ _ c.map_vec.result
    (λ ran gives i d e l.
    let job = (gives i d (subst (λ n. i < n) c.args.jobs.ok.0 l)).1 in
    subst (λ (j : Job g.row.L.Denot g.row.L-Bell.Denot). LaneRan c.args.clerk.now.lock j.pass j.calls.items (slice_index_or ran.items i d).0 (slice_index_or ran.items i d).1.replies.items (slice_index_or ran.items i d).1.end) (sym (job.job_is e)) job.call.met)
    c.map_vec.ensures.each
