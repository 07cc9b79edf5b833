use Rattle.std.proofs.Common.{◌≡◌, ◌++◌, length, map}
use Rattle.std.specs.List.{All}
use Rattle.std.specs.Vec.Iter.{into_iter_items, into_iter_len}
use Rattle.ec_lock.specs.PassViews.{front}
use Rattle.ec_clerknode.specs.Jobs.{Drew, IsNewPass}
use Rattle.ec_clerknode.proofs.jobs.draw_all.Given as goal

abbrev pub invariant-lanes : goal.invariant-lanes
invariant-lanes g l =
    Drew l.clerk.lock l.fn.pass l.pass
    × (map (λ job. job.calls.items) l.jobs.items ++ into_iter_items l.calls-iterator ≡ l.fn.lanes.items)
    × (into_iter_len l.calls-iterator ≡ length (into_iter_items l.calls-iterator))
    × All (λ job. IsNewPass l.clerk.lock (front l.fn.pass) job.pass) l.jobs.items
