use Rattle.std.proofs.Common.{◌≡◌, ◌+◌, length}
use Rattle.std.specs.List.{All}
use Rattle.std.specs.Vec.Iter.{into_iter_items}
use Rattle.ec_link.specs.JobCounts.{IsPromised}
use Rattle.ec_link.proofs.spawn.finish_all.Given as goal

abbrev pub invariant-loop-started : goal.invariant-loop-started
invariant-loop-started g l =
    (g.S.Jobs.begun l.jobs ≡ g.S.Jobs.begun l.fn.jobs) × (g.S.Jobs.ended l.jobs ≡ g.S.Jobs.ended l.fn.jobs + length l.yielded)
    × (g.S.Jobs.over l.fn.jobs → g.S.Jobs.over l.jobs)
    × g.S.Jobs.later l.fn.jobs l.jobs × All (IsPromised (λ started. started.handle.promise.0.value) g.S.Job.Job.gives g.S.Jobs.owns l.jobs) (into_iter_items l.started-iterator)
    × g.S.Jobs.fits l.jobs
