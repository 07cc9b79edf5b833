use Rattle.std.proofs.Common.{◌≡◌, ◌+◌, vec_len}
use Rattle.std.specs.List.{All}
use Rattle.ec_link.specs.JobCounts.{IsPromised}
use Rattle.ec_link.proofs.spawn.start_all.Given as goal

abbrev pub invariant-loop : goal.invariant-loop
invariant-loop g l =
    (goal.iterator-loop g).can_next l.iterator' × (goal.iterator-loop g).is_finite l.iterator'
    × (g.S.Jobs.begun l.jobs + vec_len l.fn.handles ≡ g.S.Jobs.begun l.fn.jobs + vec_len l.handles) × (g.S.Jobs.ended l.jobs ≡ g.S.Jobs.ended l.fn.jobs)
    × g.S.Jobs.later l.fn.jobs l.jobs × All (IsPromised (λ started. started.handle.promise.0.value) g.S.Job.Job.gives g.S.Jobs.owns l.jobs) l.handles.items
    × g.S.Jobs.fits l.jobs
