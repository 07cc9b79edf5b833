use Rattle.std.proofs.Common.{sym, subst}
use Rattle.std.specs.List.{All}
use Rattle.ec_link.specs.JobCounts.{IsPromised}
use Rattle.ec_link.proofs.Promised.{still_owned}
use Rattle.ec_link.proofs.spawn.start_all.Goals as goal

pub returns-in-None-start-clause-owns : goal.returns-in-None-start-clause-owns
returns-in-None-start-clause-owns g c =
    subst (All (IsPromised (λ started. started.handle.promise.0.value) g.S.Job.Job.gives g.S.Jobs.owns c.next-in-loop.new.self)) (sym c.reserve.ensures.items)
    (still_owned (λ started. started.handle.promise.0.value) g.S.Job.Job.gives g.S.Jobs.owns c.loop.jobs c.next-in-loop.new.self c.loop.handles.items
    (λ out. g.S.Jobs.keeps c.loop.jobs c.next-in-loop.new.self out c.next-in-loop.ensures.later) c.loop.invariant.5)
