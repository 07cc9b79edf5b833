use Rattle.std.proofs.Common.{rules, refl, inl, inr, ap, ◌∙◌, Err}
use Rattle.ec_marking.proofs.Outcomes.{counted_less, counted_stop}
use Rattle.ec_marking.proofs.marking.MarkingKeeper.commit.Goals as goal

pub returns-in-Err-DiskStopped-clause-err : goal.returns-in-Err-DiskStopped-clause-err
returns-in-Err-DiskStopped-clause-err g c =
    let stopped = c.in-Err-DiskStopped.is ∙ ap Err c.in-Err-DiskStopped.field-0-is in
    let h = rw c.in-Err-DiskStopped.field-0-is at c.in-Err-DiskStopped.ensures.err in (
      h.0,
      (refl, inr (record { broke = h.1; stops = c.commit.ensures.stops stopped; marked = search rules; counted = counted_stop _ _ _ _ stopped c.commit.ensures.counts })),
    )

pub returns-in-Err-DiskFailed-clause-err : goal.returns-in-Err-DiskFailed-clause-err
returns-in-Err-DiskFailed-clause-err g c =
    let h = rw c.in-Err-DiskFailed.field-0-is at c.in-Err-DiskFailed.ensures.err in
    (h.0, (refl, inl (record { broke = inr h.1; stopped_are = refl; counted = counted_less _ _ _ _ c.commit.ensures.counts })))

pub returns-in-Err-NoMemory-clause-err : goal.returns-in-Err-NoMemory-clause-err
returns-in-Err-NoMemory-clause-err g c =
    let h = rw c.in-Err-NoMemory.field-0-is at c.in-Err-NoMemory.ensures.err in
    ((refl, inl (record { broke = inr h.0; stopped_are = refl; counted = counted_less _ _ _ _ c.commit.ensures.counts })), λ f is. ap (λ k. record c.args.self.now { keeper = k }) (h.1 f is))
