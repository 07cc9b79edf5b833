use Rattle.std.proofs.Common.{◌∷◌, [], length, ap, ◌∙◌, arith}
use Rattle.std.specs.Vec.Iter.{into_iter_items}
use Rattle.std.proofs.lemmas.List.{length-append}
use Rattle.ec_link.proofs.Promised.{left_owned}
use Rattle.ec_link.proofs.spawn.finish_all.Goals as goal

pub loop-started-preserved : goal.loop-started-preserved
loop-started-preserved g c =
    let inv = c.loop-started.invariant in
    let done = c.done.ensures in (
      done.begun ∙ inv.0,
      (let ended = done.ended in let before = inv.1 in let size = length-append c.loop-started.yielded (c.in-Some.started ∷ []) in omega (arith, size, ended, before)),
      (λ over. done.over (inv.2 over)),
      g.S.Jobs.onward c.args.jobs.now c.loop-started.jobs c.done.new.self inv.3 done.later,
      left_owned (λ started. started.handle.promise.0.value) g.S.Job.Job.gives g.S.Jobs.owns c.loop-started.jobs c.done.new.self c.in-Some.started (into_iter_items c.next.new.self)
          (into_iter_items c.loop-started.started-iterator) c.in-Some.ensures.steps.0 (λ out. g.S.Jobs.keeps c.loop-started.jobs c.done.new.self out done.later) inv.4,
      done.fits,
    )
