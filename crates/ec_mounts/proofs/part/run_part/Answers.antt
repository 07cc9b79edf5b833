use Rattle.std.proofs.Common.{sym, ◌∙◌, subst}
use Rattle.ec_lock.specs.PassViews.{IsPassOf}
use Rattle.ec_mounts.specs.Parts.{Answered}
use Rattle.ec_mounts.proofs.Seats.{get_inside, some_is}
use Rattle.ec_mounts.proofs.part.run_part.Goals as goal

pub clerk_at-clerk-requires-after_bounds : goal.clerk_at-clerk-requires-after_bounds
clerk_at-clerk-requires-after_bounds g c κs within = get_inside c.args.round.now.clerks.now c.args.at c.requires.0 c.requires.1

pub returns : goal.returns
returns g c =
    let r = c.requires in (
      (r.0, r.1, subst (λ k. IsPassOf k.lock c.run_volume.new.pass) (sym (some_is (sym r.1 ∙ c.clerk_at-clerk.ensures))) c.run_volume.ensures.pass),
      subst (λ a. Answered a c.args.part.now.pass c.run_volume.new.pass c.run_volume.result) c.asked_at-asked.ensures c.run_volume.ensures.answered,
    )
