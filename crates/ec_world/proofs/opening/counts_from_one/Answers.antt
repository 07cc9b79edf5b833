use Rattle.std.proofs.Common.{rules, ◌≤◌, ℕ}
use Rattle.ec_world.proofs.FromOne.{none_at_zero}
use Rattle.ec_world.proofs.opening.counts_from_one.Goals as goal

pub returns-in-Some : goal.returns-in-Some
returns-in-Some c =
    let from_one : 1 ≤ c.in-Some.id = search rules in
    none_at_zero c.args.volume.now (c.in-Some.id, c.in-Some.field-0-1.now) c.live-count.ensures.volume.sorted c.in-Some.ensures from_one
