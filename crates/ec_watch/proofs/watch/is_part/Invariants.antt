use Rattle.std.proofs.Common.{◌≡◌, ◌≤◌, ◌-◌, length, take, true}
use Rattle.std.specs.List.{list_all}
use Rattle.ec_volume.specs.Update.{member}
use Rattle.ec_watch.proofs.watch.is_part.Given as goal

abbrev pub invariant-walk : goal.invariant-walk
invariant-walk l = (l.found ≤ length l.ops) × (list_all (λ n. member n l.others) (take l.found l.ops) ≡ true)

abbrev pub decreases-walk : goal.decreases-walk
decreases-walk l = length l.others - l.at
