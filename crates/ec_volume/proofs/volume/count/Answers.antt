use Rattle.std.proofs.Common.{◌≤◌, length, arith}
use Rattle.ec_volume.proofs.Held.{counted}
use Rattle.ec_volume.proofs.volume.count.Goals as goal

pub overflow_cast-result : goal.overflow_cast-result
overflow_cast-result c =
    let some = c.in-Some-Some in
    let few : length c.args.items.now ≤ some.field-0-1.now.0 = counted c.args.items.now some.field-0-0.now some.field-0-1.now c.requires some.ensures.value some.ensures'.value (rw (← c.get-low.ensures.value) c.get-low.ensures.from_one) in
    omega arith
