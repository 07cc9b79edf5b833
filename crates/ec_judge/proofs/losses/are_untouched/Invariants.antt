use Rattle.std.proofs.Common.{◌≡◌, drop}
use Rattle.ec_judge.specs.Carried.{touches_in, are_untouched}
use Rattle.ec_judge.proofs.losses.are_untouched.Given as goal

abbrev pub invariant-loop-kept : goal.invariant-loop-kept
invariant-loop-kept l = are_untouched l.named.clerk l.named.boot l.named.ops.now (touches_in l.touches) l.kept ≡ are_untouched l.named.clerk l.named.boot l.named.ops.now (touches_in l.touches) (drop l.kept-index l.kept)
