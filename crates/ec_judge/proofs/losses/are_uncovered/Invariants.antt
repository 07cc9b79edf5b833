use Rattle.std.proofs.Common.{◌≡◌, drop}
use Rattle.ec_pending.specs.Pending.{numbers_in}
use Rattle.ec_judge.specs.Carried.{are_uncovered}
use Rattle.ec_judge.proofs.losses.are_uncovered.Given as goal

abbrev pub invariant-loop-kept : goal.invariant-loop-kept
invariant-loop-kept l = record {
  same : l.pending ≡ l.fn.pending;
  are : are_uncovered l.named.clerk l.named.boot l.named.ops.now (numbers_in l.fn.pending.1) l.kept ≡ are_uncovered l.named.clerk l.named.boot l.named.ops.now (numbers_in l.fn.pending.1) (drop l.kept-index l.kept);
}
