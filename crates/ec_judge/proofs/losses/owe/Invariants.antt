use Rattle.std.proofs.Common.{◌≡◌, ◌++◌, take}
use Rattle.std.specs.List.{filter}
use Rattle.ec_history.specs.History.{is_one_of, pairs_of}
use Rattle.ec_judge.specs.Carried.{ops_of}
use Rattle.ec_judge.proofs.losses.owe.Given as goal

abbrev pub invariant-loop-lost : goal.invariant-loop-lost
invariant-loop-lost l = record {
  clerk : l.start.clerk ≡ l.fn.start.clerk;
  boot : l.start.boot ≡ l.fn.start.boot;
  count : l.start.pending.0 ≡ l.fn.start.pending.0;
  owed : l.start.owed ≡ l.fn.start.owed ++ pairs_of (filter (is_one_of l.named.clerk l.named.boot l.named.ops.now) (ops_of (take l.lost-index l.kept)));
  pending : l.start.pending.1 ≡ l.fn.start.pending.1;
}
