use Rattle.std.proofs.Common.{◌≡◌, ◌≤◌, length, vec_len}
use Rattle.ec_pending.specs.OfOwes.Owes.{staying, AreIn}
use Rattle.ec_pending.proofs.owes.owes.trim.Given as goal

abbrev pub invariant-back : goal.invariant-back
invariant-back l = record {
  end : l.end ≡ length l.pairs.items;
  within : AreIn l.spans 0 l.pairs.items;
  same : staying l.spans 0 l.pairs.items ≡ staying l.spans 0 l.fn.pairs.items;
}

abbrev pub decreases-back : goal.decreases-back
decreases-back l = l.end
