use Rattle.std.proofs.Common.{◌≡◌, ◌≤◌, length, ◌-◌}
use Rattle.ec_volume.specs.Volume.{images}
use Rattle.ec_judge.specs.Carried.{IsBehind}
use Rattle.ec_judge.proofs.rebuilt.advance.Given as goal

abbrev pub invariant-advance : goal.invariant-advance
invariant-advance l = record {
  behind : IsBehind l.named.clerk l.named.boot l.named.ops.now l.kept l.firm.count (images l.firm.volume.under);
  onward : l.fn.firm.count ≤ l.firm.count;
  over : l.firm.volume.over ≡ l.fn.firm.volume.over;
}

abbrev pub decreases-advance : goal.decreases-advance
decreases-advance l = length l.kept - l.firm.count
