use Rattle.std.proofs.Common.{take, ◌||◌}
use Rattle.ec_judge.specs.Carried.{is_among, is_noted, AreNoted, IsRestored}
use Rattle.ec_judge.proofs.rebuilt.restore_all.Given as goal

abbrev pub invariant-loop-next : goal.invariant-loop-next
invariant-loop-next l = record {
  restored : IsRestored l.fn.volume l.volume (is_noted l.noted);
  noted : AreNoted (λ k. l.all || is_among l.named.clerk l.named.boot l.named.ops.now k) (is_noted l.noted) (take l.next-index l.kept);
}
