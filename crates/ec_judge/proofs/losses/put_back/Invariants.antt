use Rattle.std.proofs.Common.{◌≡◌, ◌++◌, vec_len}
use Rattle.std.specs.Prelude.{reverse}
use Rattle.ec_judge.proofs.losses.put_back.Given as goal

abbrev pub invariant-forth : goal.invariant-forth
invariant-forth l = l.kept.items ++ reverse l.left.items ≡ l.fn.kept.items ++ reverse l.fn.behind.items

abbrev pub decreases-forth : goal.decreases-forth
decreases-forth l = vec_len l.left
