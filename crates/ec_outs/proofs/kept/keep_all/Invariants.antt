use Rattle.std.proofs.Common.{◌≡◌, ◌++◌, map, vec_len}
use Rattle.std.specs.Prelude.{reverse}
use Rattle.ec_outs.specs.Outs.{answers, told}
use Rattle.ec_outs.specs.KeptAnswers.{kept_at}
use Rattle.ec_outs.proofs.kept.keep_all.Given as goal

abbrev pub invariant-outs : goal.invariant-outs
invariant-outs l =
    (l.kept.items ++ map (kept_at l.at) (answers (reverse l.outs.items)) ≡ l.fn.kept.items ++ map (kept_at l.at) (answers l.fn.outs.items))
    × (l.told.items ++ told (reverse l.outs.items) ≡ l.fn.told.items ++ told l.fn.outs.items)

abbrev pub decreases-outs : goal.decreases-outs
decreases-outs l = vec_len l.outs
