use Rattle.std.proofs.Common.{◌≡◌, [], sym, subst, rules}
use Rattle.ec_legal.specs.Tried.{IsTried}
use Rattle.ec_check.proofs.judged.judge_bytes.Goals as goal

pub judge_pieces-judged-requires-clause-tried : goal.judge_pieces-judged-requires-clause-tried
judge_pieces-judged-requires-clause-tried g c k l =
    let none : c.reserve.new.self.items ≡ [] = search rules in
    subst (IsTried c.args.most c.in-Ok.trial) (sym none) (c.in-Ok.ensures c.args.most)
