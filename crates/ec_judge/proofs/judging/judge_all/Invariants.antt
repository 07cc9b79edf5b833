use Rattle.std.proofs.Common.{◌≡◌, take, ◌++◌}
use Rattle.ec_history.specs.Legal.{IsLegal, from_formatted}
use Rattle.ec_judge.specs.Carried.{Carries}
use Rattle.ec_judge.proofs.judging.judge_all.Given as goal

abbrev pub invariant-loop-at : goal.invariant-loop-at
invariant-loop-at l = record {
  carries : Carries from_formatted (l.fn.past.items ++ take l.at l.entries) l.judge;
  legal : IsLegal from_formatted l.most (l.fn.past.items ++ take l.at l.entries);
  past : l.past.items ≡ l.fn.past.items ++ take l.at l.entries;
}
