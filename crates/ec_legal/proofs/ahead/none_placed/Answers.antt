use Rattle.std.proofs.Common.{inr, arith}
use Rattle.ec_legal.proofs.ahead.none_placed.Goals as goal

pub returns-clause-ahead : goal.returns-clause-ahead
returns-clause-ahead c = record {
  behind = omega arith;
  known = omega arith;
  within = omega arith;
  follows = c.in_ok-following.ensures;
  settles = inr (λ k l. tt);
  watched = c.in_ok-watches.ensures;
}

pub returns-clause-told : goal.returns-clause-told
returns-clause-told c = λ k l. tt
