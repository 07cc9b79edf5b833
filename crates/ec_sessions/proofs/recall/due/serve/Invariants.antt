use Rattle.std.proofs.Common.{◌≡◌, ◌++◌, drop}
use Rattle.ec_sessions.specs.OfRecall.Due.{actions, actions_from, wants_after, wants_from}
use Rattle.ec_sessions.proofs.recall.due.serve.Given as goal

abbrev pub invariant-loop-want : goal.invariant-loop-want
invariant-loop-want l = record {
  actions : l.round.actions.items ++ actions_from l.tokens l.round.given (drop l.want-index l.wants) ≡ actions l.tokens l.wants;
  wants : l.round.wants.items ++ wants_from l.tokens l.round.given (drop l.want-index l.wants) ≡ wants_after l.tokens l.wants;
}
