use Rattle.std.proofs.Common.{◌≡◌, ◌++◌, map, take}
use Rattle.ec_sessions.specs.OfRecall.Due.{recall_of}
use Rattle.ec_sessions.proofs.recall.due.Round.recall.Given as goal

abbrev pub invariant-loop-holder : goal.invariant-loop-holder
invariant-loop-holder l = record {
  actions : l.self.actions.items ≡ l.fn.self.actions.items ++ map (recall_of l.want) (take l.holder-index l.holder-items);
  wants : l.self.wants.items ≡ l.fn.self.wants.items;
  given : l.self.given ≡ l.fn.self.given;
}
