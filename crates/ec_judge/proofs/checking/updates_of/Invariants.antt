use Rattle.std.proofs.Common.{◌≡◌, take}
use Rattle.ec_history.specs.History.{updates}
use Rattle.ec_judge.specs.Carried.{ops_of}
use Rattle.ec_judge.proofs.checking.updates_of.Given as goal

abbrev pub invariant-loop-kept : goal.invariant-loop-kept
invariant-loop-kept l = l.list.items ≡ updates (ops_of (take l.kept-index l.kept))
