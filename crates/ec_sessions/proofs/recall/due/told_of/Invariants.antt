use Rattle.std.proofs.Common.{◌≡◌, map, take}
use Rattle.ec_sessions.specs.OfRecall.Due.{told_of}
use Rattle.ec_sessions.proofs.recall.due.told_of.Given as goal

abbrev pub invariant-loop-holder : goal.invariant-loop-holder
invariant-loop-holder l = l.told.items ≡ map told_of (take l.holder-index l.holder-items)
