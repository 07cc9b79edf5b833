use Rattle.std.proofs.Common.{◌≡◌, ◌++◌, drop, reverse}
use Rattle.ec_cache.specs.Held.{holds_by}
use Rattle.ec_cache.proofs.tokens.holds_by.Given as goal

abbrev pub invariant-loop-obj : goal.invariant-loop-obj
invariant-loop-obj l = l.list.items ++ holds_by (drop l.obj-index l.slots) (reverse l.tokens.entries) ≡ holds_by l.slots (reverse l.tokens.entries)
