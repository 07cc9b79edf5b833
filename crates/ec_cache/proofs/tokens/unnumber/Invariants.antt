use Rattle.std.proofs.Common.{◌≡◌, drop, reverse}
use Rattle.ec_base.specs.Tables.{keys}
use Rattle.ec_cache.specs.Held.{unnumbered}
use Rattle.ec_cache.proofs.tokens.unnumber.Given as goal

abbrev pub invariant-loop-obj : goal.invariant-loop-obj
invariant-loop-obj l = unnumbered (keys (drop l.obj-index l.held)) (reverse l.tokens.entries) ≡ unnumbered (keys l.held) (reverse l.fn.tokens.entries)
