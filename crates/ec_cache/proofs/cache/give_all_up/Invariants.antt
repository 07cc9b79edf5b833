use Rattle.std.proofs.Common.{◌≡◌, drop, reverse}
use Rattle.ec_base.specs.Tables.{keys}
use Rattle.ec_cache.specs.Held.{apart_from}
use Rattle.ec_cache.proofs.cache.give_all_up.Given as goal

abbrev pub invariant-loop-obj : goal.invariant-loop-obj
invariant-loop-obj l =
    (apart_from (keys (drop l.obj-index l.gone)) (reverse l.tokens.entries) ≡ apart_from (keys l.gone) (reverse l.fn.tokens.entries))
    × (apart_from (keys (drop l.obj-index l.gone)) l.slots ≡ apart_from (keys l.gone) l.fn.slots)
