use Rattle.std.proofs.Common.{◌≡◌, ◌++◌, ◌-◌, T, length, reverse, take}
use Rattle.std.specs.List.{list_all}
use Rattle.ec_cache.specs.Numbers.{numbers}
use Rattle.ec_cache.specs.Held.{is_token, unpinned}
use Rattle.ec_cache.proofs.tokens.least_used.Given as goal

abbrev pub invariant-looking : goal.invariant-looking
invariant-looking l =
    (l.list.items ++ take (l.most - length l.list.items) (numbers (unpinned l.pinned (reverse l.rest))) ≡ take l.most (numbers (unpinned l.pinned (reverse l.tokens.entries))))
    × T (list_all is_token (reverse l.rest))

abbrev pub decreases-looking : goal.decreases-looking
decreases-looking l = length l.rest
