use Rattle.std.proofs.Common.{length}
use Rattle.ec_cache.proofs.tokens.+change_rest.Given as goal

-- the operands that are left
abbrev pub decreases-change_rest : goal.decreases-change_rest
decreases-change_rest l = length l.ids.now
