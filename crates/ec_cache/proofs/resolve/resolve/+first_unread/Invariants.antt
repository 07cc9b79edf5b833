use Rattle.std.proofs.Common.{length}
use Rattle.ec_cache.proofs.resolve.resolve.+first_unread.Given as goal

-- the objects that are left
abbrev pub decreases-first_unread : goal.decreases-first_unread
decreases-first_unread l = length l.ids.now
