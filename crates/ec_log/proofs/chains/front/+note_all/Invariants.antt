use Rattle.std.proofs.Common.{length}
use Rattle.ec_log.proofs.chains.front.+note_all.Given as goal

-- the objects that are left
abbrev pub decreases-note_all : goal.decreases-note_all
decreases-note_all l = length l.objs.now
