use Rattle.std.proofs.Common.{length}
use Rattle.ec_mount_words.proofs.mounts.+is_new.Given as goal

abbrev pub decreases-is_new : goal.decreases-is_new
decreases-is_new l = length l.words.now
