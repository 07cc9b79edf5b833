use Rattle.std.proofs.Common.{length}
use Rattle.ec_pending.proofs.overlay.overlay.Overlay.+carry_out_at.Given as goal

abbrev pub decreases-carry_out_at : goal.decreases-carry_out_at
decreases-carry_out_at l = length l.objs.now
