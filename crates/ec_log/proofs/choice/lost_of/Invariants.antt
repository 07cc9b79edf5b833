use Rattle.std.proofs.Common.{◌≡◌, ◌++◌, drop}
use Rattle.ec_base.specs.Tables.{keys}
use Rattle.ec_log.specs.OfChains.Slots.{live}
use Rattle.ec_log.specs.Chosen.{lost_in}
use Rattle.ec_log.proofs.choice.lost_of.Given as goal

abbrev pub invariant-slots : goal.invariant-slots
invariant-slots l = l.lost.items ++ keys (lost_in l.window l.batches (live (drop l.op-index l.slots))) ≡ keys (lost_in l.window l.batches (live l.slots))
