use Rattle.std.proofs.Common.{◌≡◌, drop}
use Rattle.ec_log.specs.OfChains.Held.{first_number}
use Rattle.ec_log.specs.OfChains.Slots.{live}
use Rattle.ec_log.proofs.chains.slots.first_held.Given as goal

abbrev pub invariant-each : goal.invariant-each
invariant-each l = first_number (live (drop l.op-index l.held)) ≡ first_number (live l.held)
