use Rattle.std.proofs.Common.{◌≡◌, ◌+◌, ◌-◌}
use Rattle.ec_sessions.specs.Slots.{run}
use Rattle.ec_protocol.specs.Server as machine
use Rattle.ec_admission.proofs.ids.add_ids.Given as goal

abbrev pub invariant-ids : goal.invariant-ids
invariant-ids l = machine.with_ids l.session l.number (run (l.from + l.place) (16 - l.place)) l.tokens ≡ machine.with_ids l.session l.number (run l.from 16) l.fn.tokens
