use Rattle.std.proofs.Common.{◌≡◌, ◌<◌, ℕ, false, drop}
use Rattle.ec_protocol.specs.Server as machine
use Rattle.ec_sessions.specs.Slots.{slot_at}
use Rattle.ec_admission.specs.Clerks.{is_last}
use Rattle.ec_admission.proofs.clerks.clerk_in.Given as goal

abbrev pub invariant-clerks : goal.invariant-clerks
invariant-clerks l =
    (machine.clerk_from l.number l.session (drop l.number l.sessions) ≡ machine.clerk_from 0 l.session l.sessions)
    × ((k : ℕ) → k < l.number → is_last l.session (slot_at l.sessions k) ≡ false)
