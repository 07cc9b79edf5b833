-- Which clerk's a session is.
use Rattle.std.specs.Prelude.{◌≡◌, ◌==◌, ℕ, Bool, true, false, Option, None, Some}
use Rattle.ec_sessions.specs.Slots.{Slots, slot_at}
use Rattle.ec_sessions.specs.declared.slot.Slot.{Slot}
use Rattle.ec_durable.specs.Durable.{is_session}

-- the session is open in a clerk's slot
abbrev pub IsOpenIn : Slots → ℕ → Type 0
IsOpenIn slots s = (c : ℕ) × (is_session s (slot_at slots c) ≡ true)

-- whether it's the slot's last one
abbrev pub is_last : ℕ → Option Slot → Bool
is_last ss None = false
is_last ss (Some sl) = sl.session == ss
