-- Which sessions have claimed.
use Rattle.std.specs.Prelude.{ℕ, Bool, true, not, ◌||◌, List, Option, None, Some}
use Rattle.std.specs.List.{list_all}
use Rattle.ec_volume.specs.Update.{member}
use Rattle.ec_sessions.specs.Slots.{Slots}
use Rattle.ec_sessions.specs.declared.slot.Slot.{Slot}

-- the slot's session is among these, or isn't open
abbrev pub is_claimed : List ℕ → Option Slot → Bool
is_claimed claimed None = true
is_claimed claimed (Some sl) = not sl.is_open || member sl.session claimed

abbrev pub all_claimed : List ℕ → Slots → Bool
all_claimed claimed slots = list_all (is_claimed claimed) slots
