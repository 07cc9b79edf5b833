-- The last session of each of sixteen clerks.
use Rattle.std.specs.Prelude.{◌==◌, ◌+◌, ℕ, zero, suc, Bool, true, false, ◌&&◌, if◌then◌else◌, nat_lt, List, [], ◌∷◌, ◌++◌, length, Option, None, Some, slice_index_or, slice_set}
use Rattle.std.specs.List.{list_any}
use Rattle.ec_base.specs.Ages.{is_older}
use Rattle.ec_base.specs.declared.ids.Age.{Age}
use Rattle.ec_sessions.specs.declared.slot.Slot.{Slot}
use Rattle.ec_sessions.specs.declared.slot.Greeting.{Greeting}
use Rattle.ec_sessions.specs.declared.slot.Greeting.TheVariants.{Greater, Same, Ended, OldBoot}
use Rattle.ec_sessions.specs.Windows.{new_window, after_mark}

-- by clerk number: None for a clerk that never had a session
abbrev pub Slots : Type 0
Slots = List (Option Slot)

abbrev pub slot_at : Slots → ℕ → Option Slot
slot_at slots clerk = slice_index_or slots clerk None

-- one clerk's slot changes, and the others stay
abbrev pub with_slot : ℕ → Option Slot → Slots → Slots
with_slot clerk slot slots = slice_set slots clerk slot

-- What a slot tells.

abbrev pub is_open : Option Slot → Bool
is_open None = false
is_open (Some slot) = slot.is_open

abbrev pub session_if_open : Slot → Option ℕ
session_if_open slot = if slot.is_open then Some slot.session else None

-- an age above the greatest one, or a clerk that never had a session
abbrev pub is_greater : Option Slot → Age → Bool
is_greater None age = true
is_greater (Some slot) age = is_older slot.age age

abbrev pub greeting : Option Slot → Age → Greeting
greeting None age = Greater None
greeting (Some slot) age =
    if is_older slot.age age then Greater (session_if_open slot)
    else (if is_older age slot.age then OldBoot slot.age
    else (if slot.is_open then Same slot.session else Ended slot.session slot.window))

abbrev pub unspent_of : Option Slot → List ℕ
unspent_of None = []
unspent_of (Some slot) = slot.unspent

abbrev pub is_in : ℕ → List ℕ → Bool
is_in id ids = list_any (λ other. other == id) ids

abbrev pub is_reserved : Option Slot → ℕ → Bool
is_reserved None id = false
is_reserved (Some slot) id = slot.is_open && is_in id slot.unspent

-- What calls make of a slot.

abbrev pub new_slot : Age → ℕ → Slot
new_slot age session = record { age = age; session = session; is_open = true; window = new_window; grants = 0; last_first = None; unspent = [] }

abbrev pub ended : Option Slot → Option Slot
ended None = None
ended (Some slot) = Some (if slot.is_open then record slot { is_open = false; unspent = [] } else slot)

abbrev pub run : ℕ → ℕ → List ℕ
run id zero = []
run id (suc k) = id ∷ run (id + 1) k

unfoldable pub sixteen : ℕ → List ℕ
sixteen first = run first 16

-- the sixteen ids from first, at their place among rising ids
abbrev pub with_ids : ℕ → List ℕ → List ℕ
with_ids first [] = sixteen first
with_ids first (id ∷ ids) = if nat_lt id first then id ∷ with_ids first ids else sixteen first ++ id ∷ ids

abbrev pub granted : ℕ → Option Slot → Option Slot
granted first None = None
granted first (Some slot) = Some (record slot { grants = slot.grants + 1; last_first = Some first; unspent = with_ids first slot.unspent })

-- the ids but this one, which stands at most once among rising ids
abbrev pub without : ℕ → List ℕ → List ℕ
without id [] = []
without id (other ∷ ids) = if other == id then ids else other ∷ without id ids

abbrev pub spent : ℕ → Option Slot → Option Slot
spent id None = None
spent id (Some slot) = Some (if slot.is_open then record slot { unspent = without id slot.unspent } else slot)

abbrev pub batch_marked : ℕ → Option Slot → Option Slot
batch_marked n None = None
batch_marked n (Some slot) = Some (record slot { window = after_mark slot.window n })

-- All slots.

abbrev pub all_unspent : Slots → List ℕ
all_unspent [] = []
all_unspent (slot ∷ slots) = unspent_of slot ++ all_unspent slots

abbrev pub open_count : Option Slot → ℕ
open_count None = 0
open_count (Some slot) = if slot.is_open then length slot.unspent else 0

-- the unspent ids of all open sessions
abbrev pub reserved : Slots → ℕ
reserved [] = 0
reserved (slot ∷ slots) = open_count slot + reserved slots
