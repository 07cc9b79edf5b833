-- What can be marked and reserved in a slot, and which tables are slots.
use Rattle.std.specs.Prelude.{◌≡◌, ◌<◌, ◌≤◌, ◌^◌, ℕ, List, [], ◌∷◌, length, Option, None, Some, IsTrue}
use Rattle.std.specs.List.Sorted.{IsStrictlyIncreasing}
use Rattle.ec_sessions.specs.declared.slot.Slot.{Slot}
use Rattle.ec_sessions.specs.Windows.{mark_answer}
use Rattle.ec_sessions.specs.WindowMarks.{times}
use Rattle.ec_sessions.specs.declared.window.Marked.{Marked}
use Rattle.ec_sessions.specs.declared.window.Marked.TheVariants as answer
use Rattle.ec_sessions.specs.Slots.{Slots, slot_at, session_if_open, unspent_of, sixteen, all_unspent}

abbrev pub open_session : Option Slot → Option ℕ
open_session None = None
open_session (Some slot) = session_if_open slot

abbrev pub CanMark : Option Slot → Type 0
CanMark None = ⊥
CanMark (Some slot) = IsTrue slot.is_open × (slot.window.low < 2 ^ 62)

-- what a mark answers; a clerk without a session marks nothing
abbrev pub batch_answer : Option Slot → ℕ → Marked
batch_answer None n = answer.Already
batch_answer (Some slot) n = mark_answer slot.window n

abbrev pub CanReserve : Option Slot → Type 0
CanReserve None = ⊥
CanReserve (Some slot) = IsTrue slot.is_open × (slot.grants < 4294967295)

-- The slots of sixteen clerks: in each the unspent ids rise, and no id stands in two.
pub record AreSlots (slots : Slots) : Type 0 where
  pub sixteen : length slots ≡ 16
  pub rising : (clerk : ℕ) → IsStrictlyIncreasing (unspent_of (slot_at slots clerk))
  pub once : (id : ℕ) → times id (all_unspent slots) ≤ 1

-- ids are u32s from 1
abbrev pub AreIds : List ℕ → Type 0
AreIds [] = Unit {0}
AreIds (id ∷ ids) = (1 ≤ id) × (id < 2 ^ 32) × AreIds ids

-- what holds of the slots that sessions keep
pub record IsTable (table : Slots) : Type 0 where
  pub slots : AreSlots table
  pub ids : AreIds (all_unspent table)
