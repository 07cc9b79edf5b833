-- The header of a mirror's disk: two slots, of which the one with the greater number counts.
use Rattle.std.specs.Prelude.{◌≡◌, ◌⊎◌, ◌≤◌, ◌+◌, ℕ, Bool, true, false, List, length, if◌then◌else◌, nat_eq, max}
use Rattle.std.specs.Int.{w64, from_be_bytes}
use Rattle.ec_disk.specs.Disk.{View, byte, part}
use Rattle.ec_half.specs.declared.slots.slot.Slot.{Slot}
use Rattle.ec_half.specs.declared.slots.slot.Slot.TheVariants as slot

-- the content stands behind so many bytes
abbrev pub header_bytes : ℕ
header_bytes = 4096

-- the byte of an open gate, an `O`; any other is shut
abbrev pub open_gate : ℕ
open_gate = 79

-- a gate and a number of eight bytes
abbrev pub slot_bytes : ℕ
slot_bytes = 9

abbrev pub place_of : Slot → ℕ
place_of slot.First = 512
place_of slot.Second = 1024

abbrev pub other : Slot → Slot
other slot.First = slot.Second
other slot.Second = slot.First

-- the number in a slot, whatever its gate
abbrev pub number_in : List ℕ → Slot → ℕ
number_in image s = from_be_bytes w64 (part image (place_of s + 1) 8)

abbrev pub gate_in : List ℕ → Slot → ℕ
gate_in image s = byte image (place_of s)

abbrev pub shown_in : List ℕ → Slot → ℕ
shown_in image s = if nat_eq (gate_in image s) open_gate then number_in image s else 0

-- an image's generation: the greatest number behind an open gate
abbrev pub generation : List ℕ → ℕ
generation image = max (shown_in image slot.First) (shown_in image slot.Second)

-- This slot holds an image's generation, and no open gate has a greater number.
pub record HoldsGeneration (image : List ℕ) (s : Slot) (number : ℕ) : Type 0 where
  pub long : header_bytes ≤ length image
  pub is_open : gate_in image s ≡ open_gate
  pub number_is : number_in image s ≡ number
  pub other_less : gate_in image (other s) ≡ open_gate → number_in image (other s) ≤ number

-- An image whose next generation goes to this slot: the other one holds the present generation, and this one's gate is shut, or its number is no greater.
pub record SlotIsReady (image : List ℕ) (spare : Slot) (is_open : Bool) (present : ℕ) : Type 0 where
  pub long : header_bytes ≤ length image
  pub present_open : gate_in image (other spare) ≡ open_gate
  pub present_is : number_in image (other spare) ≡ present
  pub spare_less : is_open ≡ true → number_in image spare ≤ present
  pub spare_shut : is_open ≡ false → gate_in image spare ≡ open_gate → ⊥

-- each image that a crash may leave
abbrev pub AreReady : View → Slot → Bool → ℕ → Type 0
AreReady now spare is_open present = (image : List ℕ) → now.may_leave image → SlotIsReady image spare is_open present

-- the present generation, or the next one
abbrev pub HoldsEither : Slot → ℕ → ℕ → List ℕ → Type 0
HoldsEither spare present next image = HoldsGeneration image (other spare) present ⊎ HoldsGeneration image spare next
