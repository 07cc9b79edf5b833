-- What the first bytes of a disk say: its generation, or why it's no half of a mirror.
use Rattle.std.specs.Prelude.{◌≡◌, ◌⊎◌, ◌<◌, ◌≤◌, ◌+◌, ◌^◌, ℕ, true, false, List, length, Option, Some, None, codes, nat_le, if◌then◌else◌}
use Rattle.std.specs.Int.{w64, from_be_bytes}
use Rattle.ec_disk.specs.Disk.{View, byte, part}
use Rattle.ec_half.specs.declared.slots.slot.Slot.{Slot}
use Rattle.ec_half.specs.declared.slots.slot.Slot.TheVariants as slot
use Rattle.ec_half.specs.OfSlots.Slots.{gate_in, number_in, open_gate, other, generation, header_bytes, AreReady}
use Rattle.ec_half.specs.declared.header.Found.{Found}
use Rattle.ec_half.specs.declared.header.Found.TheVariants as found
use Rattle.ec_half.specs.declared.header.Generation.{Generation}

abbrev pub word : List ℕ
word = codes "ECHOMIR1"

abbrev pub most_generation : ℕ
most_generation = 2 ^ 62

-- the number behind the gate at this place, where it's open
pub record ShowsHeader (image : List ℕ) (at : ℕ) (number : Option ℕ) : Type 0 where
  pub shut : number ≡ None → byte image at ≡ open_gate → ⊥
  pub is_open : (n : ℕ) → number ≡ Some n → byte image at ≡ open_gate
  pub number_is : (n : ℕ) → number ≡ Some n → from_be_bytes w64 (part image (at + 1) 8) ≡ n

abbrev pub of_slot : Option ℕ → Option ℕ → Slot → Option ℕ
of_slot first second slot.First = first
of_slot first second slot.Second = second

-- The greatest number behind an open gate, the first one in a tie.
pub record IsNewest (first second : Option ℕ) (g : Generation) : Type 0 where
  pub there : of_slot first second g.slot ≡ Some g.number
  pub other_less : g.is_open ≡ true → (n : ℕ) × (of_slot first second (other g.slot) ≡ Some n) × (n ≤ g.number)
  pub other_shut : g.is_open ≡ false → of_slot first second (other g.slot) ≡ None

-- an image's generation
pub record IsFound (image : List ℕ) (g : Generation) : Type 0 where
  pub word_is : part image 0 8 ≡ word
  pub is_open : gate_in image g.slot ≡ open_gate
  pub number_is : number_in image g.slot ≡ g.number
  pub other_less : g.is_open ≡ true → number_in image (other g.slot) ≤ g.number
  pub other_shut : g.is_open ≡ false → gate_in image (other g.slot) ≡ open_gate → ⊥
  pub small : g.number ≤ most_generation

-- it has an open gate with this number, and none with a greater one
pub record HasGeneration (image : List ℕ) (number : ℕ) : Type 0 where
  pub holder : Slot
  pub is_open : gate_in image holder ≡ open_gate
  pub number_is : number_in image holder ≡ number
  pub other_less : gate_in image (other holder) ≡ open_gate → number_in image (other holder) ≤ number

-- The place that shows that an image is no half of a mirror.
pub data IsBad (image : List ℕ) (place : ℕ) : Type 0 where
  NoWord : place ≡ 0 → (part image 0 8 ≡ word → ⊥) → IsBad image place
  NoGate : place ≡ 512 → part image 0 8 ≡ word → (gate_in image slot.First ≡ open_gate → ⊥) → (gate_in image slot.Second ≡ open_gate → ⊥) → IsBad image place
  TooGreat : place ≡ 1024 → part image 0 8 ≡ word → (number : ℕ) → HasGeneration image number → most_generation < number → IsBad image place

-- a disk with more than a header, which shows there that it's no half of a mirror
pub record IsNoHalf (image : List ℕ) (place : ℕ) : Type 0 where
  pub long : header_bytes < length image
  pub bad : IsBad image place

-- a disk that is empty, or has a generation
abbrev pub MayBeHalf : List ℕ → Type 0
MayBeHalf image = (length image ≤ header_bytes) ⊎ ((g : Generation) × IsFound image g)

-- what a disk is found to be, by what a read gives
abbrev pub IsFoundOf : Found → List ℕ → Type 0
IsFoundOf found.Empty image = length image ≤ header_bytes
IsFoundOf (found.Half g) image = (header_bytes < length image) × IsFound image g

-- a disk that is no longer than a header begins with generation 1
abbrev pub number_of : List ℕ → ℕ
number_of image = if nat_le (length image) header_bytes then 1 else generation image

-- Each image that a crash may leave has this generation, in its slot, and is ready for the next one.
abbrev pub AllHave : View → Generation → Type 0
AllHave now g = AreReady now (other g.slot) g.is_open g.number

-- the next generation stands in the other slot
abbrev pub next_of : Generation → ℕ → Generation
next_of g number = record { number = number; slot = other g.slot; is_open = true }
