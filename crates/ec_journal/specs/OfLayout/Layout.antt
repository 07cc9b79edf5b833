-- What a disk is laid out for: the side that is picked, its table and records, and what the slots hold that the table names.
use Rattle.std.specs.Prelude.{◌≡◌, ◌≢◌, ◌⊎◌, ◌≤◌, ◌+◌, ℕ, List, [], ◌∷◌, length}
use Rattle.ec_disk.specs.Disk.{View, byte, part}
use Rattle.ec_journal.specs.Records.{HasBodies}
use Rattle.ec_journal.specs.declared.layout.side.Side.{Side}
use Rattle.ec_journal.specs.OfLayout.Places.{journal_at, table_at, slot_at, side_of}
use Rattle.ec_journal.specs.OfLayout.Sides.{other}

-- the 12 bytes in front of the select byte and the 3 behind it, the side, its table's bytes, the named slots with their bytes, its records' bodies
pub record Layout : Type 0 where
  pub front : List ℕ
  pub back : List ℕ
  pub side : Side
  pub table : List ℕ
  pub slots : List (ℕ × List ℕ)
  pub bodies : List (List ℕ)

-- the slots begin with these bytes
abbrev pub HasSlots : List ℕ → List (ℕ × List ℕ) → Type 0
HasSlots image [] = Unit {0}
HasSlots image (s ∷ slots) = (length s.1 ≤ 65600) × (slot_at s.0 + length s.1 ≤ length image) × (part image (slot_at s.0) (length s.1) ≡ s.1) × HasSlots image slots

-- A side has this table and these records.
pub record HasSide (image : List ℕ) (at : Side) (table : List ℕ) (bodies : List (List ℕ)) : Type 0 where
  pub small : length table ≤ 65536
  pub inside : table_at at + length table ≤ length image
  pub table_is : part image (table_at at) (length table) ≡ table
  pub journal : HasBodies image (journal_at at) 2097152 bodies

-- An image has this layout.
pub record Lies (image : List ℕ) (l : Layout) : Type 0 where
  pub front_is : part image 0 12 ≡ l.front
  pub side_is : side_of (byte image 12) ≡ l.side
  pub back_is : part image 13 3 ≡ l.back
  pub has_side : HasSide image l.side l.table l.bodies
  pub has_slots : HasSlots image l.slots

-- each image that a crash may leave has this layout
abbrev pub IsLaid : View → Layout → Type 0
IsLaid now l = (image : List ℕ) → now.may_leave image → Lies image l

-- a slot that isn't named
abbrev pub IsFree : ℕ → List (ℕ × List ℕ) → Type 0
IsFree k [] = Unit {0}
IsFree k (s ∷ slots) = (k ≢ s.0) × IsFree k slots

abbrev pub AreFree : List (ℕ × List ℕ) → List (ℕ × List ℕ) → Type 0
AreFree [] slots = Unit {0}
AreFree (p ∷ pieces) slots = IsFree p.0 slots × AreFree pieces slots

abbrev pub IsAmong : ℕ × List ℕ → List (ℕ × List ℕ) → Type 0
IsAmong s [] = ⊥
IsAmong s (t ∷ slots) = (s ≡ t) ⊎ IsAmong s slots

-- each of these slots is one of those or those
abbrev pub AreAmong : List (ℕ × List ℕ) → List (ℕ × List ℕ) → List (ℕ × List ℕ) → Type 0
AreAmong [] kept pieces = Unit {0}
AreAmong (s ∷ slots) kept pieces = (IsAmong s kept ⊎ IsAmong s pieces) × AreAmong slots kept pieces

-- What a checkpoint on this side makes of a layout: the other side is picked, with a table and no record. The table names slots that were
-- named before or are written now, and none is written that was named before.
pub record Follows (to : Side) (new_table : List ℕ) (pieces : List (ℕ × List ℕ)) (old new : Layout) : Type 0 where
  pub front_stays : new.front ≡ old.front
  pub back_stays : new.back ≡ old.back
  pub turns : old.side ≡ other to
  pub picked : new.side ≡ to
  pub has_table : new.table ≡ new_table
  pub empty : new.bodies ≡ []
  pub named : AreAmong new.slots old.slots pieces
  pub free : AreFree pieces old.slots
