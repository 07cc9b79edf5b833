-- A checkpoint on an image, and images that read back.
use Rattle.std.specs.Prelude.{◌≡◌, ℕ, List, [], ◌∷◌, ◌++◌, true}
use Rattle.std.specs.Int.{w32, to_be_bytes}
use Rattle.ec_disk.specs.Disk.{part}
use Rattle.ec_journal.specs.Records.{HasBodies}
use Rattle.ec_volume.specs.declared.image.Image.{Image}
use Rattle.ec_codes.specs.Spelling.{StandsAt}
use Rattle.ec_durable.specs.declared.state.Durable.{Durable}
use Rattle.ec_durable.specs.WellFormed.{WellFormed}
use Rattle.ec_stands.specs.OfTable.Codes.{table_code, described}
use Rattle.ec_stands.specs.declared.table.table.Version.{Version}
use Rattle.ec_stands.specs.declared.table.table.Version.TheVariants.{Two}
use Rattle.ec_journal.specs.OfLayout.Places.{journal_bytes}
use Rattle.ec_journal.specs.OfLayout.Layout.{Layout}
use Rattle.ec_journal.specs.OfLayout.Head.{first_word, form}
use Rattle.ec_stands.specs.Stands.{side_in, journal_in, table_part, slot_part, slot_code, HasGoodHead}

-- The layout of a checkpoint.

-- each slot that is named holds the object's id and image, in this version
abbrev pub AreSlotsIn : Version → List (ℕ × List ℕ) → List (ℕ × ℕ) → List (ℕ × Image) → Type 0
AreSlotsIn v [] [] [] = Unit {0}
AreSlotsIn v (s ∷ slots) (p ∷ places) (e ∷ es) = (s ≡ (p.1, (slot_code v).spell e)) × (e.0 ≡ p.0) × ((slot_code v).fits e ≡ true) × AreSlotsIn v slots places es
AreSlotsIn v _ _ _ = ⊥

-- The checkpoint of this state, in this version: its head, its table, and its images in the slots that the table names.
pub record IsCheckpointIn (v : Version) (l : Layout) (base : Durable) (places : List (ℕ × ℕ)) : Type 0 where
  pub front_is : l.front ≡ first_word ++ to_be_bytes w32 base.max_objects
  pub back_is : l.back ≡ form
  pub table_is : l.table ≡ (table_code base.max_objects).spell (v, described base places)
  pub table_fits : (table_code base.max_objects).fits (v, described base places) ≡ true
  pub slots_are : AreSlotsIn v l.slots places base.volume
  pub formed : WellFormed base

-- In the version that is written.

abbrev pub AreSlots : List (ℕ × List ℕ) → List (ℕ × ℕ) → List (ℕ × Image) → Type 0
AreSlots slots places es = AreSlotsIn Two slots places es

abbrev pub IsCheckpoint : Layout → Durable → List (ℕ × ℕ) → Type 0
IsCheckpoint l base places = IsCheckpointIn Two l base places

-- What is read back.

-- the slot's bytes begin with the object's id and image
abbrev pub IsSpelled : Version → List ℕ → ℕ × ℕ → ℕ × Image → Type 0
IsSpelled v image p e = (e.0 ≡ p.0) × ((slot_code v).fits e ≡ true) × StandsAt (slot_part image p.1) 0 ((slot_code v).spell e)

abbrev pub AreSpelled : Version → List ℕ → List (ℕ × ℕ) → List (ℕ × Image) → Type 0
AreSpelled v image [] [] = Unit {0}
AreSpelled v image [] (e ∷ es) = ⊥
AreSpelled v image (p ∷ places) [] = ⊥
AreSpelled v image (p ∷ places) (e ∷ es) = IsSpelled v image p e × AreSpelled v image places es

-- the slots that a table names, with their bytes
abbrev pub slots_in : Version → List (ℕ × ℕ) → List (ℕ × Image) → List (ℕ × List ℕ)
slots_in v [] es = []
slots_in v (p ∷ places) [] = []
slots_in v (p ∷ places) (e ∷ es) = (p.1, (slot_code v).spell e) ∷ slots_in v places es

-- The table and the named slots of an image spell a well-formed state, and its journal has these records.
pub record IsReadBack (image : List ℕ) (v : Version) (places : List (ℕ × ℕ)) (base : Durable) (bodies : List (List ℕ)) : Type 0 where
  pub head : HasGoodHead image base.max_objects
  pub most_stands : part image 8 4 ≡ to_be_bytes w32 base.max_objects
  pub table_fits : (table_code base.max_objects).fits (v, described base places) ≡ true
  pub table_stands : StandsAt (table_part image) 0 ((table_code base.max_objects).spell (v, described base places))
  pub images : AreSpelled v image places base.volume
  pub formed : WellFormed base
  pub journal : HasBodies image (journal_in image) journal_bytes bodies

-- its layout
abbrev pub layout_in : List ℕ → Version → List (ℕ × ℕ) → Durable → List (List ℕ) → Layout
layout_in image v places base bodies = record {
  front = first_word ++ to_be_bytes w32 base.max_objects;
  back = form;
  side = side_in image;
  table = (table_code base.max_objects).spell (v, described base places);
  slots = slots_in v places base.volume;
  bodies = bodies;
}
