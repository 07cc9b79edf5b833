-- What a disk is read back as.
use Rattle.std.specs.Prelude.{◌≡◌, ◌⊎◌, ℕ, true, false, List, length}
use Rattle.std.specs.Int.{w32, to_be_bytes}
use Rattle.ec_disk.specs.Disk.{View, part}
use Rattle.ec_codes.specs.Spelling.{StandsAt}
use Rattle.ec_volume.specs.Update.{member}
use Rattle.ec_durable.specs.declared.state.Durable.{Durable}
use Rattle.ec_journal.specs.Records.{records}
use Rattle.ec_stands.specs.OfTable.Codes.{table_code, described}
use Rattle.ec_stands.specs.declared.table.table.Version.{Version}
use Rattle.ec_stands.specs.declared.table.table.Version.TheVariants.{One}
use Rattle.ec_stands.specs.Stands.{side_in, table_part, HasGoodHead, StepsTo, StandsFor, IsBadAt}
use Rattle.ec_stands.specs.Checkpoints.{AreSpelled, IsReadBack}
use Rattle.ec_store.specs.Replay.{Spares, IsUntouched}
use Rattle.ec_store.specs.declared.opening.Checkpoint.{Checkpoint}
use Rattle.ec_store.specs.declared.opening.Opened.{Opened}

-- The head, the table and the named slots of an image spell this checkpoint.
pub record IsRead (image : List ℕ) (v : Version) (places : List (ℕ × ℕ)) (base : Durable) : Type 0 where
  pub head : HasGoodHead image base.max_objects
  pub most_stands : part image 8 4 ≡ to_be_bytes w32 base.max_objects
  pub table_fits : (table_code base.max_objects).fits (v, described base places) ≡ true
  pub table_stands : StandsAt (table_part image) 0 ((table_code base.max_objects).spell (v, described base places))
  pub images : AreSpelled v image places base.volume

abbrev pub IsReadIn : List ℕ → Checkpoint → Type 0
IsReadIn image c = IsRead image c.version c.places.items c.state

-- An image holds a checkpoint, and records that lead from it to this state.
pub record IsOpened (image : List ℕ) (opened : Opened) : Type 0 where
  pub base : Durable
  pub bodies : List (List ℕ)
  pub read : IsReadBack image opened.version opened.places.items base bodies
  pub side : opened.side ≡ side_in image
  pub ends : opened.end ≡ length (records bodies)
  pub steps : StepsTo bodies base opened.state
  pub spares : Spares opened.ids.items base opened.state
  pub touches : (o : ℕ) → IsUntouched o bodies → member o opened.ids.items ≡ false

-- a disk of version 1, which an opening brings to version 2
abbrev pub IsOlder : List ℕ → Type 0
IsOlder image = (places : List (ℕ × ℕ)) × (base : Durable) × (bodies : List (List ℕ)) × IsReadBack image One places base bodies

-- a crash might have left this image, or it stands for the state that a read gave
abbrev pub WasLeftOrStands : View → List ℕ → Type 0
WasLeftOrStands now image = now.may_leave image ⊎ ((state : Durable) × StandsFor now.gives state × StandsFor image state)

-- an image is this one, or stands for the state that this one stands for
abbrev pub IsSameOrStands : List ℕ → List ℕ → Type 0
IsSameOrStands before image = (image ≡ before) ⊎ ((state : Durable) × StandsFor before state × StandsFor image state)

-- an image stands for no state, or for this one
abbrev pub IsBadOrStands : Durable → List ℕ → Type 0
IsBadOrStands state image = ((place : ℕ) × IsBadAt image place) ⊎ StandsFor image state

-- an image stands for one of these states
abbrev pub StandsForOne : (Durable → Type 0) → List ℕ → Type 0
StandsForOne Good image = (state : Durable) × Good state × StandsFor image state
