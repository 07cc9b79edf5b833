-- When a disk holds what a store has.
use Rattle.std.specs.Prelude.{◌≡◌, ◌⊎◌, ◌<◌, ◌≤◌, ◌+◌, ℕ, true, false, List, [], ◌∷◌, Ok, Option, Some}
use Rattle.ec_base.specs.Tables.{at}
use Rattle.ec_disk.specs.Calls.{Call}
use Rattle.ec_disk.specs.Disk.{View}
use Rattle.ec_disk.specs.declared.disk.DiskAnswer.TheVariants as said
use Rattle.ec_journal.specs.Ends.{EndsBy, TurnedUpTo}
use Rattle.ec_volume.specs.Image.{is_gone}
use Rattle.ec_volume.specs.Update.{member}
use Rattle.ec_volume.specs.Volume.{images}
use Rattle.ec_volume.specs.declared.image.Image.{Image}
use Rattle.ec_durable.specs.declared.state.Durable.{Durable}
use Rattle.ec_durable.specs.declared.record.Record.{Record}
use Rattle.ec_durable.specs.Durable.{step}
use Rattle.ec_durable.specs.WellFormed.{WellFormed}
use Rattle.ec_stands.specs.declared.table.table.Version.{Version}
use Rattle.ec_stands.specs.declared.table.table.Version.TheVariants.{Two}
use Rattle.ec_journal.specs.OfLayout.Layout.{Layout, IsFree, IsAmong}
use Rattle.ec_journal.specs.OfLayout.Selected.{IsOn}
use Rattle.ec_journal.specs.declared.layout.selected.Selected.{Selected}
use Rattle.ec_stands.specs.Stands.{slot_code, StepsTo, StandsFor}
use Rattle.ec_stands.specs.Checkpoints.{IsCheckpointIn}
use Rattle.ec_store.specs.Replay.{IsUntouched}
use Rattle.ec_store.specs.declared.store.Store.{Store}

-- No slot but the named ones has an image, and those that are kept have those that the objects have now.
pub record KeepsImages (slots : List (ℕ × List ℕ)) (named : List ℕ) (kept : List (ℕ × ℕ)) (volume : List (ℕ × Image)) : Type 0 where
  pub numbers : (k : ℕ) → member k named ≡ false → IsFree k slots
  pub stand : (o s : ℕ) → at o kept ≡ Some s → is_gone (images volume o) ≡ false → IsAmong (s, (slot_code Two).spell (o, images volume o)) slots × ((slot_code Two).fits (o, images volume o) ≡ true)

-- Whatever a crash leaves of a disk, it has the checkpoint of some state, in this version, and records that lead from it to this one.
pub record HoldsIn (v : Version) (now : View) (selected : Selected) (named : List ℕ) (kept : List (ℕ × ℕ)) (state : Durable) : Type 0 where
  pub layout : Layout
  pub base : Durable
  pub places : List (ℕ × ℕ)
  pub on : IsOn now selected layout
  pub checkpoint : IsCheckpointIn v layout base places
  pub steps : StepsTo layout.bodies base state
  pub formed : WellFormed state
  pub keeps : KeepsImages layout.slots named kept state.volume
  -- in the version that is written, each slot that the table names is kept whose object no record has as an operand
  pub rest : v ≡ Two → (o s : ℕ) → at o places ≡ Some s → IsUntouched o layout.bodies → at o kept ≡ Some s

abbrev pub StoreHolds : View → Selected → List ℕ → List (ℕ × ℕ) → Durable → Type 0
StoreHolds now selected named kept state = HoldsIn Two now selected named kept state

-- the disk holds what this store has
abbrev pub IsHeld : View → Store → Type 0
IsHeld now store = StoreHolds now store.selected store.named.items store.kept store.state

-- the state that a store shows
abbrev pub view_of : Store → Durable
view_of store = store.state

-- an image stands for the state before a record, or for the stepped one
abbrev pub StandsForEither : Record → Durable → List ℕ → Type 0
StandsForEither r d image = StandsFor image d ⊎ ((e : Durable) × (step r d ≡ Ok e) × StandsFor image e)

-- How many reads, writes and syncs of an armed disk a commit made: four where the journal has room, and else those of a checkpoint and
-- four more. Where it stopped, they go up to the one that stops.
pub record CommitTurns (need free : ℕ) (old new : Option ℕ) (Going Stopping : Type 0) : Type 0 where
  pub most : ℕ
  pub turned : TurnedUpTo most old new Going Stopping
  pub room : need ≤ free → most ≡ 4
  pub no_room : free < need → 9 ≤ most

-- How a commit that stopped in the turn with this number, of so many, left the disk of a state. Before the last two turns each image that a crash may leave stands
-- for that state; in these a read gives the stepped one.
pub record Halves (most turn : ℕ) (now : View) (r : Record) (d : Durable) : Type 0 where
  pub early : turn + 2 ≤ most → (image : List ℕ) → now.may_leave image → StandsFor image d
  pub late : most ≤ turn + 1 → (e : Durable) → step r d ≡ Ok e → StandsFor now.gives e

-- four turns where the journal has room, and else those of a checkpoint and four more
pub record StopsHalfway (need free turn : ℕ) (now : View) (r : Record) (d : Durable) : Type 0 where
  pub most : ℕ
  pub room : need ≤ free → most ≡ 4
  pub no_room : free < need → 9 ≤ most
  pub within : turn ≤ most
  pub halves : Halves most turn now r d

-- behind a want of memory no call was made, or the disk itself lacked it in the last one
abbrev pub LacksMemory : {D : Type 0} → (D → Call → D → Type 0) → D → D → Type 0
LacksMemory does old new = (new ≡ old) ⊎ ((most : ℕ) × EndsBy does said.NoMemory most old new)
