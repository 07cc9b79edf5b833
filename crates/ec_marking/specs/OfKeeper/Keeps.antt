-- What a commit makes of a store and of its disk.
use Rattle.std.specs.Prelude.{◌≡◌, ◌<◌, ◌≤◌, ℕ, Ok, Some}
use Rattle.ec_disk.specs.Disk.{View, Counts}
use Rattle.ec_disk.specs.Effects.{IsSynced, LeavesOnly, Called, Turned}
use Rattle.ec_durable.specs.Codes.{record_code}
use Rattle.ec_durable.specs.Durable.{step}
use Rattle.ec_durable.specs.declared.record.Record.{Record}
use Rattle.ec_journal.specs.Journal.{need_of}
use Rattle.ec_journal.specs.OfLayout.Selected.{free_now}
use Rattle.ec_stands.specs.Stands.{StandsFor}
use Rattle.ec_store.specs.Store.{IsHeld, StandsForEither, StopsHalfway, view_of}
use Rattle.ec_store.specs.declared.store.Store.{Store}
use Rattle.ec_marking.specs.declared.keeper.keeper.DiskKeeper.{DiskKeeper}

-- Whatever a crash since might have left stands for the state before the record, or for the stepped one.
abbrev pub LeavesRecord : Record → Store → View → View → Type 0
LeavesRecord r store before now = LeavesOnly before now (StandsForEither r (view_of store))

-- behind a record: the disk holds what the store has, whatever a crash leaves
pub record KeepsRecord (r : Record) (store stepped : Store) (before now : View) : Type 0 where
  pub held : IsHeld now stepped
  pub synced : IsSynced now
  pub leaves : LeavesRecord r store before now

-- a record that was committed
abbrev pub Kept : {D : Type 0} → Type 0 → (D → View) → (D → Counts) → DiskKeeper D → Record → DiskKeeper D → Type 0
Kept tells view counts old change new =
    (new.store.ghost_name ≡ old.store.ghost_name) × (new.disk.ghost_name ≡ old.disk.ghost_name)
    × (step change (view_of old.store.now) ≡ Ok (view_of new.store.now))
    × (tells → IsHeld (view old.disk.now) old.store.now → KeepsRecord change old.store.now new.store.now (view old.disk.now) (view new.disk.now))
    × (need_of (record_code.spell change) ≤ free_now old.store.now.selected → Called 4 (counts old.disk.now) (counts new.disk.now))
    × ((turns : ℕ) × Turned turns (counts old.disk.now).armed (counts new.disk.now).armed (Unit {0}) ⊥
    × (need_of (record_code.spell change) ≤ free_now old.store.now.selected → turns ≡ 4) × (free_now old.store.now.selected < need_of (record_code.spell change) → 9 ≤ turns))

-- one whose commit ended in a fault
abbrev pub Broke : {D : Type 0} → Type 0 → (D → View) → (D → Counts) → DiskKeeper D → Record → DiskKeeper D → Type 0
Broke tells view counts old change new =
    (new.store.ghost_name ≡ old.store.ghost_name) × (new.disk.ghost_name ≡ old.disk.ghost_name)
    × (tells → IsHeld (view old.disk.now) old.store.now → LeavesRecord change old.store.now (view old.disk.now) (view new.disk.now))
    × ((turns : ℕ) × Turned turns (counts old.disk.now).armed (counts new.disk.now).armed ⊥ ⊥ × (need_of (record_code.spell change) ≤ free_now old.store.now.selected → turns ≤ 4))
    × (tells → IsHeld (view old.disk.now) old.store.now → StandsFor (view new.disk.now).synced (view_of old.store.now))

-- one in which the disk stopped
abbrev pub Stops : {D : Type 0} → Type 0 → (D → View) → (D → Counts) → DiskKeeper D → Record → DiskKeeper D → Type 0
Stops tells view counts old change new =
    tells → IsHeld (view old.disk.now) old.store.now → (turn : ℕ) → (counts old.disk.now).armed ≡ Some turn
    → StopsHalfway (need_of (record_code.spell change)) (free_now old.store.now.selected) turn (view new.disk.now) change (view_of old.store.now)
