-- What the machine sees of the code's world with leases.
use Rattle.std.specs.Prelude.{◌≡◌, ◌+◌, ℕ, None, Some}
use Rattle.ec_disk.specs.Disk.{View}
use Rattle.ec_lease.specs.declared.world.LeaseWorld.{LeaseWorld}
use Rattle.ec_lease_machine.specs.OfBook.Book.{with_book}
use Rattle.ec_lease_machine.specs.Leases.{LeaseMoving}
use Rattle.ec_lease_machine.specs.declared.world.LeaseEvent.{LeaseEvent}
use Rattle.ec_lease_machine.specs.declared.world.LeaseEvent.TheVariants as event
use Rattle.ec_lease_machine.specs.declared.world.LeaseFault.{LeaseFault}
use Rattle.ec_lease_machine.specs.declared.world.LeaseWorld.{LeaseWorld as State}
use Rattle.ec_world.specs.Worlds as worlds

abbrev pub leased : LeaseWorld → State
leased x = with_book x.book (worlds.view_of x.world)

-- the step under way: the world so far, and what it has shown
abbrev pub under_way : LeaseWorld → LeaseMoving
under_way x = record { world = leased x; shown = x.piece.items; fault = None }

-- and where it ended so
abbrev pub ended_with : LeaseFault → LeaseWorld → LeaseMoving
ended_with f x = record (under_way x) { fault = Some f }

-- between steps the running server stands on the store's state, and the disk, where it tells, holds what the store has
abbrev pub IsInStep : Type 0 → View → LeaseWorld → Type 0
IsInStep tells now x = worlds.IsInStep tells now x.world

-- the store and the server are as before
abbrev pub KeepsServer : LeaseWorld → LeaseWorld → Type 0
KeepsServer old new = worlds.KeepsServer old.world new.world

-- Clocks go on by a tick alone, and the most by which they differ stays.

abbrev pub ticks : LeaseEvent → ℕ
ticks (event.Tick n) = n
ticks _ = 0

pub record ClocksGoOn (by : ℕ) (old new : State) : Type 0 where
  pub now : new.now ≡ old.now + by
  pub most : new.most ≡ old.most
