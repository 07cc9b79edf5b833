-- What is noted beside a world.
use Rattle.std.specs.Prelude.{◌≤◌, ◌<◌, ℕ, List}
use Rattle.ec_base.specs.Tables.{Table}
use Rattle.ec_plain.specs.declared.call.Call.{Call}
use Rattle.ec_protocol.specs.declared.world.World.{World}
use Rattle.ec_lease_machine.specs.declared.world.Lease.{Lease}
use Rattle.ec_lease_machine.specs.declared.world.LeaseWorld.{LeaseWorld}
use Rattle.ec_lease_machine.specs.OfBook.Bounds.{last_tick, most_length}

-- a world with leases but its world
pub record Booked : Type 0 where
  pub length : ℕ
  pub most : ℕ
  pub clock : ℕ
  pub skews : Table ℕ
  pub issued : Table (List Lease)
  pub noted : Table Lease
  pub leases : Table Lease
  pub queued : Table (List (ℕ × Call))

-- the world with leases over this world
abbrev pub with_book : Booked → World → LeaseWorld
with_book b w =
    record {
      world = w;
      length = b.length;
      most = b.most;
      now = b.clock;
      skews = b.skews;
      issued = b.issued;
      noted = b.noted;
      leases = b.leases;
      queued = b.queued;
    }

-- Leases aren't longer than they may be, clocks differ by less, and the server's is within its range.
pub record IsWithin (l e t : ℕ) : Type 0 where
  pub length : l ≤ most_length
  pub most : e < l
  pub clock : t ≤ last_tick
