-- A clerk's queued calls begin one after another.
use Rattle.std.specs.Prelude.{ℕ, [], drop}
use Rattle.ec_base.specs.Tables.{at_or}
use Rattle.ec_lease_machine.specs.Leases.{LeaseMoving, begin_each}
use Rattle.ec_lease.specs.Worlds.{under_way}
use Rattle.ec_lease.specs.declared.world.LeaseWorld.{LeaseWorld}

-- those behind so many
abbrev pub begin_from : ℕ → ℕ → LeaseWorld → LeaseMoving
begin_from c n x = begin_each c (drop n (at_or [] c x.book.queued)) (under_way x)
