-- What is noted for one session.
use Rattle.std.specs.Prelude.{ℕ, Option, None, Some}
use Rattle.ec_lease_machine.specs.Leases.{lease, note}
use Rattle.ec_lease_machine.specs.declared.world.LeaseWorld.{LeaseWorld}

-- the moment of a Lease that were issued now, for the session that is open
abbrev pub note_in : ℕ → Option ℕ → LeaseWorld → LeaseWorld
note_in c None x = x
note_in c (Some s) x = note c (lease s x) x
