-- What holds of a world with leases between two steps: what was issued, noted and received, by the sessions on the disk.
use Rattle.std.specs.Prelude.{◌≡◌, ◌≤◌, ◌<◌, ◌+◌, ℕ, T, not, [], Contains, None, Some}
use Rattle.ec_base.specs.Tables.{at, at_or}
use Rattle.ec_sessions.specs.declared.slot.Slot.{Slot}
use Rattle.ec_durable.specs.Durable.{slot}
use Rattle.ec_protocol.specs.World.{Fate}
use Rattle.ec_protocol.specs.declared.world.World.{World}
use Rattle.ec_lawful.specs.AskedLaws.{StandsAsked}
use Rattle.ec_lawful.specs.Steps.{HoldsIn}
use Rattle.ec_lease_machine.specs.Leases.{moment_in, opened_leases, step}
use Rattle.ec_lease_machine.specs.declared.world.Lease.{Lease}
use Rattle.ec_lease_machine.specs.declared.world.LeaseEvent.{LeaseEvent}
use Rattle.ec_lease_machine.specs.declared.world.LeaseWorld.{LeaseWorld}

abbrev pub IsIssued : LeaseWorld → ℕ → Lease → Type 0
IsIssued x c a = Contains (at_or [] c x.issued) a

-- each moment issued to the clerk for the session is past, on each clock that may be
abbrev pub AllPast : LeaseWorld → ℕ → ℕ → Type 0
AllPast x c s = (a : Lease) → IsIssued x c a → a.session ≡ s → a.moment + x.most ≤ x.now

-- the server noted a moment for the session that is no less than any of them
abbrev pub AreNoted : LeaseWorld → ℕ → ℕ → Type 0
AreNoted x c s = (a : Lease) → IsIssued x c a → a.session ≡ s → (m : ℕ) × (moment_in s (at c x.noted) ≡ Some m) × (a.moment ≤ m)

pub record LeasesAgree (x : LeaseWorld) : Type 0 where
  -- each Lease is of a session that was opened before
  pub new : (c : ℕ) (a : Lease) → IsIssued x c a → a.session < x.world.durable.next_session
  -- a clerk's own was issued to it
  pub received : (c : ℕ) (a : Lease) → at c x.leases ≡ Some a → IsIssued x c a
  -- what was issued for a session that is open is noted
  pub noted : (c : ℕ) (sl : Slot) → slot x.world.durable c ≡ Some sl → T sl.is_open → AreNoted x c sl.session
  -- what was issued for one that ended is past
  pub past : (c : ℕ) (sl : Slot) → slot x.world.durable c ≡ Some sl → T (not sl.is_open) → AllPast x c sl.session

-- Nothing was issued yet at the opening, and so it is behind each step, whatever the disk does and whatever clocks show.
abbrev pub OpeningAgrees : Type 0
OpeningAgrees = (l e : ℕ) (w : World) → LeasesAgree (opened_leases l e w)

abbrev pub LeasesStay : Type 0
LeasesStay = (first : ℕ → ℕ) (fate : Fate) (e : LeaseEvent) (x : LeaseWorld) → HoldsIn (StandsAsked first) x.world → LeasesAgree x → (step fate e x).fault ≡ None → LeasesAgree (step fate e x).world
