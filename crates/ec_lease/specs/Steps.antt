-- What a step of a world with leases is: one of the machine's, by what the disk did in it.
use Rattle.std.specs.Prelude.{◌≡◌, ◌≤◌, ◌+◌, ◌*◌, ◌^◌, ◌⊎◌, ℕ, Option, Result, ⊤, IfErr, OnOk}
use Rattle.ec_disk.specs.Disk.{Counts, View}
use Rattle.ec_disk.specs.Effects.{Counted}
use Rattle.ec_disk.specs.declared.disk.Choice.{Choice}
use Rattle.ec_protocol.specs.World.{Fate, runs, stops_without, stops_with}
use Rattle.ec_protocol.specs.declared.world.WorldFault.{WorldFault}
use Rattle.ec_protocol.specs.declared.world.WorldFault.TheVariants as world_fault
use Rattle.ec_protocol.specs.declared.world.World.{World}
use Rattle.ec_world.specs.StepEnds.{CountsOf, FateOf, IsTold, behind_arm}
use Rattle.ec_world.specs.Steps.{InTurn, MayLack, MayLeave}
use Rattle.ec_lease_machine.specs.Leases.{LeaseMoving}
use Rattle.ec_lease_machine.specs.declared.world.LeaseEvent.{LeaseEvent}
use Rattle.ec_lease_machine.specs.declared.world.LeaseEvent.TheVariants as event
use Rattle.ec_lease_machine.specs.declared.world.LeaseFault.{LeaseFault}
use Rattle.ec_lease_machine.specs.declared.world.LeaseFault.TheVariants as fault
use Rattle.ec_lease_machine.specs.declared.world.LeaseWorld.{LeaseWorld as State}
use Rattle.ec_lease.specs.Worlds.{ended_with, under_way, leased, ClocksGoOn, IsInStep}
use Rattle.ec_lease.specs.declared.world.LeaseWorld.{LeaseWorld}

-- so much a tick may be at most
abbrev pub most_tick : ℕ
most_tick = 1000000

-- What is asked of an event: a tick leaves the clock within its range, and no clock differs by more than it may.
abbrev pub MayStep : State → LeaseEvent → Type 0
MayStep x (event.Tick n) = (1 ≤ n) × (n ≤ most_tick) × (x.now + n ≤ 2 ^ 62)
MayStep x (event.Skew c s) = s ≤ 2 * x.most
MayStep x _ = ⊤

-- how the disk's counts are where an event goes on: one that arms it has done so
abbrev pub behind_lease_arm : LeaseEvent → Counts → Counts
behind_lease_arm (event.World e) c = behind_arm e c
behind_lease_arm _ c = c

-- and behind an event: so are a world's
abbrev pub LeaseCounts : LeaseEvent → Counts → Counts → Type 0 → Type 0 → Type 0
LeaseCounts (event.World e) old new failed wants = CountsOf e old new failed wants
LeaseCounts _ old new failed wants = Counted old new failed ⊥

-- A stop leaves its record, or takes it back, only in turns in which the choice of the world lets it.
abbrev pub MayStop : Fate → Choice → Option ℕ → Type 0
MayStop runs choice armed = ⊤
MayStop stops_without choice armed = InTurn armed (MayLack choice)
MayStop stops_with choice armed = InTurn armed (MayLeave choice)

-- The disk and the choice of the world allow this fate of a step from this world, behind which the durable state is that of the other one.
pub record IsFate (fate : Fate) (tells : Type 0) (old new : World) (before behind : Counts) : Type 0 where
  pub of_disk : FateOf fate old.durable new.durable before behind
  pub may_stop : tells → MayStop fate old.choice before.armed

-- The step is the machine's by one of its fates.
abbrev pub LeaseFated : Type 0 → World → Counts → Counts → (Fate → LeaseMoving) → LeaseMoving → Type 0
LeaseFated tells w old new steps m = (fate : Fate) × IsFate fate tells w m.world.world old new × (IsTold fate tells → steps fate ≡ m)

-- a fault of a world, as one with leases tells it
abbrev pub as_lease_fault : WorldFault → LeaseFault
as_lease_fault world_fault.NoMemory = fault.NoMemory
as_lease_fault f = fault.World f

-- Why a step isn't taken.

-- The event is refused, and the world is as it was.
abbrev pub IsTurnedDown : World → (Fate → LeaseMoving) → LeaseMoving → Type 0
IsTurnedDown old steps new = (steps runs ≡ new) × (new.world.world ≡ old)

-- Why nothing happens. After a failed disk and for want of memory the world answers want of memory alone.
abbrev pub HappensNot : LeaseFault → World → (Fate → LeaseMoving) → LeaseMoving → Type 0 → Type 0
HappensNot fault.NoMemory old steps new in_step = ⊤
HappensNot (fault.World world_fault.DiskFailed) old steps new in_step = ⊤
HappensNot (fault.World world_fault.NoMemory) old steps new in_step = ⊥
HappensNot (fault.World (world_fault.BadDisk place)) old steps new in_step = ⊥
HappensNot _ old steps new in_step = IsTurnedDown old steps new × in_step

-- why not all queued calls begin that may
abbrev pub QueuesNot : LeaseFault → LeaseMoving → LeaseMoving → Type 0
QueuesNot (fault.World (world_fault.Spent n)) m new = m ≡ new
QueuesNot fault.NoMemory m new = ⊤
QueuesNot _ m new = ⊥

-- So an event is refused; or a queued call would spend a counter, and what happened before it stands.
abbrev pub RefusesLease : LeaseFault → Type 0 → World → Counts → Counts → (Fate → LeaseMoving) → LeaseMoving → Type 0 → Type 0
RefusesLease (fault.World (world_fault.Spent n)) tells old before behind steps new in_step = (IsTurnedDown old steps new ⊎ LeaseFated tells old before behind steps new) × in_step
RefusesLease f tells old before behind steps new in_step = HappensNot f old steps new in_step

-- What comes of what happens in a step: it's the machine's by one of its fates, and clocks go on by so much; or it isn't taken.
pub record Comes {A : Type 0} (result : Result A LeaseFault) (tells : Type 0) (now : View) (before behind : Counts) (by : ℕ) (steps : Fate → LeaseMoving) (old new : LeaseWorld) : Type 0 where
  pub ok : OnOk result (LeaseFated tells (leased old).world before behind steps (under_way new))
  pub clock : OnOk result (ClocksGoOn by (leased old) (leased new))
  pub in_step : OnOk result (IsInStep tells now new)
  pub err : IfErr result (λ f. HappensNot f (leased old).world steps (ended_with f new) (IsInStep tells now new))
