-- What queued calls make of a step, behind what happens in it.
use Rattle.std.proofs.Common.{◌≡◌, ℕ, Result, Ok, Err, refl, ap, ◌∙◌, arith, inl, inr}
use Rattle.std.specs.Prelude.{IfErr, OnOk}
use Rattle.ec_disk.specs.Disk.{Counts, View}
use Rattle.ec_protocol.specs.World.{Fate, clerks}
use Rattle.ec_protocol.specs.declared.world.World.{World as State}
use Rattle.ec_protocol.specs.declared.world.WorldFault.TheVariants as world_fault
use Rattle.ec_lease_machine.specs.Leases.{LeaseMoving, begin_queued}
use Rattle.ec_lease_machine.specs.declared.world.LeaseFault.{LeaseFault}
use Rattle.ec_lease_machine.specs.declared.world.LeaseFault.TheVariants as fault
use Rattle.ec_lease_machine.specs.declared.world.LeaseWorld.{LeaseWorld as Leases}
use Rattle.ec_store.specs.Store as store
use Rattle.ec_world.specs.Laws.{in_step_keeps}
use Rattle.ec_lease.specs.Steps.{HappensNot, IsTurnedDown, LeaseFated, QueuesNot, RefusesLease}
use Rattle.ec_lease.specs.Worlds.{ended_with, under_way, leased, ClocksGoOn, IsInStep, KeepsServer}
use Rattle.ec_lease.specs.declared.world.LeaseWorld.{LeaseWorld}
use Rattle.ec_lease.proofs.Clocks.{clock_of, queued_stays}
use Rattle.ec_lease.proofs.Fated.{fated_on}
use Rattle.ec_lease.proofs.Rounds.{stay_ended}

-- those that may begin begin behind it
abbrev pub behind : (Fate → LeaseMoving) → Fate → LeaseMoving
behind steps fate = begin_queued clerks (steps fate)

pub all_begin : {A : Type 0} (r : Result A LeaseFault) (tells : Type 0) (w : State) (before after : Counts) (steps : Fate → LeaseMoving) (mid new : LeaseWorld) → LeaseFated tells w before after steps (under_way mid) → KeepsServer mid new → OnOk r (begin_queued clerks (under_way mid) ≡ under_way new)
    → OnOk r (LeaseFated tells w before after (behind steps) (under_way new))
all_begin (Ok a) tells w before after steps mid new fated same is = fated_on tells w before after steps (under_way mid) (under_way new) (begin_queued clerks) is (ap store.view_of same.store) fated
all_begin (Err f) tells w before after steps mid new fated same is = tt

later : {A : Type 0} (r : Result A LeaseFault) (by : ℕ) (x y z : Leases) → ClocksGoOn by x y → OnOk r (ClocksGoOn 0 y z) → OnOk r (ClocksGoOn by x z)
later (Ok a) by x y z one two = record { now = omega (arith, one.now, two.now); most = two.most ∙ one.most }
later (Err f) by x y z one two = tt

pub clock_behind : {A : Type 0} (r : Result A LeaseFault) (by : ℕ) (x : Leases) (mid new : LeaseWorld) → ClocksGoOn by x (leased mid) → OnOk r (begin_queued clerks (under_way mid) ≡ under_way new) → OnOk r (ClocksGoOn by x (leased new))
clock_behind r by x mid new one is = later r by x (leased mid) (leased new) one (clock_of r 0 (leased mid) (begin_queued clerks (under_way mid)) new is (queued_stays clerks (under_way mid)))

-- Why a step isn't taken.

refuses : (f : LeaseFault) (w : State) (steps : Fate → LeaseMoving) (new : LeaseWorld) → IsTurnedDown w steps (ended_with f new) → IsTurnedDown w (behind steps) (ended_with f new)
refuses f w steps new h = (ap (begin_queued clerks) h.0 ∙ stay_ended clerks (ended_with f new) f refl, h.1)

pub refused_first : (f : LeaseFault) (tells : Type 0) (w : State) (before after : Counts) (steps : Fate → LeaseMoving) (new : LeaseWorld) (P : Type 0) → HappensNot f w steps (ended_with f new) P → RefusesLease f tells w before after (behind steps) (ended_with f new) P
refused_first fault.NoMemory tells w before after steps new P h = tt
refused_first fault.NoSuchLease tells w before after steps new P h = (refuses fault.NoSuchLease w steps new h.0, h.1)
refused_first (fault.World (world_fault.Spent n)) tells w before after steps new P h = (inl (refuses (fault.World (world_fault.Spent n)) w steps new h.0), h.1)
refused_first (fault.World world_fault.NoSuchOp) tells w before after steps new P h = (refuses (fault.World world_fault.NoSuchOp) w steps new h.0, h.1)
refused_first (fault.World world_fault.NoSuchMsg) tells w before after steps new P h = (refuses (fault.World world_fault.NoSuchMsg) w steps new h.0, h.1)
refused_first (fault.World world_fault.DiskFailed) tells w before after steps new P h = tt
refused_first (fault.World world_fault.NoMemory) tells w before after steps new P h = absurd h
refused_first (fault.World (world_fault.BadDisk p)) tells w before after steps new P h = absurd h

refused_behind : (f : LeaseFault) (tells : Type 0) (w : State) (before after : Counts) (steps : Fate → LeaseMoving) (mid new : LeaseWorld) (P : Type 0) → LeaseFated tells w before after steps (under_way mid) → KeepsServer mid new → P → QueuesNot f (begin_queued clerks (under_way mid)) (ended_with f new)
    → RefusesLease f tells w before after (behind steps) (ended_with f new) P
refused_behind (fault.World (world_fault.Spent n)) tells w before after steps mid new P fated same p h =
    (inr (fated_on tells w before after steps (under_way mid) (ended_with (fault.World (world_fault.Spent n)) new) (begin_queued clerks) h (ap store.view_of same.store) fated), p)
refused_behind fault.NoMemory tells w before after steps mid new P fated same p h = tt
refused_behind fault.NoSuchLease tells w before after steps mid new P fated same p h = absurd h
refused_behind (fault.World world_fault.NoSuchOp) tells w before after steps mid new P fated same p h = absurd h
refused_behind (fault.World world_fault.NoSuchMsg) tells w before after steps mid new P fated same p h = absurd h
refused_behind (fault.World world_fault.DiskFailed) tells w before after steps mid new P fated same p h = absurd h
refused_behind (fault.World world_fault.NoMemory) tells w before after steps mid new P fated same p h = absurd h
refused_behind (fault.World (world_fault.BadDisk k)) tells w before after steps mid new P fated same p h = absurd h

pub not_all_begin : {A : Type 0} (r : Result A LeaseFault) (tells : Type 0) (now : View) (w : State) (before after : Counts) (steps : Fate → LeaseMoving) (mid new : LeaseWorld) → LeaseFated tells w before after steps (under_way mid) → KeepsServer mid new → IsInStep tells now mid
    → IfErr r (λ f. QueuesNot f (begin_queued clerks (under_way mid)) (ended_with f new)) → IfErr r (λ f. RefusesLease f tells w before after (behind steps) (ended_with f new) (IsInStep tells now new))
not_all_begin (Ok a) tells now w before after steps mid new fated same h is = tt
not_all_begin (Err f) tells now w before after steps mid new fated same h is = refused_behind f tells w before after steps mid new (IsInStep tells now new) fated same (in_step_keeps tells now mid.world new.world same h) is
