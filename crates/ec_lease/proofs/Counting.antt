-- The disk's counts behind the parts of a step.
use Rattle.std.proofs.Common.{◌≡◌, ◌⊎◌, ℕ, Result, Ok, Err, ⊎_elim, inl, inr, refl, sym, subst, ap, ◌∙◌}
use Rattle.std.specs.Prelude.{IfErr, IsErrOf}
use Rattle.ec_disk.specs.Disk.{Counts}
use Rattle.ec_disk.specs.Effects.{Counted}
use Rattle.ec_protocol.specs.declared.world.Event.{Event}
use Rattle.ec_protocol.specs.declared.world.Event.TheVariants as event
use Rattle.ec_protocol.specs.declared.world.WorldFault.{WorldFault}
use Rattle.ec_protocol.specs.declared.world.WorldFault.TheVariants as world_fault
use Rattle.ec_lease_machine.specs.Leases.{LeaseMoving}
use Rattle.ec_lease_machine.specs.declared.world.LeaseEvent.{LeaseEvent}
use Rattle.ec_lease_machine.specs.declared.world.LeaseEvent.TheVariants as lease_event
use Rattle.ec_lease_machine.specs.declared.world.LeaseFault.{LeaseFault}
use Rattle.ec_lease_machine.specs.declared.world.LeaseFault.TheVariants as fault
use Rattle.ec_world.specs.StepEnds.{CountsOf}
use Rattle.ec_world.proofs.Quiet.{uncounted}
use Rattle.ec_lease.specs.Steps.{LeaseCounts, QueuesNot, as_lease_fault}
use Rattle.ec_lease.specs.Worlds.{ended_with}
use Rattle.ec_lease.specs.declared.world.LeaseWorld.{LeaseWorld}
use Rattle.ec_lease.proofs.Comes.{Wants}

-- that the disk failed, or that memory was wanting, of the results of a step

abbrev pub Failed : {A : Type 0} → Result A LeaseFault → Type 0
Failed r = IsErrOf r (fault.World world_fault.DiskFailed)

abbrev pub Lacked : {A : Type 0} → Result A LeaseFault → Type 0
Lacked r = IsErrOf r fault.NoMemory

pub never_fails : {A : Type 0} (r : Result A LeaseFault) → Wants r → Failed r → ⊥
never_fails (Ok x) wants failed = cc
never_fails (Err f) wants failed = let same : f ≡ fault.World world_fault.DiskFailed = cc in cc

-- fewer failures

less : (F G : Type 0) (old new : Counts) → (G → F) → Counted old new F ⊥ → Counted old new G ⊥
less F G old new by h = record {
  faults_later = h.faults_later;
  stops_later = h.stops_later;
  failed = λ g. h.failed (by g);
  stopped = h.stopped;
  armed = h.armed;
  not_rearmed = h.not_rearmed;
  stays = h.stays;
  over = h.over;
}

pub counts_less : (F G M N : Type 0) (e : Event) (old new : Counts) → (G → F) → (M → N) → CountsOf e old new F M → CountsOf e old new G N
counts_less F G M N (event.Call c line cl) old new by wants h = less F G old new by h
counts_less F G M N (event.Push c n) old new by wants h = less F G old new by h
counts_less F G M N (event.Resend c) old new by wants h = less F G old new by h
counts_less F G M N (event.Cut c) old new by wants h = less F G old new by h
counts_less F G M N (event.Uncut c) old new by wants h = less F G old new by h
counts_less F G M N (event.Drop n) old new by wants h = less F G old new by h
counts_less F G M N (event.Repeat n) old new by wants h = less F G old new by h
counts_less F G M N (event.Deliver n) old new by wants h = less F G old new by h
counts_less F G M N (event.Crash c) old new by wants h = less F G old new by h
counts_less F G M N (event.End c) old new by wants h = less F G old new by h
counts_less F G M N event.Stop old new by wants h = less F G old new by h
counts_less F G M N (event.Arm n ch) old new by wants h = (⊎_elim (λ arms. inl arms) (λ x. inr (wants x.0, x.1)) h.0, λ g. h.1 (by g))
counts_less F G M N event.Restart old new by wants h = less F G old new by h

lease_less : (F G M N : Type 0) (e : LeaseEvent) (old new : Counts) → (G → F) → (M → N) → LeaseCounts e old new F M → LeaseCounts e old new G N
lease_less F G M N (lease_event.World e) old new by wants h = counts_less F G M N e old new by wants h
lease_less F G M N (lease_event.Tick n) old new by wants h = less F G old new by h
lease_less F G M N (lease_event.Skew c s) old new by wants h = less F G old new by h
lease_less F G M N (lease_event.Grant c) old new by wants h = less F G old new by h
lease_less F G M N (lease_event.Hand c n) old new by wants h = less F G old new by h
lease_less F G M N lease_event.Renew old new by wants h = less F G old new by h

-- a Lease that is handed
hands_only : {A : Type 0} (r : Result A LeaseFault) → IfErr r (λ f. (f ≡ fault.NoSuchLease) ⊎ (f ≡ fault.NoMemory)) → Failed r → ⊥
hands_only (Ok x) h failed = cc
hands_only (Err f) (inl is) failed = let same : f ≡ fault.World world_fault.DiskFailed = cc in cc
hands_only (Err f) (inr is) failed = let same : f ≡ fault.World world_fault.DiskFailed = cc in cc

pub hand_counts : {A : Type 0} (r : Result A LeaseFault) (e : LeaseEvent) (c n : ℕ) (k : Counts) (N : Type 0) → e ≡ lease_event.Hand c n → IfErr r (λ f. (f ≡ fault.NoSuchLease) ⊎ (f ≡ fault.NoMemory)) → LeaseCounts e k k (Failed r) N
hand_counts r e c n k N is h = subst (λ (e : LeaseEvent). LeaseCounts e k k (Failed r) N) (sym is) (uncounted k (Failed r) (hands_only r h))

-- behind a step of the world
pub counts_behind : {A B : Type 0} (done : Result A WorldFault) (r : Result B LeaseFault) (e : Event) (old new : Counts) → (Failed r → IsErrOf done world_fault.DiskFailed) → (IsErrOf done world_fault.NoMemory → Lacked r) → CountsOf e old new (IsErrOf done world_fault.DiskFailed) (IsErrOf done world_fault.NoMemory)
    → CountsOf e old new (Failed r) (Lacked r)
counts_behind done r e old new failed wants h = counts_less (IsErrOf done world_fault.DiskFailed) (Failed r) (IsErrOf done world_fault.NoMemory) (Lacked r) e old new failed wants h

failed_there : (why : WorldFault) (g : LeaseFault) → g ≡ as_lease_fault why → g ≡ fault.World world_fault.DiskFailed → why ≡ world_fault.DiskFailed
failed_there (world_fault.BadDisk p) g is failed = cc
failed_there world_fault.DiskFailed g is failed = refl
failed_there (world_fault.Spent n) g is failed = cc
failed_there world_fault.NoSuchOp g is failed = cc
failed_there world_fault.NoSuchMsg g is failed = cc
failed_there world_fault.NoMemory g is failed = cc

-- one that isn't taken
pub counts_refused : (A B : Type 0) (why : WorldFault) (g : LeaseFault) (e : Event) (old new : Counts) → g ≡ as_lease_fault why → CountsOf e old new (IsErrOf {T = A} (Err why) world_fault.DiskFailed) (IsErrOf {T = A} (Err why) world_fault.NoMemory)
    → CountsOf e old new (Failed {A = B} (Err g)) (Lacked {A = B} (Err g))
counts_refused A B why g e old new is h =
    counts_behind {A = A} {B = B} (Err why) (Err g) e old new
    (λ failed. let there : g ≡ fault.World world_fault.DiskFailed = cc in ap Err (failed_there why g is there))
    (λ wants. let there : why ≡ world_fault.NoMemory = cc in ap Err (is ∙ ap as_lease_fault there))
    h

-- behind queued calls
spends_only : (f : LeaseFault) (m : LeaseMoving) (y : LeaseWorld) → QueuesNot f m (ended_with f y) → f ≡ fault.World world_fault.DiskFailed → ⊥
spends_only (fault.World (world_fault.Spent n)) m y h failed = cc
spends_only fault.NoMemory m y h failed = cc
spends_only fault.NoSuchLease m y h failed = cc
spends_only (fault.World world_fault.NoSuchOp) m y h failed = absurd h
spends_only (fault.World world_fault.NoSuchMsg) m y h failed = absurd h
spends_only (fault.World world_fault.DiskFailed) m y h failed = absurd h
spends_only (fault.World world_fault.NoMemory) m y h failed = absurd h
spends_only (fault.World (world_fault.BadDisk p)) m y h failed = absurd h

queue_fails : {A : Type 0} (r : Result A LeaseFault) (m : LeaseMoving) (y : LeaseWorld) → IfErr r (λ f. QueuesNot f m (ended_with f y)) → Failed r → ⊥
queue_fails (Ok a) m y h failed = cc
queue_fails (Err f) m y h failed = spends_only f m y h (let same : f ≡ fault.World world_fault.DiskFailed = cc in same)

pub counts_queued : {A B : Type 0} (done : Result A LeaseFault) (x : A) (r : Result B LeaseFault) (e : LeaseEvent) (old new : Counts) (m : LeaseMoving) (y : LeaseWorld) → done ≡ Ok x → IfErr r (λ f. QueuesNot f m (ended_with f y)) → LeaseCounts e old new (Failed done) (Lacked done) → LeaseCounts e old new (Failed r) (Lacked r)
counts_queued done x r e old new m y is h counts = lease_less (Failed done) (Failed r) (Lacked done) (Lacked r) e old new (λ failed. absurd (queue_fails r m y h failed)) (λ wants. absurd cc) counts

-- a fault that is handed on
pub counts_handed : {A B : Type 0} (done : Result A LeaseFault) (r : Result B LeaseFault) (f : LeaseFault) (e : LeaseEvent) (old new : Counts) → done ≡ Err f → r ≡ Err f → LeaseCounts e old new (Failed done) (Lacked done) → LeaseCounts e old new (Failed r) (Lacked r)
counts_handed done r f e old new first on counts =
    lease_less (Failed done) (Failed r) (Lacked done) (Lacked r) e old new
    (λ failed. let there : f ≡ fault.World world_fault.DiskFailed = cc in first ∙ ap Err there)
    (λ wants. let there : f ≡ fault.NoMemory = cc in on ∙ ap Err there)
    counts

-- a step that was taken
ok_fails : {B E : Type 0} (y : B) (f : E) → Ok y ≡ Err f → ⊥
ok_fails y f is = cc

pub counts_ok : {A B : Type 0} (done : Result A LeaseFault) (x : A) (y : B) (e : LeaseEvent) (old new : Counts) → done ≡ Ok x → LeaseCounts e old new (Failed done) (Lacked done) → LeaseCounts e old new (Failed (Ok y)) (Lacked (Ok y))
counts_ok done x y e old new is counts = lease_less (Failed done) (Failed (Ok y)) (Lacked done) (Lacked (Ok y)) e old new (λ failed. absurd (ok_fails y (fault.World world_fault.DiskFailed) failed)) (λ wants. absurd (ok_fails x fault.NoMemory (sym is ∙ wants))) counts
