-- What the disk did in the steps of a run, by its stops.
use Rattle.std.proofs.Common.{◌≡◌, ◌⊎◌, ◌≤◌, ◌+◌, ◌∙◌, ℕ, List, [], ◌∷◌, ◌++◌, Some, None, Result, Ok, Err, refl, ap, subst, sym, inl, inr, arith}
use Rattle.std.specs.Prelude.{IfErr, OnOk}
use Rattle.ec_base.proofs.OutsideLemmas.{rose_later}
use Rattle.ec_disk.specs.Disk.{Counts}
use Rattle.ec_disk.specs.Effects.{Counted}
use Rattle.ec_durable.specs.declared.state.Durable.{Durable}
use Rattle.ec_protocol.specs.World.{Fate, runs, stops_without, stops_with}
use Rattle.ec_protocol.specs.Drill.{Fates}
use Rattle.ec_protocol.specs.declared.world.Event.{Event}
use Rattle.ec_protocol.specs.declared.world.Event.TheVariants as of_world
use Rattle.ec_protocol.specs.declared.world.World.{World}
use Rattle.ec_protocol.specs.declared.world.WorldFault.TheVariants as world_fault
use Rattle.ec_world.proofs.Arms.{rose-later}
use Rattle.ec_world.specs.StepEnds.{CountsOf, FateOf, IsTold}
use Rattle.ec_lease_machine.specs.Leases.{LeaseMoving}
use Rattle.ec_lease_machine.specs.declared.world.LeaseEvent.{LeaseEvent}
use Rattle.ec_lease_machine.specs.declared.world.LeaseEvent.TheVariants as event
use Rattle.ec_lease_machine.specs.declared.world.LeaseFault.{LeaseFault}
use Rattle.ec_lease_machine.specs.declared.world.LeaseFault.TheVariants as fault
use Rattle.ec_lease_machine.specs.declared.world.LeaseShown.{LeaseShown}
use Rattle.ec_lease_machine.specs.declared.world.LeaseWorld.{LeaseWorld}
use Rattle.ec_lease.specs.Steps.{LeaseCounts, LeaseFated, MayStep, RefusesLease, behind_lease_arm}
use Rattle.ec_lease.specs.Worlds.{ClocksGoOn, ticks}
use Rattle.ec_lease.specs.OfDrill.Drill.{AllRun, EachRuns, IsClear}
use Rattle.ec_lease.specs.OfDrill.Steps.{Advances, AreLater, AreRun, EachRan, IsAsMachine, IsSeen, RanUnless, come, fault_in}

pub clear_first : (tells : Type 0) (a b c : ℕ) → b ≤ c → IsClear tells a c → IsClear tells a b
clear_first tells a b c le (inl told) = inl told
clear_first tells a b c le (inr still) = inr (λ r. still (rose-later a b c r le))

pub clear_later : (tells : Type 0) (a b c : ℕ) → a ≤ b → IsClear tells a c → IsClear tells b c
clear_later tells a b c le (inl told) = inl told
clear_later tells a b c le (inr still) = inr (λ r. still (rose_later a b c le r))

-- One step.

ran_of : (f : Fate) (d e : Durable) (old new : Counts) → FateOf f d e old new → RanUnless f old.stops new.stops
ran_of runs d e old new h = inl refl
ran_of stops_without d e old new h = inr h.stops
ran_of stops_with d e old new h = inr h.stops

told_if_clear : (tells : Type 0) (f : Fate) (d e : Durable) (old new : Counts) → FateOf f d e old new → IsClear tells old.stops new.stops → IsTold f tells
told_if_clear tells runs d e old new h clear = tt
told_if_clear tells stops_without d e old new h (inl told) = told
told_if_clear tells stops_without d e old new h (inr still) = absurd (still h.stops)
told_if_clear tells stops_with d e old new h (inl told) = told
told_if_clear tells stops_with d e old new h (inr still) = absurd (still h.stops)

arm_stops : (e : LeaseEvent) (c : Counts) → (behind_lease_arm e c).stops ≡ c.stops
arm_stops (event.World e) c = refl
arm_stops (event.Tick n) c = refl
arm_stops (event.Skew d s) c = refl
arm_stops (event.Grant d) c = refl
arm_stops (event.Hand d n) c = refl
arm_stops event.Renew c = refl

-- a step by its fate, of which it's known what the disk did where that is clear
abbrev pub Stepped : Type 0 → ℕ → ℕ → (Fate → LeaseMoving) → LeaseMoving → Type 0
Stepped tells before later steps m = (fate : Fate) × RanUnless fate before later × (IsClear tells before later → steps fate ≡ m)

fated_stepped : (tells : Type 0) (w : World) (old new : Counts) (steps : Fate → LeaseMoving) (m : LeaseMoving) → LeaseFated tells w old new steps m → Stepped tells old.stops new.stops steps m
fated_stepped tells w old new steps m (fate, is, by) = (
  fate,
  ran_of fate w.durable m.world.world.durable old new is.of_disk,
  λ clear. by (told_if_clear tells fate w.durable m.world.world.durable old new is.of_disk clear),
)

pub stepped_by : (tells : Type 0) (w : World) (e : LeaseEvent) (old new : Counts) (steps : Fate → LeaseMoving) (m : LeaseMoving) → LeaseFated tells w (behind_lease_arm e old) new steps m → Stepped tells old.stops new.stops steps m
stepped_by tells w e old new steps m h = subst (λ (n : ℕ). Stepped tells n new.stops steps m) (arm_stops e old) (fated_stepped tells w (behind_lease_arm e old) new steps m h)

-- one that the machine doesn't take either, or not whole
pub refused_by : (tells : Type 0) (w : World) (e : LeaseEvent) (old new : Counts) (steps : Fate → LeaseMoving) (m : LeaseMoving) (P : Type 0) (f : LeaseFault) → RefusesLease f tells w (behind_lease_arm e old) new steps m P
    → (fate : Fate) × RanUnless fate old.stops new.stops × (IsSeen f → IsClear tells old.stops new.stops → steps fate ≡ m)
refused_by tells w e old new steps m P (fault.World (world_fault.Spent n)) (inl same, here) = (runs, inl refl, λ seen clear. same.0)
refused_by tells w e old new steps m P (fault.World (world_fault.Spent n)) (inr fated, here) = let s = stepped_by tells w e old new steps m fated in (s.0, s.1, λ seen. s.2)
refused_by tells w e old new steps m P (fault.World world_fault.NoSuchOp) h = (runs, inl refl, λ seen clear. h.0.0)
refused_by tells w e old new steps m P (fault.World world_fault.NoSuchMsg) h = (runs, inl refl, λ seen clear. h.0.0)
refused_by tells w e old new steps m P fault.NoSuchLease h = (runs, inl refl, λ seen clear. h.0.0)
refused_by tells w e old new steps m P (fault.World (world_fault.BadDisk place)) h = (runs, inl refl, λ seen. absurd seen)
refused_by tells w e old new steps m P (fault.World world_fault.DiskFailed) h = (runs, inl refl, λ seen. absurd seen)
refused_by tells w e old new steps m P (fault.World world_fault.NoMemory) h = (runs, inl refl, λ seen. absurd seen)
refused_by tells w e old new steps m P fault.NoMemory h = (runs, inl refl, λ seen. absurd seen)

pub refused_stays : (tells : Type 0) (w : World) (old new : Counts) (steps : Fate → LeaseMoving) (m : LeaseMoving) (P : Type 0) (f : LeaseFault) → RefusesLease f tells w old new steps m P → IsSeen f → P
refused_stays tells w old new steps m P (fault.World (world_fault.Spent n)) h seen = h.1
refused_stays tells w old new steps m P (fault.World world_fault.NoSuchOp) h seen = h.1
refused_stays tells w old new steps m P (fault.World world_fault.NoSuchMsg) h seen = h.1
refused_stays tells w old new steps m P fault.NoSuchLease h seen = h.1
refused_stays tells w old new steps m P (fault.World (world_fault.BadDisk place)) h seen = absurd seen
refused_stays tells w old new steps m P (fault.World world_fault.DiskFailed) h seen = absurd seen
refused_stays tells w old new steps m P (fault.World world_fault.NoMemory) h seen = absurd seen
refused_stays tells w old new steps m P fault.NoMemory h seen = absurd seen

-- A step that ended early, whose lines were added to those before, or weren't for want of memory.
pub early : (tells : Type 0) (w : World) (e : LeaseEvent) (old new : Counts) (steps : Fate → LeaseMoving) (P : Type 0) (f g : LeaseFault) (y z : LeaseWorld) (p q lines : List LeaseShown) → RefusesLease f tells w (behind_lease_arm e old) new steps (come (Some f) y lines) P → z ≡ y
    → ((g ≡ f) × (q ≡ p ++ lines)) ⊎ (g ≡ fault.NoMemory)
    → (fate : Fate) × RanUnless fate old.stops new.stops × (IsSeen g → (lines : List LeaseShown) × (q ≡ p ++ lines) × (IsClear tells old.stops new.stops → steps fate ≡ come (Some g) z lines))
early tells w e old new steps P f g y z p q lines refused same added =
    let s = refused_by tells w e old new steps (come (Some f) y lines) P f refused in
    (s.0, s.1, by added s.2)
  where
    by : ((g ≡ f) × (q ≡ p ++ lines)) ⊎ (g ≡ fault.NoMemory) → {fate : Fate} → (IsSeen f → IsClear tells old.stops new.stops → steps fate ≡ come (Some f) y lines)
        → IsSeen g → (lines : List LeaseShown) × (q ≡ p ++ lines) × (IsClear tells old.stops new.stops → steps fate ≡ come (Some g) z lines)
    by (inl (is, shown)) at seen = (lines, shown, λ clear. at (subst IsSeen is seen) clear ∙ ap (λ (h : LeaseFault). come (Some h) y lines) (sym is) ∙ ap (λ (u : LeaseWorld). come (Some g) u lines) (sym same))
    by (inr is) at seen = absurd (subst IsSeen is seen)

-- what holds behind it
pub early_stays : (tells : Type 0) (w : World) (old new : Counts) (steps : Fate → LeaseMoving) (m : LeaseMoving) (P Q R : Type 0) (f g : LeaseFault) → RefusesLease f tells w old new steps m P → ((g ≡ f) × R) ⊎ (g ≡ fault.NoMemory) → (P → Q) → IsSeen g → Q
early_stays tells w old new steps m P Q R f g refused (inl is) on seen = on (refused_stays tells w old new steps m P f refused (subst IsSeen is.0 seen))
early_stays tells w old new steps m P Q R f g refused (inr is) on seen = absurd (subst IsSeen is seen)

-- A step that was taken, whose lines were added to those before, or weren't for want of memory.
pub taken_so : {X : Type 0} (r : Result X LeaseFault) (tells : Type 0) (a b : ℕ) (steps : Fate → LeaseMoving) (y : LeaseWorld) (p q lines : List LeaseShown) → Stepped tells a b steps (come None y lines) → OnOk r (q ≡ p ++ lines) → IfErr r (λ f. f ≡ fault.NoMemory)
    → (fate : Fate) × RanUnless fate a b × (IsAsMachine r → (lines : List LeaseShown) × (q ≡ p ++ lines) × (IsClear tells a b → steps fate ≡ come (fault_in r) y lines))
taken_so (Ok x) tells a b steps y p q lines s ok err = (s.0, s.1, λ goes. (lines, ok, s.2))
taken_so (Err f) tells a b steps y p q lines s ok err = (s.0, s.1, λ goes. absurd (subst IsSeen err goes))

-- Counts behind a step.

counted : (old new : Counts) (F : Type 0) → Counted old new F ⊥ → AreLater old new F
counted old new F c = record { faults = c.faults_later; stops = c.stops_later; failed = c.failed }

same-counts : (old new : Counts) (F : Type 0) → new.faults ≡ old.faults → new.stops ≡ old.stops → (F → ⊥) → AreLater old new F
same-counts old new F faults stops never = record { faults = omega (arith, faults); stops = omega (arith, stops); failed = λ h. absurd (never h) }

world_counted : (e : Event) (old new : Counts) (F W : Type 0) → CountsOf e old new F W → AreLater old new F
world_counted (of_world.Arm n ch) old new F W (inl is, never) = same-counts old new F (ap (λ (c : Counts). c.faults) is) (ap (λ (c : Counts). c.stops) is) never
world_counted (of_world.Arm n ch) old new F W (inr is, never) = same-counts old new F (ap (λ (c : Counts). c.faults) is.1) (ap (λ (c : Counts). c.stops) is.1) never
world_counted (of_world.Call c line cl) old new F W h = counted old new F h
world_counted (of_world.Push c n) old new F W h = counted old new F h
world_counted (of_world.Resend c) old new F W h = counted old new F h
world_counted (of_world.Cut c) old new F W h = counted old new F h
world_counted (of_world.Uncut c) old new F W h = counted old new F h
world_counted (of_world.Drop n) old new F W h = counted old new F h
world_counted (of_world.Repeat n) old new F W h = counted old new F h
world_counted (of_world.Deliver n) old new F W h = counted old new F h
world_counted (of_world.Crash c) old new F W h = counted old new F h
world_counted (of_world.End c) old new F W h = counted old new F h
world_counted of_world.Stop old new F W h = counted old new F h
world_counted of_world.Restart old new F W h = counted old new F h

pub lease_counted : (e : LeaseEvent) (old new : Counts) (F W : Type 0) → LeaseCounts e old new F W → AreLater old new F
lease_counted (event.World e) old new F W h = world_counted e old new F W h
lease_counted (event.Tick n) old new F W h = counted old new F h
lease_counted (event.Skew c s) old new F W h = counted old new F h
lease_counted (event.Grant c) old new F W h = counted old new F h
lease_counted (event.Hand c n) old new F W h = counted old new F h
lease_counted event.Renew old new F W h = counted old new F h

pub later_by : (old new : Counts) (F G : Type 0) → (G → F) → AreLater old new F → AreLater old new G
later_by old new F G back h = record { faults = h.faults; stops = h.stops; failed = λ g. h.failed (back g) }

pub later_still : (c : Counts) (F : Type 0) → (F → ⊥) → AreLater c c F
later_still c F never = same-counts c c F refl refl never

-- one call behind another, in which it fails
pub later_then : (old mid new : Counts) (F G : Type 0) → AreLater old mid F → AreLater mid new G → AreLater old new G
later_then old mid new F G h k = record {
  faults = two old.faults mid.faults new.faults h.faults k.faults;
  stops = two old.stops mid.stops new.stops h.stops k.stops;
  failed = λ g. rose_later old.faults mid.faults new.faults h.faults (k.failed g);
}
  where
    two : (i j k : ℕ) → i ≤ j → j ≤ k → i ≤ k
    two i j k le later = omega (arith, le, later)

-- a line that names no message doesn't fail
pub none_fails : {X : Type 0} (f : LeaseFault) → f ≡ fault.World world_fault.NoSuchMsg → ◌≡◌ {A = Result X LeaseFault} (Err f) (Err (fault.World world_fault.DiskFailed)) → ⊥
none_fails f is e = absurd (apart (sym is ∙ one f e))
  where
    apart : fault.World world_fault.NoSuchMsg ≡ fault.World world_fault.DiskFailed → ⊥
    apart e = cc

    one : {X : Type 0} (f : LeaseFault) → ◌≡◌ {A = Result X LeaseFault} (Err f) (Err (fault.World world_fault.DiskFailed)) → f ≡ fault.World world_fault.DiskFailed
    one f e = cc

-- Steps one behind the other.

pub ran_first : (f : Fate) (a b c : ℕ) → b ≤ c → RanUnless f a b → RanUnless f a c
ran_first f a b c le (inl is) = inl is
ran_first f a b c le (inr r) = inr (rose-later a b c r le)

all-both : (fs gs : Fates) → AllRun fs → AllRun gs → AllRun (fs ++ gs)
all-both [] gs h k = k
all-both (f ∷ fs) gs h k = (h.0, all-both fs gs h.1 k)

each-both : (fs gs : List Fates) → EachRuns fs → EachRuns gs → EachRuns (fs ++ gs)
each-both [] gs h k = k
each-both (f ∷ fs) gs h k = (h.0, each-both fs gs h.1 k)

-- one before others
pub ran_before : (f : Fate) (fs : Fates) (a b c : ℕ) → a ≤ b → b ≤ c → RanUnless f a b → AreRun fs b c → AreRun (f ∷ fs) a c
ran_before f fs a b c le later (inl is) (inl all) = inl (is, all)
ran_before f fs a b c le later (inr r) all = inr (rose-later a b c r later)
ran_before f fs a b c le later (inl is) (inr r) = inr (rose_later a b c le r)

-- one behind others
pub ran_behind : (fs : Fates) (f : Fate) (a b c : ℕ) → a ≤ b → b ≤ c → AreRun fs a b → RanUnless f b c → AreRun (fs ++ f ∷ []) a c
ran_behind fs f a b c le later (inl all) (inl is) = inl (all-both fs (f ∷ []) all (is, tt))
ran_behind fs f a b c le later (inr r) one = inr (rose-later a b c r later)
ran_behind fs f a b c le later (inl all) (inr r) = inr (rose_later a b c le r)

-- a line behind others
pub line_behind : (fs : List Fates) (f : Fates) (a b c : ℕ) → a ≤ b → b ≤ c → EachRan fs a b → AreRun f b c → EachRan (fs ++ f ∷ []) a c
line_behind fs f a b c le later (inl all) (inl run) = inl (each-both fs (f ∷ []) all (run, tt))
line_behind fs f a b c le later (inr r) one = inr (rose-later a b c r later)
line_behind fs f a b c le later (inl all) (inr r) = inr (rose_later a b c le r)

pub each_first : (fs : List Fates) (a b c : ℕ) → b ≤ c → EachRan fs a b → EachRan fs a c
each_first fs a b c le (inl all) = inl all
each_first fs a b c le (inr r) = inr (rose-later a b c r le)

-- Clocks behind steps.

pub still_advances : (x y z : LeaseWorld) → Advances x y → ClocksGoOn 0 y z → Advances x z
still_advances x y z h k = record { most = k.most ∙ h.most; now = on z.now y.now x.now k.now h.now }
  where
    on : (c b a : ℕ) → c ≡ b + 0 → b ≤ a + 1000000 → c ≤ a + 1000000
    on c b a is le = omega (arith, is, le)

pub still_goes : (x y z : LeaseWorld) → ClocksGoOn 0 x y → ClocksGoOn 0 y z → ClocksGoOn 0 x z
still_goes x y z h k = record { now = on z.now y.now x.now k.now h.now; most = k.most ∙ h.most }
  where
    on : (c b a : ℕ) → c ≡ b + 0 → b ≡ a + 0 → c ≡ a + 0
    on c b a is at = omega (arith, is, at)

pub goes_none : (x : LeaseWorld) → ClocksGoOn 0 x x
goes_none x = record { now = same x.now; most = refl }
  where
    same : (n : ℕ) → n ≡ n + 0
    same n = omega arith

-- an event that may follow a line lets the clock go on by so much at most
pub advances : (e : LeaseEvent) (x y : LeaseWorld) → MayStep x e → ClocksGoOn (ticks e) x y → Advances x y
advances (event.Tick n) x y may h = record { most = h.most; now = on y.now x.now n h.now may.1 }
  where
    on : (b a n : ℕ) → b ≡ a + n → n ≤ 1000000 → b ≤ a + 1000000
    on b a n is le = omega (arith, is, le)
advances (event.World e) x y may h = record { most = h.most; now = let is = h.now in omega (arith, is) }
advances (event.Skew c s) x y may h = record { most = h.most; now = let is = h.now in omega (arith, is) }
advances (event.Grant c) x y may h = record { most = h.most; now = let is = h.now in omega (arith, is) }
advances (event.Hand c n) x y may h = record { most = h.most; now = let is = h.now in omega (arith, is) }
advances event.Renew x y may h = record { most = h.most; now = let is = h.now in omega (arith, is) }

pub advances_none : (x : LeaseWorld) → Advances x x
advances_none x = record { most = refl; now = more x.now }
  where
    more : (n : ℕ) → n ≤ n + 1000000
    more n = omega arith

pub advances_so : {X : Type 0} (r : Result X LeaseFault) (e : LeaseEvent) (x y : LeaseWorld) → MayStep x e → OnOk r (ClocksGoOn (ticks e) x y) → OnOk r (Advances x y)
advances_so (Ok z) e x y may h = advances e x y may h
advances_so (Err f) e x y may h = tt
