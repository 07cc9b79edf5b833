-- What comes of the parts of a step.
use Rattle.std.proofs.Common.{◌≡◌, ◌+◌, ◌++◌, ℕ, List, [], None, Some, Result, Ok, Err, refl, subst, sym, ap, ◌∙◌}
use Rattle.std.specs.Prelude.{IfErr, OnOk, map}
use Rattle.ec_disk.specs.Disk.{Counts, View}
use Rattle.ec_history.specs.declared.shown.Shown.{Shown}
use Rattle.ec_protocol.specs.World.{Fate, Moving, happen, runs}
use Rattle.ec_protocol.specs.declared.world.Event.{Event}
use Rattle.ec_protocol.specs.declared.world.World.{World as State}
use Rattle.ec_protocol.specs.declared.world.WorldFault.{WorldFault}
use Rattle.ec_protocol.specs.declared.world.WorldFault.TheVariants as world_fault
use Rattle.ec_lease_machine.specs.Leases.{LeaseMoving, event_happens, fails, moved, world_happens}
use Rattle.ec_lease_machine.specs.declared.world.LeaseFault.{LeaseFault}
use Rattle.ec_lease_machine.specs.declared.world.LeaseFault.TheVariants as fault
use Rattle.ec_lease_machine.specs.declared.world.LeaseShown.{LeaseShown}
use Rattle.ec_lease_machine.specs.declared.world.LeaseShown.TheVariants.{Line}
use Rattle.ec_lease_machine.specs.declared.world.LeaseWorld.{LeaseWorld as Leases}
use Rattle.ec_lease_machine.specs.OfBook.Book.{Booked, with_book}
use Rattle.ec_store.specs.Store as store
use Rattle.ec_world.specs.Laws.{in_step_keeps}
use Rattle.ec_world.specs.StepEnds.{FateOf, IsTold, RefusesEvent, behind_arm}
use Rattle.ec_world.specs.Steps.{IsShown}
use Rattle.ec_world.specs.Worlds as worlds
use Rattle.ec_world.specs.declared.world.World.{World as Code}
use Rattle.ec_lease.specs.Steps.{Comes, HappensNot, LeaseFated, as_lease_fault}
use Rattle.ec_lease.specs.Worlds.{ended_with, under_way, leased, ClocksGoOn, IsInStep, KeepsServer}
use Rattle.ec_lease.specs.declared.world.LeaseWorld.{LeaseWorld}
use Rattle.ec_lease.proofs.Clocks.{clock_of, stays}
use Rattle.ec_lease.proofs.Fated.{may_stop, quiet}
use Rattle.ec_lease.proofs.Parts.{moved_by}

-- Want of memory.

abbrev pub Wants : {A : Type 0} → Result A LeaseFault → Type 0
Wants r = IfErr r (λ f. f ≡ fault.NoMemory)

pub wants_only : {A : Type 0} (r : Result A LeaseFault) (w : State) (steps : Fate → LeaseMoving) (new : LeaseWorld) (P : Type 0) → Wants r → IfErr r (λ f. HappensNot f w steps (ended_with f new) P)
wants_only (Ok x) w steps new P is = tt
wants_only (Err f) w steps new P is = subst (λ (g : LeaseFault). HappensNot g w steps (ended_with g new) P) (sym is) tt

-- A part that makes no call of the disk.

pub stays_in_step : {A : Type 0} (r : Result A LeaseFault) (tells : Type 0) (now : View) (old new : LeaseWorld) → KeepsServer old new → IsInStep tells now old → OnOk r (IsInStep tells now new)
stays_in_step (Ok x) tells now old new same h = in_step_keeps tells now old.world new.world same h
stays_in_step (Err f) tells now old new same h = tt

pub quietly : {A : Type 0} (r : Result A LeaseFault) (tells : Type 0) (now : View) (counts : Counts) (by : ℕ) (steps : Fate → LeaseMoving) (old new : LeaseWorld)
    → OnOk r (steps runs ≡ under_way new) → ClocksGoOn by (leased old) (steps runs).world → KeepsServer old new → IsInStep tells now old
    → IfErr r (λ f. HappensNot f (leased old).world steps (ended_with f new) (IsInStep tells now new)) → Comes r tells now counts counts by steps old new
quietly r tells now counts by steps old new is clock same h err = record {
  ok = quiet r tells (leased old).world counts steps (under_way new) (ap store.view_of same.store) is;
  clock = clock_of r by (leased old) (steps runs) new is clock;
  in_step = stays_in_step r tells now old new same h;
  err = err;
}

-- A step of the world.

abbrev pub of_parts : Code → Booked → List LeaseShown → LeaseMoving
of_parts w b ls = record { world = with_book b (worlds.view_of w); shown = ls; fault = None }

abbrev pub Stepped : Type 0 → Counts → Counts → Event → Code → Code → List Shown → Type 0
Stepped tells before behind e old new lines =
    (fate : Fate) × FateOf fate (worlds.view_of old).durable (worlds.view_of new).durable before behind
    × (IsTold fate tells → happen fate e (worlds.view_of old) ≡ record { world = worlds.view_of new; shown = lines; fault = None })
    × (tells → IsShown fate old.choice before.armed (worlds.view_of old).shown (worlds.view_of new).shown)

world_fated : (tells : Type 0) (before behind : Counts) (e : Event) (x : LeaseWorld) (mid : Code) (lines : List Shown) (end : LeaseWorld) → Stepped tells before behind e x.world mid lines → end.world ≡ mid → end.book ≡ x.book → end.piece.items ≡ map Line lines
    → LeaseFated tells (leased x).world before behind (λ fate. world_happens fate e (leased x)) (under_way end)
world_fated tells before behind e x mid lines end ok world book piece = (
  ok.0,
  record {
    of_disk = subst (λ (w : Code). FateOf ok.0 (worlds.view_of x.world).durable (worlds.view_of w).durable before behind) (sym world) ok.1;
    may_stop = λ told. may_stop ok.0 x.world.choice before.armed (worlds.view_of x.world).shown (worlds.view_of mid).shown (ok.3 told);
  },
  λ told.
      ap (λ (m : Moving). moved m (leased x)) (ok.2 told)
      ∙ ap (λ w. of_parts w x.book (map Line lines)) (sym world)
      ∙ ap (λ b. of_parts end.world b (map Line lines)) (sym book)
      ∙ ap (of_parts end.world end.book) (sym piece),
)

same_clock : (x y : LeaseWorld) → y.book ≡ x.book → ClocksGoOn 0 (leased x) (leased y)
same_clock x y same = stays (leased x) (leased y) (ap (λ (b : Booked). b.clock) same) (ap (λ (b : Booked). b.most) same)

pub world_steps : {A : Type 0} (r : Result A LeaseFault) (tells : Type 0) (now : View) (before behind : Counts) (e : Event) (x : LeaseWorld) (mid : Code) (lines : List Shown) (end : LeaseWorld)
    → Stepped tells before behind e x.world mid lines → worlds.IsInStep tells now mid → end.world ≡ mid → end.book ≡ x.book → x.piece.items ≡ [] → OnOk r (end.piece.items ≡ x.piece.items ++ map Line lines) → Wants r
    → Comes r tells now before behind 0 (λ fate. world_happens fate e (leased x)) x end
world_steps (Ok a) tells now before behind e x mid lines end ok h world book fresh piece wants = record {
  ok = world_fated tells before behind e x mid lines end ok world book (piece ∙ ap (λ ls. ls ++ map Line lines) fresh);
  clock = same_clock x end book;
  in_step = subst (λ (w : Code). worlds.IsInStep tells now w) (sym world) h;
  err = tt;
}
world_steps {A} (Err f) tells now before behind e x mid lines end ok h world book fresh piece wants = record {
  ok = tt;
  clock = tt;
  in_step = tt;
  err = wants_only {A = A} (Err f) (leased x).world (λ fate. world_happens fate e (leased x)) end (IsInStep tells now end) wants;
}

-- One that isn't taken.

moved_fails : (m : Moving) (x : Leases) (f : WorldFault) → m.fault ≡ Some f → moved m x ≡ fails (fault.World f) x
moved_fails m x f is = ap (moved_by m x) is

pub ended_is : (f : LeaseFault) (x y : LeaseWorld) → worlds.view_of y.world ≡ worlds.view_of x.world → y.book ≡ x.book → y.piece.items ≡ [] → fails f (leased x) ≡ ended_with f y
ended_is f x y world book piece =
    let to : State → Booked → List LeaseShown → LeaseMoving = λ w b ls. record { world = with_book b w; shown = ls; fault = Some f } in
    ap (λ w. to w x.book []) (sym world) ∙ ap (λ b. to (worlds.view_of y.world) b []) (sym book) ∙ ap (to (worlds.view_of y.world) y.book) (sym piece)

refused : (f : WorldFault) (m : Moving) (x y : LeaseWorld) → m.fault ≡ Some f → worlds.view_of y.world ≡ worlds.view_of x.world → y.book ≡ x.book → y.piece.items ≡ [] → moved m (leased x) ≡ ended_with (fault.World f) y
refused f m x y is world book piece = moved_fails m (leased x) f is ∙ ended_is (fault.World f) x y world book piece

refused_by : (why : WorldFault) (e : Event) (x y : LeaseWorld) (P : Type 0) → RefusesEvent why (happen runs e (worlds.view_of x.world)) (worlds.view_of x.world) (worlds.view_of y.world) P → y.book ≡ x.book → y.piece.items ≡ []
    → HappensNot (as_lease_fault why) (leased x).world (λ fate. world_happens fate e (leased x)) (ended_with (as_lease_fault why) y) P
refused_by (world_fault.BadDisk p) e x y P h book piece = absurd h
refused_by world_fault.DiskFailed e x y P h book piece = tt
refused_by (world_fault.Spent n) e x y P h book piece = ((refused (world_fault.Spent n) (happen runs e (worlds.view_of x.world)) x y h.0 h.1 book piece, h.1), h.2)
refused_by world_fault.NoSuchOp e x y P h book piece = ((refused world_fault.NoSuchOp (happen runs e (worlds.view_of x.world)) x y h.0 h.1 book piece, h.1), h.2)
refused_by world_fault.NoSuchMsg e x y P h book piece = ((refused world_fault.NoSuchMsg (happen runs e (worlds.view_of x.world)) x y h.0 h.1 book piece, h.1), h.2)
refused_by world_fault.NoMemory e x y P h book piece = tt

pub world_refuses : {A : Type 0} (g : LeaseFault) (why : WorldFault) (tells : Type 0) (now : View) (before behind : Counts) (e : Event) (x y : LeaseWorld) → g ≡ as_lease_fault why
    → RefusesEvent why (happen runs e (worlds.view_of x.world)) (worlds.view_of x.world) (worlds.view_of y.world) (IsInStep tells now y) → y.book ≡ x.book → y.piece.items ≡ []
    → Comes {A = A} (Err g) tells now before behind 0 (λ fate. world_happens fate e (leased x)) x y
world_refuses g why tells now before behind e x y is h book piece =
    let steps : Fate → LeaseMoving = λ fate. world_happens fate e (leased x) in
    record {
      ok = tt;
      clock = tt;
      in_step = tt;
      err = subst (λ (f : LeaseFault). HappensNot f (leased x).world steps (ended_with f y) (IsInStep tells now y)) (sym is) (refused_by why e x y (IsInStep tells now y) h book piece);
    }

-- An event that comes to this.
pub comes_to : {A : Type 0} (r : Result A LeaseFault) (tells : Type 0) (now : View) (before behind : Counts) (e this : Event) (x y : LeaseWorld) → e ≡ this
    → Comes r tells now (behind_arm this before) behind 0 (λ fate. event_happens fate this (leased x)) x y → Comes r tells now (behind_arm e before) behind 0 (λ fate. event_happens fate e (leased x)) x y
comes_to r tells now before behind e this x y is h = subst (λ (e : Event). Comes r tells now (behind_arm e before) behind 0 (λ fate. event_happens fate e (leased x)) x y) (sym is) h

-- a fault of a world that isn't want of memory
pub other_fault : (why : WorldFault) → (why ≡ world_fault.NoMemory → ⊥) → fault.World why ≡ as_lease_fault why
other_fault (world_fault.BadDisk p) other = refl
other_fault world_fault.DiskFailed other = refl
other_fault (world_fault.Spent n) other = refl
other_fault world_fault.NoSuchOp other = refl
other_fault world_fault.NoSuchMsg other = refl
other_fault world_fault.NoMemory other = absurd (other refl)
