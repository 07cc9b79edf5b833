-- How a drill with leases ends: a run on a world that was opened, and what it makes of the whole.
use Rattle.std.proofs.Common.{◌≡◌, ◌⊎◌, ◌≤◌, ◌+◌, ℕ, List, [], ◌∷◌, ◌++◌, Option, Result, Ok, Err, refl, sym, ap, subst, ◌∙◌, append-nil, inl, inr, arith}
use Rattle.std.specs.Io.KnownBytes.{Appends}
use Rattle.ec_base.proofs.Lists.{appends_two}
use Rattle.ec_base.proofs.OutsideLemmas.{rose_later}
use Rattle.ec_base.specs.Outside.{Rose}
use Rattle.ec_base.specs.declared.counter.Counter.{Counter}
use Rattle.ec_disk.specs.Disk.{View, Counts}
use Rattle.ec_history.specs.declared.shown.Shown.{Shown}
use Rattle.ec_history.specs.declared.shown.Shown.TheVariants.{Limit, DiskBad, Spent}
use Rattle.ec_history.specs.declared.shown.LimitName.{LimitName}
use Rattle.ec_history.specs.declared.shown.LimitName.TheVariants as limit
use Rattle.ec_durable.specs.declared.state.Durable.{Durable}
use Rattle.ec_words.specs.OfText.Lines.{shown_text}
use Rattle.ec_protocol.specs.World.{open_world}
use Rattle.ec_protocol.specs.Drill.{Ending, Fates, status as status_in}
use Rattle.ec_protocol.specs.declared.world.World.{World}
use Rattle.ec_protocol.specs.declared.world.WorldFault.{WorldFault}
use Rattle.ec_protocol.specs.declared.world.WorldFault.TheVariants as fault
use Rattle.ec_world.specs.Laws.{in_step_stands}
use Rattle.ec_world.specs.Steps.{Opens}
use Rattle.ec_world.specs.StepEnds.{Unopened}
use Rattle.ec_lease_machine.specs.Drill.{LeaseRan, LeaseRead, bound, close, drill_in, joined_lease, run_from}
use Rattle.ec_lease_machine.specs.Leases.{opened_leases}
use Rattle.ec_lease_machine.specs.OfLeaseWorlds.Lines.{lease_run}
use Rattle.ec_lease_machine.specs.declared.world.LeaseShown.TheVariants.{Line}
use Rattle.ec_lease_machine.specs.declared.world.LeaseWorld.{LeaseWorld}
use Rattle.ec_lease.specs.declared.world.LeaseWorld.{LeaseWorld as Opened}
use Rattle.ec_lease.specs.Worlds.{leased, IsInStep}
use Rattle.ec_lease.specs.OfDrill.Script.{lease_objects, most_bytes}
use Rattle.ec_lease.specs.OfDrill.Drill.{LeaseOutside, IsClear, IsDiskIdle, IsFrontOf, IsSeenAll, KeepsState, GivesReads, HasTooMuch, LeaseDrilled, NeverBegan, over, bad, RanAll, RanPart, ToldPart, EachRuns}
use Rattle.ec_lease.specs.OfDrill.Steps.{CutOff, EachRan, LeaseEnded, ran_to}
use Rattle.ec_lease.specs.OfDrill.Closing.{LeaseClosed, EndCut, Numbers, closed, lines_in}
use Rattle.ec_lease.specs.OfDrill.Starts.{AllOn, EndedOn, PartOn, RefusedWith, TellsUnopened, Withholds, status_of}
use Rattle.ec_lease.specs.declared.drill.start.Withheld.{Withheld}
use Rattle.ec_lease.specs.declared.drill.start.Withheld.TheVariants as why
use Rattle.ec_lease.specs.declared.drill.status.Status.{Status}
use Rattle.ec_lease.specs.declared.drill.status.Status.TheVariants as status
use Rattle.ec_lease.specs.declared.drill.writing.Cut.{Cut}
use Rattle.ec_lease.specs.declared.drill.writing.Cut.TheVariants as cut
use Rattle.ec_lease.proofs.OfDrill.Known.{clear_first, clear_later, each_first}
use Rattle.ec_lease.proofs.OfDrill.Writes.{front_within, none_written, texts-append}
use Rattle.ec_lease.proofs.OfDrill.Closings.{any_end}

-- the disk of a world that is in step with it
pub keeps_state : (tells : Type 0) (now : View) (x : Opened) → (tells → now.may_leave now.gives) → IsInStep tells now x → tells → KeepsState now (leased x).world.durable
keeps_state tells now x gives in_step told = record { gives = in_step_stands tells now x.world in_step told now.gives (gives told); crash = in_step_stands tells now x.world in_step told }

-- A run that came to its end, and was closed.

module _ (l e : ℕ) (tells : Type 0) (old mid new : Counts) (reads : List LeaseRead) (start : World) (end : Ending) (x : LeaseWorld) (held held_mid now : Option (List ℕ)) (s : LeaseEnded tells old.stops mid.stops (bound reads) reads (opened_leases l e start) end x held held_mid) (later : mid.stops ≤ new.stops) where
  first : IsClear tells old.stops new.stops → IsClear tells old.stops mid.stops
  first clear = clear_first tells old.stops mid.stops new.stops later clear

  is : IsClear tells old.stops new.stops → run_from (bound reads) 1 reads s.fates (opened_leases l e start) ≡ ran_to x end s.pieces
  is clear = s.run (first clear)

  number_is : IsClear tells old.stops new.stops → (drill_in l e reads s.fates (Ok start)).1 ≡ status_in (closed x end s.pieces).ending
  number_is clear = ap (λ (r : LeaseRan). status_in (close r.ending r).ending) (is clear)

  -- and the disk stands for the state of the world that it came to
  pub all_on : (st : Status) (y : LeaseWorld) (seen : View) → LeaseClosed x y end st held_mid now → (tells → KeepsState seen y.world.durable) → AllOn l e st tells old.stops new.stops seen reads start held now
  all_on st y seen done stands = record {
    fates = s.fates;
    are = each_first s.fates old.stops mid.stops new.stops later s.are;
    shown = joined_lease s.pieces ++ done.shown;
    lines = λ clear. ap (λ (r : LeaseRan). lines_in (close r.ending r)) (is clear) ∙ done.lines s.pieces;
    own = (status_in (closed x end s.pieces).ending, done.number s.pieces);
    status = λ clear. subst (Numbers st) (sym (number_is clear)) (done.number s.pieces);
    bytes = appends_two held held_mid now _ _ _ s.bytes done.bytes (sym (texts-append (joined_lease s.pieces) done.shown));
    disk = λ not told. subst (λ (u : LeaseWorld). KeepsState seen u.world.durable)
        (sym (ap (λ (r : LeaseRan). (close r.ending r).world) (is (inl told)) ∙ done.same s.pieces (λ at. not (number_is (inl told) ∙ at)))) (stands told);
  }

  -- or was cut off in its end
  pub end_cut : (c : Cut) (writes writes_mid later_writes : ℕ) → writes ≤ writes_mid → old.faults ≤ mid.faults → EndCut x end c held_mid now writes_mid later_writes mid.faults new.faults → PartOn l e c tells old new reads start held now writes later_writes
  end_cut c writes writes_mid later_writes le rose part = record {
    fates = s.fates;
    are = each_first s.fates old.stops mid.stops new.stops later s.are;
    front = front_within c (Unit {0}) (IsClear tells old.stops new.stops) (joined_lease s.pieces) part.0 (drill_in l e reads s.fates (Ok start)).0 held held_mid now writes writes_mid later_writes old.faults mid.faults new.faults le rose s.bytes
        (λ clear. (tt, ([], ap (λ (r : LeaseRan). lines_in (close r.ending r)) (is clear) ∙ part.1 s.pieces ∙ ap (λ l. joined_lease s.pieces ++ l) (sym (append-nil part.0))))) part.2;
  }

-- a run that was cut off before its end
pub run_cut : (l e : ℕ) (c : Cut) (tells : Type 0) (old new : Counts) (k : ℕ) (reads : List LeaseRead) (start : World) (held now : Option (List ℕ)) (writes later : ℕ) → k ≡ bound reads → CutOff tells old new k reads (opened_leases l e start) c held now writes later → PartOn l e c tells old new reads start held now writes later
run_cut l e c tells old new k reads start held now writes later same cut_off =
    let s = subst (λ (n : ℕ). CutOff tells old new n reads (opened_leases l e start) c held now writes later) same cut_off in
    let r : LeaseRan = run_from (bound reads) 1 reads s.fates (opened_leases l e start) in
    let more = any_end r.world r.ending in
    record {
      fates = s.fates;
      are = s.are;
      front = front_within c (IsClear tells old.stops new.stops) (IsClear tells old.stops new.stops) [] (joined_lease r.pieces) (drill_in l e reads s.fates (Ok start)).0 held held now writes writes later old.faults old.faults new.faults (omega arith) (omega arith) (none_written held [] refl)
          (λ clear. (clear, (more.0, more.1 r.pieces))) s.front;
    }

-- The whole of a drill, behind the opening of its disk.

module _ (l e : ℕ) (reads : List LeaseRead) (state : Durable) (start : World) (w : LeaseOutside) (given : GivesReads e w reads) (opens : Opens w.tells w.disk.gives lease_objects state) (opened : open_world state ≡ Ok start) (mid : Counts) (le : w.counts.stops ≤ mid.stops) (rose : w.counts.faults ≤ mid.faults) where
  inside : IsSeenAll w → IsClear w.tells mid.stops w.counts_after.stops
  inside clear = clear_later w.tells w.counts.stops mid.stops w.counts_after.stops le clear

  stopped : (fates : List Fates) → EachRan fates mid.stops w.counts_after.stops → EachRuns fates ⊎ Rose w.counts.stops w.counts_after.stops
  stopped fates (inl all) = inl all
  stopped fates (inr r) = inr (rose_later w.counts.stops mid.stops w.counts_after.stops le r)

  ran_all : (st : Status) (number : ℕ) → ((n : ℕ) → Numbers st n → n ≡ number) → AllOn l e st w.tells mid.stops w.counts_after.stops w.disk_after reads start w.held w.held_after → RanAll l e number w
  ran_all st number is r = record {
    reads = reads;
    given = given;
    state = state;
    opens = opens;
    fates = r.fates;
    stopped = stopped r.fates r.are;
    shown = r.shown;
    lines = λ clear. ap (λ (x : Result World Counter). (drill_in l e reads r.fates x).0) opened ∙ r.lines (inside clear);
    status = λ clear. ap (λ (x : Result World Counter). (drill_in l e reads r.fates x).1) opened ∙ is (drill_in l e reads r.fates (Ok start)).1 (r.status (inside clear));
    bytes = r.bytes;
    disk = λ not told. subst (λ (x : Result World Counter). KeepsState w.disk_after (elim x [ Err n ↦ state | Ok v ↦ (lease_run l e reads r.fates v).world.world.durable ])) (sym opened)
        (r.disk (λ at. not (sym (is (drill_in l e reads r.fates (Ok start)).1 (r.status (inl told))) ∙ at)) told);
  }

  ran_part : (c : Cut) → (r : PartOn l e c w.tells mid w.counts_after reads start w.held w.held_after w.writes w.writes_after) → RanPart l e w (r.front).last
  ran_part c r = let f = (r.front).wrote in record {
    reads = reads;
    given = given;
    state = state;
    opens = opens;
    fates = r.fates;
    stopped = stopped r.fates r.are;
    shown = f.shown;
    unwritten = f.unwritten;
    front = λ clear. let at = f.front (inside clear) in (at.0, ap (λ (x : Result World Counter). (drill_in l e reads r.fates x).0) opened ∙ at.1);
    bytes = f.bytes;
    part = f.part;
  }

  by_cause : (c : Cut) → PartOn l e c w.tells mid w.counts_after reads start w.held w.held_after w.writes w.writes_after → LeaseDrilled l e (status_of c) w
  by_cause cut.Disk r = (rose_later w.counts.faults mid.faults w.counts_after.faults rose (r.front).cause.0, inl (subst (λ (last : List ℕ). RanPart l e w last) (r.front).cause.1 (ran_part cut.Disk r)))
  by_cause cut.Sink r = ((r.front).cause, inl ((r.front).last, ran_part cut.Sink r))
  by_cause cut.NoMemory r = inl (inl ((r.front).last, ran_part cut.NoMemory r))

  by_status : (st : Status) → AllOn l e st w.tells mid.stops w.counts_after.stops w.disk_after reads start w.held w.held_after → LeaseDrilled l e st w
  by_status status.Done r = ran_all status.Done 0 (λ n is. is) r
  by_status status.BadLine r = ran_all status.BadLine 3 (λ n is. is) r
  by_status status.Limit r = inr (ran_all status.Limit 11 (λ n is. is) r)
  by_status status.Spent r = ran_all status.Spent 15 (λ n is. is) r
  by_status status.SourceFault r = absurd r.own.1
  by_status status.SinkFault r = absurd r.own.1
  by_status status.DiskFault r = absurd r.own.1
  by_status status.BadDisk r = absurd r.own.1
  by_status status.NoMemory r = absurd r.own.1

  pub ended_drill : (st : Status) → EndedOn l e st w.tells mid w.counts_after w.disk_after reads start w.held w.held_after w.writes w.writes_after → LeaseDrilled l e st w
  ended_drill st (inl all) = by_status st all
  ended_drill st (inr (c, is, part)) = subst (λ (s : Status). LeaseDrilled l e s w) (sym is) (by_cause c part)

-- Nothing was carried out.

told_part : (e : ℕ) (w : LeaseOutside) (line : Shown) → NeverBegan e w line → (last : List ℕ) → (last ≡ []) ⊎ IsFrontOf (shown_text line) last → Appends w.held w.held_after last → ToldPart e w
told_part e w line why last part bytes = record { line = line; why = why; last = last; part = part; bytes = bytes }

pub refused : (l e : ℕ) (w : LeaseOutside) (line : Shown) (st result : Status) → NeverBegan e w line → (Appends w.held w.held_after (shown_text line) → LeaseDrilled l e st w) → RefusedWith line st result w.held w.held_after w.writes w.writes_after → LeaseDrilled l e result w
refused l e w line st result why told (inl (is, bytes)) = subst (λ (s : Status). LeaseDrilled l e s w) (sym is) (told bytes)
refused l e w line st result why told (inr (cut.Disk, is, text)) = absurd text.why
refused l e w line st result why told (inr (cut.Sink, is, text)) = subst (λ (s : Status). LeaseDrilled l e s w) (sym is) (text.why.0, inr (told_part e w line why text.last (inr text.why.1) text.bytes))
refused l e w line st result why told (inr (cut.NoMemory, is, text)) = subst (λ (s : Status). LeaseDrilled l e s w) (sym is) (inl (inr (told_part e w line why text.last text.why text.bytes)))

-- The opening would spend a counter.

module _ (l e : ℕ) (reads : List LeaseRead) (state : Durable) (n : Counter) (w : LeaseOutside) (given : GivesReads e w reads) (opens : Opens w.tells w.disk.gives lease_objects state) (not : open_world state ≡ Err n) where
  spent_part : (last : List ℕ) → (last ≡ []) ⊎ IsFrontOf (shown_text (Spent n)) last → Appends w.held w.held_after last → RanPart l e w last
  spent_part last part bytes = record {
    reads = reads;
    given = given;
    state = state;
    opens = opens;
    fates = [];
    stopped = inl tt;
    shown = [];
    unwritten = Line (Spent n) ∷ [];
    front = λ clear. ([], ap (λ (x : Result World Counter). (drill_in l e reads [] x).0) not);
    bytes = bytes;
    part = part;
  }

  pub spent_at_once : (result : Status) → RefusedWith (Spent n) status.Spent result w.held w.held_after w.writes w.writes_after → LeaseDrilled l e result w
  spent_at_once result (inl (is, bytes)) = subst (λ (s : Status). LeaseDrilled l e s w) (sym is) (record {
    reads = reads;
    given = given;
    state = state;
    opens = opens;
    fates = [];
    stopped = inl tt;
    shown = Line (Spent n) ∷ [];
    lines = λ clear. ap (λ (x : Result World Counter). (drill_in l e reads [] x).0) not;
    status = λ clear. ap (λ (x : Result World Counter). (drill_in l e reads [] x).1) not;
    bytes = subst (λ (t : List ℕ). Appends w.held w.held_after t) (sym (append-nil (shown_text (Spent n)))) bytes;
    disk = λ other told. absurd (other refl);
  })
  spent_at_once result (inr (cut.Disk, is, text)) = absurd text.why
  spent_at_once result (inr (cut.Sink, is, text)) = subst (λ (s : Status). LeaseDrilled l e s w) (sym is) (text.why.0, inl (text.last, spent_part text.last (inr text.why.1) text.bytes))
  spent_at_once result (inr (cut.NoMemory, is, text)) = subst (λ (s : Status). LeaseDrilled l e s w) (sym is) (inl (inl (text.last, spent_part text.last text.why text.bytes)))

-- The disk wasn't opened.
pub not_opened : (f : WorldFault) (l e : ℕ) (reads : List LeaseRead) (result : Status) (w : LeaseOutside) → GivesReads e w reads → Unopened f w.tells w.disk.gives w.disk_after.gives w.disk_after.may_leave lease_objects
    → (f ≡ fault.DiskFailed → Rose w.counts.faults w.counts_after.faults) → TellsUnopened f result w.held w.held_after w.writes w.writes_after → LeaseDrilled l e result w
not_opened (fault.BadDisk place) l e reads result w given unopened failed told = refused l e w (DiskBad place) status.BadDisk result (bad place reads given unopened) (λ bytes. (place, reads, given, unopened, bytes)) told
not_opened (fault.Spent n) l e reads result w given unopened failed told = spent_at_once l e reads unopened.0 n w given unopened.1 unopened.2 result told
not_opened fault.DiskFailed l e reads result w given unopened failed told = subst (λ (s : Status). LeaseDrilled l e s w) (sym told.0) (failed refl, inr told.1)
not_opened fault.NoSuchOp l e reads result w given unopened failed told = absurd unopened
not_opened fault.NoSuchMsg l e reads result w given unopened failed told = absurd unopened
not_opened fault.NoMemory l e reads result w given unopened failed told = subst (λ (s : Status). LeaseDrilled l e s w) (sym told.0) (inr told.1)

-- The script isn't within the limits.
pub over_limit : (l e : ℕ) (name : LimitName) (n : ℕ) (result : Status) (w : LeaseOutside) → HasTooMuch w name n → IsDiskIdle w → RefusedWith (Limit name n) status.Limit result w.held w.held_after w.writes w.writes_after → LeaseDrilled l e result w
over_limit l e name n result w over_it still told = refused l e w (Limit name n) status.Limit result (over name n over_it still) (λ bytes. inl (name, n, over_it, still, bytes)) told

-- The drill of a source whose script isn't taken: the disk isn't touched.
module _ (l e : ℕ) (result : Status) (left left_after : Option (List ℕ)) (reads reads_after : ℕ) (held now : Option (List ℕ)) (writes later : ℕ) (tells : Type 0) (disk : View) (counts : Counts) where
  abbrev pub idle : LeaseOutside
  idle = record {
    left = left;
    left_after = left_after;
    reads = reads;
    reads_after = reads_after;
    held = held;
    held_after = now;
    writes = writes;
    writes_after = later;
    tells = tells;
    disk = disk;
    disk_after = disk;
    counts = counts;
    counts_after = counts;
  }

  untouched : IsDiskIdle idle
  untouched = record { gives = refl; crash = λ image may. may; counts = refl }

  pub too_many_bytes : (f : Withheld) → f ≡ why.Bytes → Withholds left left_after reads reads_after f → RefusedWith (Limit limit.Bytes (most_bytes + 1)) status.Limit result held now writes later → LeaseDrilled l e result idle
  too_many_bytes f is withheld told =
      let more = subst (Withholds left left_after reads reads_after) is withheld in
      over_limit l e limit.Bytes (most_bytes + 1) result idle (refl, more.0, more.1, more.2) untouched told

  pub too_many_lines : (f : Withheld) (n : ℕ) → f ≡ why.Lines n → Withholds left left_after reads reads_after f → RefusedWith (Limit limit.Lines n) status.Limit result held now writes later → LeaseDrilled l e result idle
  too_many_lines f n is withheld told =
      let more = subst (Withholds left left_after reads reads_after) is withheld in
      over_limit l e limit.Lines n result idle (more.0, record { given = more.1; at_end = more.2; few_bytes = more.3 }, more.4, more.5) untouched told

-- a run on the world that was opened so
pub ended_from : (l e k : ℕ) (tells : Type 0) (a b : ℕ) (reads : List LeaseRead) (start : World) (first x : LeaseWorld) (end : Ending) (held mid : Option (List ℕ)) → first ≡ opened_leases l e start → k ≡ bound reads → LeaseEnded tells a b k reads first end x held mid → LeaseEnded tells a b (bound reads) reads (opened_leases l e start) end x held mid
ended_from l e k tells a b reads start first x end held mid opened same s =
    subst (λ (n : ℕ). LeaseEnded tells a b n reads (opened_leases l e start) end x held mid) same (subst (λ (u : LeaseWorld). LeaseEnded tells a b k reads u end x held mid) opened s)

pub cut_from : (l e k : ℕ) (tells : Type 0) (old new : Counts) (reads : List LeaseRead) (start : World) (first : LeaseWorld) (c : Cut) (held now : Option (List ℕ)) (writes later : ℕ) → first ≡ opened_leases l e start → CutOff tells old new k reads first c held now writes later → CutOff tells old new k reads (opened_leases l e start) c held now writes later
cut_from l e k tells old new reads start first c held now writes later opened s = subst (λ (u : LeaseWorld). CutOff tells old new k reads u c held now writes later) opened s
