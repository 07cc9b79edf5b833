-- How a drill ends: a run on a world that was opened, and what it makes of the whole.
use Rattle.std.proofs.Common.{◌≡◌, ◌⊎◌, ◌≤◌, ℕ, Bool, List, [], ◌∷◌, ◌++◌, Option, None, Result, Ok, Err, MatchResult, refl, sym, ap, subst, ◌∙◌, append_assoc, append-nil, inl, inr}
use Rattle.std.specs.Io.KnownBytes.{Appends}
use Rattle.ec_base.specs.Outside.{Rose}
use Rattle.ec_base.specs.declared.counter.Counter.{Counter}
use Rattle.ec_disk.specs.Disk.{View, Counts}
use Rattle.ec_history.specs.declared.shown.Shown.{Shown}
use Rattle.ec_history.specs.declared.shown.Shown.TheVariants.{Limit, DiskBad, Spent}
use Rattle.ec_history.specs.declared.shown.LimitName.{LimitName}
use Rattle.ec_durable.specs.declared.state.Durable.{Durable}
use Rattle.ec_protocol.specs.World.{open_world}
use Rattle.ec_protocol.specs.Drill.{Read, Ran, Ending, run_from, bound, joined, drill_in, status as status_in, close}
use Rattle.ec_protocol.specs.declared.world.World.{World}
use Rattle.ec_protocol.specs.declared.world.WorldFault.{WorldFault}
use Rattle.ec_protocol.specs.declared.world.WorldFault.TheVariants as fault
use Rattle.ec_words.specs.OfText.Lines.{shown_text}
use Rattle.ec_world.specs.declared.world.World.{World as Opened}
use Rattle.ec_world.specs.Laws.{in_step_stands}
use Rattle.ec_world.specs.Steps.{Opens}
use Rattle.ec_world.specs.StepEnds.{Unopened}
use Rattle.ec_world.specs.Worlds.{view_of, IsInStep}
use Rattle.ec_drill.specs.Cuts.{IsCutFront}
use Rattle.ec_drill.specs.Arms.{RunArms, any_arm}
use Rattle.ec_drill.specs.ArmedSteps.{heard}
use Rattle.ec_drill.specs.Fates.{IsKnown}
use Rattle.ec_drill.specs.Left.{behind_lines, at_end, IsOfMoment, LeavesOf}
use Rattle.ec_drill.specs.Steps.{IsLater, Ended, IsCause, CutOff}
use Rattle.ec_drill.specs.Closing.{closed, lines_in, IsOwn, IsClosing, before_end, behind_end, Closed, ClosedInPart}
use Rattle.ec_drill.specs.Drill.{Outside, HoldsState, end_of, IsGiven, RanWhole, RanInPart, Unbegun, over, bad, RefusedInPart, IsOver, IsDiskUntouched, IsToldAll, Drilled}
use Rattle.ec_drill.specs.ExitCodes.{code}
use Rattle.ec_drill.specs.Starts.{status_of, RefusedWith, TellsUnopened, WholeOn, PartOn, DrilledOn}
use Rattle.ec_drill.specs.declared.status.Status.{Status}
use Rattle.ec_drill.specs.declared.status.Status.TheVariants as status
use Rattle.ec_drill.specs.declared.writing.Cut.{Cut}
use Rattle.ec_drill.specs.declared.writing.Cut.TheVariants as cut
use Rattle.ec_drill.proofs.Known.{known_first, known_later, are_to}
use Rattle.ec_drill.proofs.Heard.{heard_known, heard_none, heard_stops}
use Rattle.ec_drill.proofs.Texts.{text_of-append, texts_then}
use Rattle.ec_drill.proofs.Closings.{any_closed}
use Rattle.ec_base.proofs.OutsideLemmas.{rose_later}
use Rattle.ec_base.proofs.Lists.{appends_two}

-- A run that came to its end, and was closed.

module _ (tells : Type 0) (a b c : ℕ) (armed : Option ℕ) (reads : List Read) (start : World) (e : Ending) (w : World) (held mid now : Option (List ℕ)) (s : Ended tells a b (bound reads) armed reads start e w held mid) (le : b ≤ c) where
  is : IsKnown tells a c → run_from (bound reads) 1 reads s.fates start ≡ record { world = w; pieces = s.pieces; ending = e }
  is known = s.run (known_first tells a b c le known)

  -- and the disk stands for the state of the world that it came to
  pub whole : (st : Status) (v : World) (seen : View) → Closed w v e st mid now → (tells → HoldsState seen v.durable) → WholeOn tells a c armed seen reads start (code st) held now
  whole st v seen done stands = record {
    fates = s.fates;
    are = are_to s.fates a b c le s.are;
    followed = λ known. s.arms (known_first tells a b c le known);
    shown = joined s.pieces ++ done.shown;
    lines = λ known. ap (λ (r : Ran). lines_in (close r.ending r)) (is known) ∙ done.lines s.pieces;
    status = λ known. ap (λ (r : Ran). status_in (close r.ending r).ending) (is known) ∙ sym (done.number s.pieces);
    bytes = appends_two held mid now _ _ _ s.bytes done.bytes (sym (text_of-append (joined s.pieces) done.shown));
    disk = λ told. subst (λ (u : World). HoldsState seen u.durable) (sym (ap (λ (r : Ran). (close r.ending r).world) (is (inl told)) ∙ done.world s.pieces)) (stands told);
  }

  -- what is left where it was cut off in its end
  left_at : (shown unwritten rest : List Shown) (image : List ℕ) → tells → lines_in (closed w e s.pieces) ≡ joined s.pieces ++ (shown ++ (unwritten ++ rest)) → IsClosing w e shown image → IsOfMoment (bound reads) reads s.fates start (joined s.pieces ++ shown) image
  left_at shown unwritten rest image told front (before_end none h) = record {
    world = w;
    shown = joined s.pieces;
    moment = behind_lines reads [] (append-nil reads) (run_from (bound reads) 1 reads s.fates start) refl (ap (λ (r : Ran). r.world) (is (inl told))) (ap (λ (r : Ran). joined r.pieces) (is (inl told)));
    rest = [];
    holds = sym (ap (λ l. (joined s.pieces ++ l) ++ []) none ∙ append-nil (joined s.pieces ++ []) ∙ append-nil (joined s.pieces));
    stands = h;
  }
  left_at shown unwritten rest image told front (behind_end v at h) = record {
    world = v;
    shown = lines_in (closed w e s.pieces);
    moment = at_end (run_from (bound reads) 1 reads s.fates start) refl (ap (λ (r : Ran). (close r.ending r).world) (is (inl told)) ∙ at s.pieces) (ap (λ (r : Ran). lines_in (close r.ending r)) (is (inl told)));
    rest = unwritten ++ rest;
    holds = front ∙ sym (append_assoc (joined s.pieces) shown (unwritten ++ rest));
    stands = h;
  }

  pub whole_part : (seen : View) (why : Cut) (writes writes_after faults faults_after : ℕ) → (part : ClosedInPart tells seen w e why mid now writes writes_after faults faults_after) → PartOn tells a c seen reads start part.last held now
  whole_part seen why writes writes_after faults faults_after part = record {
    fates = s.fates;
    are = are_to s.fates a b c le s.are;
    shown = joined s.pieces ++ part.shown;
    unwritten = part.unwritten;
    front = λ known.
        let at = part.front s.pieces in
        (at.0, ap (λ (r : Ran). lines_in (close r.ending r)) (is known) ∙ at.1 ∙ sym (append_assoc (joined s.pieces) part.shown (part.unwritten ++ at.0)));
    bytes = appends_two held mid now _ _ _ s.bytes part.bytes (texts_then (joined s.pieces) part.shown part.last);
    part = part.part;
    left = λ told image may. let at = part.front s.pieces in left_at part.shown part.unwritten at.0 image told at.1 (part.left told image may);
  }

-- the disk of a world that is in step with it
pub holds_state : (tells : Type 0) (now : View) (w : Opened) → (tells → now.may_leave now.gives) → IsInStep tells now w → tells → HoldsState now (view_of w).durable
holds_state tells now w gives in_step told = record { gives = in_step_stands tells now w in_step told now.gives (gives told); crash = in_step_stands tells now w in_step told }

-- the statuses of such a run
pub by_status : (st : Status) (tells : Type 0) (old new : Counts) (seen : View) (reads : List Read) (start : World) (held now : Option (List ℕ)) (writes later : ℕ) → IsOwn st → WholeOn tells old.stops new.stops old.armed seen reads start (code st) held now → DrilledOn st tells old new seen reads start held now writes later
by_status status.Done tells old new seen reads start held now writes later own r = r
by_status status.BadLine tells old new seen reads start held now writes later own r = r
by_status status.Limit tells old new seen reads start held now writes later own r = r
by_status status.Spent tells old new seen reads start held now writes later own r = r
by_status status.Usage tells old new seen reads start held now writes later own r = absurd own
by_status status.SourceFault tells old new seen reads start held now writes later own r = absurd own
by_status status.SinkFault tells old new seen reads start held now writes later own r = absurd own
by_status status.DiskFault tells old new seen reads start held now writes later own r = absurd own
by_status status.BadDisk tells old new seen reads start held now writes later own r = absurd own
by_status status.NoMemory tells old new seen reads start held now writes later own r = absurd own

-- a run that was cut off before its end
pub cut_part : (tells : Type 0) (a b : ℕ) (seen : View) (reads : List Read) (start : World) (c : Cut) (held now : Option (List ℕ)) (writes writes_after faults faults_after : ℕ) → (s : CutOff tells a b seen (bound reads) reads start c held now writes writes_after faults faults_after) → PartOn tells a b seen reads start s.last held now
cut_part tells a b seen reads start c held now writes writes_after faults faults_after s =
    let p = s.part in
    record {
      fates = p.fates;
      are = p.are;
      shown = p.shown;
      unwritten = p.unwritten;
      front = λ known.
          let at = p.front known in
          let more = any_closed (run_from (bound reads) 1 reads p.fates start) in (
            at.0 ++ more.0,
            more.1 ∙ ap (λ l. l ++ more.0) at.1 ∙ append_assoc p.shown (p.unwritten ++ at.0) more.0 ∙ ap (λ l. p.shown ++ l) (append_assoc p.unwritten at.0 more.0),
          );
      bytes = p.bytes;
      part = p.part;
      left = p.left;
    }

-- what was cut off, by its cause
pub by_cause : (c : Cut) (tells : Type 0) (old new : Counts) (seen : View) (reads : List Read) (start : World) (last : List ℕ) (held now : Option (List ℕ)) (writes later : ℕ) → IsCause c last writes later old.faults new.faults → PartOn tells old.stops new.stops seen reads start last held now → DrilledOn (status_of c) tells old new seen reads start held now writes later
by_cause cut.Disk tells old new seen reads start last held now writes later cause part = (cause.0, subst (λ (l : List ℕ). PartOn tells old.stops new.stops seen reads start l held now) cause.1 part)
by_cause cut.Sink tells old new seen reads start last held now writes later cause part = (cause, (last, part))
by_cause cut.NoMemory tells old new seen reads start last held now writes later cause part = (last, part)

-- a cause in a later part of a run
pub cause_from : (c : Cut) (last : List ℕ) (writes writes_now writes_after faults faults_now faults_after : ℕ) → writes ≤ writes_now → faults ≤ faults_now → IsCause c last writes_now writes_after faults_now faults_after → IsCause c last writes writes_after faults faults_after
cause_from cut.Disk last writes writes_now writes_after faults faults_now faults_after le later cause = (rose_later faults faults_now faults_after later cause.0, cause.1)
cause_from cut.Sink last writes writes_now writes_after faults faults_now faults_after le later cause = rose_later writes writes_now writes_after le cause
cause_from cut.NoMemory last writes writes_now writes_after faults faults_now faults_after le later cause = tt

-- The whole of a drill, behind the opening of its disk.

one_world : (start v : World) → ◌≡◌ {A = Result World Counter} (Ok start) (Ok v) → start ≡ v
one_world start v e = cc

module _ (most : ℕ) (reads : List Read) (state : Durable) (start : World) (w : Outside) (given : IsGiven w.source reads) (opens : Opens w.store.tells w.store.disk.gives most state) (opened : open_world state ≡ Ok start) (mid : Counts) (le : w.store.counts.stops ≤ mid.stops) (faults : w.store.counts.faults ≤ mid.faults) (unarmed : mid.armed ≡ None) where
  abbrev pub may_stop : Bool
  may_stop = any_arm reads

  known : IsToldAll w reads → IsKnown w.store.tells (heard may_stop mid).stops (heard may_stop w.store.counts_after).stops
  known (inl k) = heard_known may_stop w.store.tells mid w.store.counts_after (known_later w.store.tells w.store.counts.stops mid.stops w.store.counts_after.stops le k)
  known (inr none) = heard_none may_stop none w.store.tells mid w.store.counts_after

  ran : (number : ℕ) → WholeOn w.store.tells (heard may_stop mid).stops (heard may_stop w.store.counts_after).stops mid.armed w.store.disk_after reads start number w.sink.bytes w.sink.bytes_after → RanWhole most number w
  ran number r = record {
    reads = reads;
    given = given;
    state = state;
    opens = opens;
    fates = r.fates;
    stopped = heard_stops may_stop r.fates w.store.counts mid w.store.counts_after le r.are;
    followed = λ k v at.
        subst (λ (x : World). RunArms (bound reads) 1 reads r.fates x None) (one_world start v (sym opened ∙ at)) (subst (λ (a : Option ℕ). RunArms (bound reads) 1 reads r.fates start a) unarmed (r.followed (known k)));
    shown = r.shown;
    lines = λ k. ap (λ (x : Result World Counter). (drill_in reads r.fates x).0) opened ∙ r.lines (known k);
    status = λ k. ap (λ (x : Result World Counter). (drill_in reads r.fates x).1) opened ∙ r.status (known k);
    bytes = r.bytes;
    disk = λ told. subst (λ (x : Result World Counter). HoldsState w.store.disk_after (elim x [ Err n ↦ state | Ok v ↦ (end_of reads r.fates v).durable ])) (sym opened) (r.disk told);
  }

  part : (last : List ℕ) → PartOn w.store.tells (heard may_stop mid).stops (heard may_stop w.store.counts_after).stops w.store.disk_after reads start last w.sink.bytes w.sink.bytes_after → RanInPart most w last
  part last r = record {
    reads = reads;
    given = given;
    state = state;
    opens = opens;
    fates = r.fates;
    stopped = heard_stops may_stop r.fates w.store.counts mid w.store.counts_after le r.are;
    shown = r.shown;
    unwritten = r.unwritten;
    front = λ k. let at = r.front (known k) in (at.0, ap (λ (x : Result World Counter). (drill_in reads r.fates x).0) opened ∙ at.1);
    bytes = r.bytes;
    part = r.part;
    left = λ told. subst (λ (x : Result World Counter). LeavesOf w.store.disk_after reads r.fates state x r.shown) (sym opened) (r.left told);
  }

  pub drilled_on : (st : Status) → DrilledOn st w.store.tells (heard may_stop mid) (heard may_stop w.store.counts_after) w.store.disk_after reads start w.sink.bytes w.sink.bytes_after w.sink.faults w.sink.faults_after → Drilled most st w
  drilled_on status.Done r = ran 0 r
  drilled_on status.BadLine r = ran 3 r
  drilled_on status.Limit r = inr (ran 11 r)
  drilled_on status.Spent r = ran 15 r
  drilled_on status.SinkFault r = (r.0, inl (r.1.0, part r.1.0 r.1.1))
  drilled_on status.DiskFault r = (rose_later w.store.counts.faults mid.faults w.store.counts_after.faults faults r.0, inl (part [] r.1))
  drilled_on status.NoMemory r = inl (inl (r.0, part r.0 r.1))
  drilled_on status.Usage r = absurd r
  drilled_on status.SourceFault r = absurd r
  drilled_on status.BadDisk r = absurd r

-- Nothing was carried out.

refused_part : (w : Outside) (line : Shown) → Unbegun w line → (last : List ℕ) → (last ≡ []) ⊎ IsCutFront (shown_text line) last → Appends w.sink.bytes w.sink.bytes_after last → RefusedInPart w
refused_part w line why last part bytes = record { line = line; why = why; last = last; part = part; bytes = bytes }

pub refused : (most : ℕ) (w : Outside) (line : Shown) (st result : Status) → Unbegun w line → (Appends w.sink.bytes w.sink.bytes_after (shown_text line) → Drilled most st w) → RefusedWith line st result w.sink.bytes w.sink.bytes_after w.sink.faults w.sink.faults_after → Drilled most result w
refused most w line st result why told (inl (is, bytes)) = subst (λ (s : Status). Drilled most s w) (sym is) (told bytes)
refused most w line st result why told (inr (cut.Disk, is, text)) = absurd text.why
refused most w line st result why told (inr (cut.Sink, is, text)) = subst (λ (s : Status). Drilled most s w) (sym is) (text.why.0, inr (refused_part w line why text.last (inr text.why.1) text.bytes))
refused most w line st result why told (inr (cut.NoMemory, is, text)) = subst (λ (s : Status). Drilled most s w) (sym is) (inl (inr (refused_part w line why text.last text.why text.bytes)))

-- The opening would spend a counter.

spent_opens : (n : Counter) (v : World) → ◌≡◌ {A = Result World Counter} (Err n) (Ok v) → ⊥
spent_opens n v e = cc

spent_part : (most : ℕ) (reads : List Read) (state : Durable) (n : Counter) (w : Outside) → IsGiven w.source reads → Opens w.store.tells w.store.disk.gives most state → open_world state ≡ Err n → (w.store.tells → HoldsState w.store.disk_after state) → (last : List ℕ) → (last ≡ []) ⊎ IsCutFront (shown_text (Spent n)) last → Appends w.sink.bytes w.sink.bytes_after last → RanInPart most w last
spent_part most reads state n w given opens e stands last part bytes = record {
  reads = reads;
  given = given;
  state = state;
  opens = opens;
  fates = [];
  stopped = inl tt;
  shown = [];
  unwritten = Spent n ∷ [];
  front = λ known. ([], ap (λ (x : Result World Counter). (drill_in reads [] x).0) e);
  bytes = bytes;
  part = part;
  left = λ told. subst (λ (x : Result World Counter). LeavesOf w.store.disk_after reads [] state x []) (sym e) (stands told).crash;
}

pub spent_at_once : (most : ℕ) (reads : List Read) (state : Durable) (n : Counter) (w : Outside) (result : Status) → IsGiven w.source reads → Opens w.store.tells w.store.disk.gives most state → open_world state ≡ Err n → (w.store.tells → HoldsState w.store.disk_after state) → RefusedWith (Spent n) status.Spent result w.sink.bytes w.sink.bytes_after w.sink.faults w.sink.faults_after → Drilled most result w
spent_at_once most reads state n w result given opens e stands (inl (is, bytes)) = subst (λ (s : Status). Drilled most s w) (sym is) (record {
  reads = reads;
  given = given;
  state = state;
  opens = opens;
  fates = [];
  stopped = inl tt;
  followed = λ known v at. absurd (spent_opens n v (sym e ∙ at));
  shown = Spent n ∷ [];
  lines = λ known. ap (λ (x : Result World Counter). (drill_in reads [] x).0) e;
  status = λ known. ap (λ (x : Result World Counter). (drill_in reads [] x).1) e;
  bytes = subst (λ (t : List ℕ). Appends w.sink.bytes w.sink.bytes_after t) (sym (append-nil (shown_text (Spent n)))) bytes;
  disk = λ told. subst (λ (x : Result World Counter). HoldsState w.store.disk_after (elim x [ Err n ↦ state | Ok v ↦ (end_of reads [] v).durable ])) (sym e) (stands told);
})
spent_at_once most reads state n w result given opens e stands (inr (cut.Disk, is, text)) = absurd text.why
spent_at_once most reads state n w result given opens e stands (inr (cut.Sink, is, text)) = subst (λ (s : Status). Drilled most s w) (sym is) (text.why.0, inl (text.last, spent_part most reads state n w given opens e stands text.last (inr text.why.1) text.bytes))
spent_at_once most reads state n w result given opens e stands (inr (cut.NoMemory, is, text)) = subst (λ (s : Status). Drilled most s w) (sym is) (inl (inl (text.last, spent_part most reads state n w given opens e stands text.last text.why text.bytes)))

-- A run and its end, by how it was closed. `k` is the run's bound.

pub closes_with : (r : Result Status Cut) (result : Status) (tells : Type 0) (old mid new : Counts) (seen : View) (k : ℕ) (reads : List Read) (start : World) (e : Ending) (w v : World) (held held_mid now : Option (List ℕ)) (writes writes_mid later : ℕ)
    → MatchResult r (λ st. result ≡ st) (λ c. result ≡ status_of c) → k ≡ bound reads → Ended tells old.stops mid.stops k old.armed reads start e w held held_mid → IsLater old mid ⊥ → IsLater mid new ⊥ → writes ≤ writes_mid
    → MatchResult r (λ st. Closed w v e st held_mid now) (λ c. ClosedInPart tells seen w e c held_mid now writes_mid later mid.faults new.faults) → MatchResult r (λ st. tells → HoldsState seen v.durable) (λ c. Unit {0})
    → DrilledOn result tells old new seen reads start held now writes later
closes_with (Ok st) result tells old mid new seen k reads start e w v held held_mid now writes writes_mid later is same s first second le done stands =
    let ended = subst (λ (n : ℕ). Ended tells old.stops mid.stops n old.armed reads start e w held held_mid) same s in
    subst (λ (x : Status). DrilledOn x tells old new seen reads start held now writes later) (sym is)
    (by_status st tells old new seen reads start held now writes later done.own (whole tells old.stops mid.stops new.stops old.armed reads start e w held held_mid now ended second.stops st v seen done stands))
closes_with (Err c) result tells old mid new seen k reads start e w v held held_mid now writes writes_mid later is same s first second le part stands =
    let ended = subst (λ (n : ℕ). Ended tells old.stops mid.stops n old.armed reads start e w held held_mid) same s in
    subst (λ (x : Status). DrilledOn x tells old new seen reads start held now writes later) (sym is)
    (by_cause c tells old new seen reads start part.last held now writes later (cause_from c part.last writes writes_mid later old.faults mid.faults new.faults le first.faults part.cause)
    (whole_part tells old.stops mid.stops new.stops old.armed reads start e w held held_mid now ended second.stops seen c writes_mid later mid.faults new.faults part))

pub cut_short : (c : Cut) (result : Status) (tells : Type 0) (old new : Counts) (seen : View) (k : ℕ) (reads : List Read) (start : World) (held now : Option (List ℕ)) (writes later : ℕ)
    → result ≡ status_of c → k ≡ bound reads → CutOff tells old.stops new.stops seen k reads start c held now writes later old.faults new.faults → DrilledOn result tells old new seen reads start held now writes later
cut_short c result tells old new seen k reads start held now writes later is same s =
    let off = subst (λ (n : ℕ). CutOff tells old.stops new.stops seen n reads start c held now writes later old.faults new.faults) same s in
    subst (λ (x : Status). DrilledOn x tells old new seen reads start held now writes later) (sym is)
    (by_cause c tells old new seen reads start off.last held now writes later off.cause (cut_part tells old.stops new.stops seen reads start c held now writes later old.faults new.faults off))

-- The disk wasn't opened.
pub not_opened : (f : WorldFault) (most : ℕ) (reads : List Read) (result : Status) (w : Outside) → IsGiven w.source reads → Unopened f w.store.tells w.store.disk.gives w.store.disk_after.gives w.store.disk_after.may_leave most
    → (w.store.tells → w.store.disk_after.may_leave w.store.disk_after.gives) → (f ≡ fault.DiskFailed → Rose w.store.counts.faults w.store.counts_after.faults) → TellsUnopened f result w.sink.bytes w.sink.bytes_after w.sink.faults w.sink.faults_after → Drilled most result w
not_opened (fault.BadDisk place) most reads result w given unopened gives failed told = refused most w (DiskBad place) status.BadDisk result (bad place reads given unopened) (λ bytes. (place, reads, given, unopened, bytes)) told
not_opened (fault.Spent n) most reads result w given unopened gives failed told =
    spent_at_once most reads unopened.0 n w result given unopened.1 unopened.2 (λ tells. record { gives = unopened.3 tells w.store.disk_after.gives (gives tells); crash = unopened.3 tells }) told
not_opened fault.DiskFailed most reads result w given unopened gives failed told = subst (λ (s : Status). Drilled most s w) (sym told.0) (failed refl, inr told.1)
not_opened fault.NoSuchOp most reads result w given unopened gives failed told = absurd unopened
not_opened fault.NoSuchMsg most reads result w given unopened gives failed told = absurd unopened
not_opened fault.NoMemory most reads result w given unopened gives failed told = subst (λ (s : Status). Drilled most s w) (sym told.0) (inr told.1)

-- The script isn't within the limits.
pub over_limit : (most : ℕ) (name : LimitName) (n : ℕ) (result : Status) (w : Outside) → IsOver w name n → IsDiskUntouched w → RefusedWith (Limit name n) status.Limit result w.sink.bytes w.sink.bytes_after w.sink.faults w.sink.faults_after → Drilled most result w
over_limit most name n result w over_it still told = refused most w (Limit name n) status.Limit result (over name n over_it still) (λ bytes. inl (name, n, over_it, still, bytes)) told
