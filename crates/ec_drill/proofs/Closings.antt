-- The end of a run: its last restart, and its last line.
use Rattle.std.proofs.Common.{◌≡◌, ◌≤◌, ℕ, Bool, true, false, List, [], ◌∷◌, ◌++◌, Option, Some, None, refl, sym, ap, subst, ◌∙◌, append_assoc, append-nil, Result, Ok, Err}
use Rattle.std.specs.Prelude.{is_none, MatchResult, OnOk}
use Rattle.std.specs.Io.KnownBytes.{Appends}
use Rattle.ec_base.specs.declared.counter.Counter.{Counter}
use Rattle.ec_history.specs.declared.shown.Shown.{Shown}
use Rattle.ec_protocol.specs.World.{Fate, Moving, runs, restart, restart_server, happen}
use Rattle.ec_protocol.specs.Drill.{Ran, Ending, Done, BadLine, TooMany, IsSpent, close, last_restart, is_stopped, joined, last_line, status, ending_of}
use Rattle.ec_protocol.specs.declared.server.Server.{Server}
use Rattle.ec_protocol.specs.declared.world.World.{World}
use Rattle.ec_protocol.specs.declared.world.WorldFault.{WorldFault}
use Rattle.ec_protocol.specs.declared.world.WorldFault.TheVariants as fault
use Rattle.ec_protocol.specs.declared.world.Event.{Event}
use Rattle.ec_protocol.specs.declared.world.Event.TheVariants as event
use Rattle.ec_words.specs.OfText.Lines.{shown_text, text_of}
use Rattle.ec_base.specs.Outside.{Rose}
use Rattle.ec_disk.specs.Disk.{View, Counts}
use Rattle.ec_stands.specs.Stands.{StandsFor}
use Rattle.ec_world.specs.Steps.{IsShown}
use Rattle.ec_world.specs.StepEnds.{FateOf, IsTold, RefusesEvent, IsLeft, as_before, as_behind}
use Rattle.ec_drill.specs.ExitCodes.{code}
use Rattle.ec_drill.specs.Left.{EachLeft}
use Rattle.ec_drill.specs.Steps.{going, IsCause, CutText, CutLines}
use Rattle.ec_drill.specs.Steps.{ending_of as machine_ending}
use Rattle.ec_drill.specs.Closing.{is_spent, restart_end, IsOwn, ran_to, closed, lines_in, Restarted, RestartedInPart, IsClosing, before_end, behind_end, LastTold, Closed, ClosedInPart}
use Rattle.ec_drill.specs.declared.status.Status.{Status}
use Rattle.ec_drill.specs.declared.running.Ending.{Ending as OwnEnding}
use Rattle.ec_drill.specs.declared.writing.Cut.{Cut}
use Rattle.ec_drill.specs.declared.writing.Cut.TheVariants as cut
use Rattle.ec_drill.proofs.Known.{unarmed_runs}
use Rattle.ec_drill.proofs.Writes.{cut_later, written_cause, written_part}
use Rattle.ec_drill.proofs.Texts.{nothing, text_of-append, texts_then, joined-push}
use Rattle.ec_base.proofs.Equalities.{apart-two, not_false}
use Rattle.ec_base.proofs.Lists.{appends_two}

by_server : (w : World) (e : Ending) (pieces : List (List Shown)) → is_spent e ≡ false → closed w e pieces ≡ elim (is_stopped (ran_to w e pieces)) [ true ↦ last_restart (ran_to w e pieces) | false ↦ ran_to w e pieces ]
by_server w (IsSpent n) pieces s = absurd (not_false s)
by_server w Done pieces s = refl
by_server w (BadLine number col) pieces s = refl
by_server w (TooMany n) pieces s = refl

stopped_is : (s : Option Server) → elim s [ None ↦ true | Some v ↦ false ] ≡ is_none s
stopped_is None = refl
stopped_is (Some v) = refl

restart_is : (w : World) → is_none w.server ≡ true → happen runs event.Restart w ≡ restart runs w
restart_is w off = go w.server off
  where
    go : (s : Option Server) → is_none s ≡ true → restart_server runs s w ≡ restart runs w
    go None off = refl
    go (Some v) off = absurd (apart-two off)

stopped_closes : (w : World) (e : Ending) (pieces : List (List Shown)) → is_spent e ≡ false → is_none w.server ≡ true → (m : Moving) → happen runs event.Restart w ≡ m
    → closed w e pieces ≡ elim m.fault [ Some f ↦ record (ran_to w e pieces) { ending = ending_of 0 0 f } | None ↦ record (ran_to w e pieces) { world = m.world; pieces = pieces ++ m.shown ∷ [] } ]
stopped_closes w e pieces s off m is =
    by_server w e pieces s ∙ ap (λ (b : Bool). elim b [ true ↦ last_restart (ran_to w e pieces) | false ↦ ran_to w e pieces ]) (stopped_is w.server ∙ off)
    ∙ ap (λ (m : Moving). elim m.fault [ Some f ↦ record (ran_to w e pieces) { ending = ending_of 0 0 f } | None ↦ record (ran_to w e pieces) { world = m.world; pieces = pieces ++ m.shown ∷ [] } ]) (sym (restart_is w off) ∙ is)

-- nothing is restarted
still : (w : World) (e : Ending) (held : Option (List ℕ)) → ((pieces : List (List Shown)) → closed w e pieces ≡ ran_to w e pieces) → Restarted w w e e held held
still w e held is = record {
  shown = [];
  pieces = λ pieces. ap (λ (r : Ran). joined r.pieces) (is pieces) ∙ sym (append-nil (joined pieces));
  world = λ pieces. ap (λ (r : Ran). r.world) (is pieces);
  ending = λ pieces. ap (λ (r : Ran). r.ending) (is pieces);
  bytes = nothing held;
}

-- the server comes up, and all that it shows is written
pub comes_up : (w v : World) (e : Ending) (shown : List Shown) (held now : Option (List ℕ)) → is_spent e ≡ false → is_none w.server ≡ true → happen runs event.Restart w ≡ going v shown → Appends held now (text_of shown) → Restarted w v e e held now
comes_up w v e shown held now s off is bytes = record {
  shown = shown;
  pieces = λ pieces. ap (λ (r : Ran). joined r.pieces) (stopped_closes w e pieces s off (going v shown) is) ∙ joined-push pieces shown;
  world = λ pieces. ap (λ (r : Ran). r.world) (stopped_closes w e pieces s off (going v shown) is);
  ending = λ pieces. ap (λ (r : Ran). r.ending) (stopped_closes w e pieces s off (going v shown) is);
  bytes = bytes;
}

-- it doesn't, since a counter is spent
pub comes_not : (w : World) (e : Ending) (n : Counter) (held : Option (List ℕ)) → is_spent e ≡ false → is_none w.server ≡ true → (happen runs event.Restart w).fault ≡ Some (fault.Spent n) → Restarted w w e (IsSpent n) held held
comes_not w e n held s off is =
    let by : (pieces : List (List Shown)) → closed w e pieces ≡ record (ran_to w e pieces) { ending = IsSpent n } = λ pieces.
    stopped_closes w e pieces s off (happen runs event.Restart w) refl
    ∙ ap (λ (x : Option WorldFault). elim x [ Some f ↦ record (ran_to w e pieces) { ending = ending_of 0 0 f } | None ↦ record (ran_to w e pieces) { world = (happen runs event.Restart w).world; pieces = pieces ++ (happen runs event.Restart w).shown ∷ [] } ]) is
    in
    record {
      shown = [];
      pieces = λ pieces. ap (λ (r : Ran). joined r.pieces) (by pieces) ∙ sym (append-nil (joined pieces));
      world = λ pieces. ap (λ (r : Ran). r.world) (by pieces);
      ending = λ pieces. ap (λ (r : Ran). r.ending) (by pieces);
      bytes = nothing held;
    }

restarted_front : (w : World) (e : Ending) (pieces : List (List Shown)) (m : Moving) → let r : Ran = elim m.fault [ Some f ↦ record (ran_to w e pieces) { ending = ending_of 0 0 f } | None ↦ record (ran_to w e pieces) { world = m.world; pieces = pieces ++ m.shown ∷ [] } ] in (rest : List Shown) × (joined r.pieces ≡ joined pieces ++ rest)
restarted_front w e pieces m =
    elim m.fault as (λ (x : Option WorldFault). let r : Ran = elim x [ Some f ↦ record (ran_to w e pieces) { ending = ending_of 0 0 f } | None ↦ record (ran_to w e pieces) { world = m.world; pieces = pieces ++ m.shown ∷ [] } ] in (rest : List Shown) × (joined r.pieces ≡ joined pieces ++ rest)) [
      | Some f ↦ ([], sym (append-nil (joined pieces)))
      | None ↦ (m.shown, joined-push pieces m.shown)
    ]

stopping : (w : World) (e : Ending) (pieces : List (List Shown)) → is_spent e ≡ false → (rest : List Shown) × (joined (closed w e pieces).pieces ≡ joined pieces ++ rest)
stopping w e pieces s =
    let by = by_server w e pieces s in
    let at = choose (is_stopped (ran_to w e pieces)) in
    (at.0, ap (λ (r : Ran). joined r.pieces) by ∙ at.1)
  where
    choose : (b : Bool) → let r : Ran = elim b [ true ↦ last_restart (ran_to w e pieces) | false ↦ ran_to w e pieces ] in (rest : List Shown) × (joined r.pieces ≡ joined pieces ++ rest)
    choose true = restarted_front w e pieces (restart runs w)
    choose false = ([], sym (append-nil (joined pieces)))

-- a front of the pieces is one of the closed run's
any_front : (w : World) (e : Ending) (pieces : List (List Shown)) → (rest : List Shown) × (joined (closed w e pieces).pieces ≡ joined pieces ++ rest)
any_front w (IsSpent n) pieces = ([], sym (append-nil (joined pieces)))
any_front w Done pieces = stopping w Done pieces refl
any_front w (BadLine number col) pieces = stopping w (BadLine number col) pieces refl
any_front w (TooMany n) pieces = stopping w (TooMany n) pieces refl

-- what is left where the restart isn't carried out
restart_left : (w : World) (e : Ending) (image : List ℕ) → is_spent e ≡ false → is_none w.server ≡ true → IsLeft w.durable (happen runs event.Restart w) image → IsClosing w e [] image
restart_left w e image s off (as_before h) = before_end refl h
restart_left w e image s off (as_behind none h) = behind_end m.world by h
  where
    m : Moving
    m = happen runs event.Restart w

    by : (pieces : List (List Shown)) → (closed w e pieces).world ≡ m.world
    by pieces =
        ap (λ (r : Ran). r.world) (stopped_closes w e pieces s off m refl)
        ∙ ap (λ (x : Option WorldFault). (elim x as (λ z. Ran) [ Some f ↦ record (ran_to w e pieces) { ending = ending_of 0 0 f } | None ↦ record (ran_to w e pieces) { world = m.world; pieces = pieces ++ m.shown ∷ [] } ]).world) none

-- the run was cut off before anything of the restart was written
pub cut_before : (tells : Type 0) (seen : View) (w : World) (e : Ending) (c : Cut) (held : Option (List ℕ)) (writes writes_after faults faults_after : ℕ) → is_spent e ≡ false → is_none w.server ≡ true → (tells → EachLeft seen (IsLeft w.durable (happen runs event.Restart w)))
    → IsCause c [] writes writes_after faults faults_after → RestartedInPart tells seen w e c held held writes writes_after faults faults_after
cut_before tells seen w e c held writes writes_after faults faults_after s off leaves cause = record {
  shown = [];
  unwritten = [];
  front = any_front w e;
  last = [];
  bytes = nothing held;
  part = refl;
  cause = cause;
  left = λ told image may. restart_left w e image s off (leaves told image may);
}

-- or while its lines were
pub cut_within : (tells : Type 0) (seen : View) (w v : World) (e : Ending) (c : Cut) (lines : List Shown) (held now : Option (List ℕ)) (writes writes_after faults faults_after : ℕ) → is_spent e ≡ false → is_none w.server ≡ true → happen runs event.Restart w ≡ going v lines
    → CutLines c lines held now writes writes_after → (tells → EachLeft seen (λ image. StandsFor image v.durable)) → RestartedInPart tells seen w e c held now writes writes_after faults faults_after
cut_within tells seen w v e c lines held now writes writes_after faults faults_after s off is text stands = record {
  shown = text.written;
  unwritten = text.first ∷ text.more;
  front = λ pieces. (
    [],
    ap (λ (r : Ran). joined r.pieces) (stopped_closes w e pieces s off (going v lines) is) ∙ joined-push pieces lines
        ∙ ap (λ l. joined pieces ++ l) (text.front ∙ ap (λ l. text.written ++ l) (sym (append-nil (text.first ∷ text.more)))),
  );
  last = text.last;
  bytes = text.bytes;
  part = written_part c text.first text.more text.last writes writes_after text.why;
  cause = written_cause c (shown_text text.first) text.last writes writes_after faults faults_after text.why;
  left = λ told image may. behind_end v (λ pieces. ap (λ (r : Ran). r.world) (stopped_closes w e pieces s off (going v lines) is)) (stands told image may);
}

-- a step on a disk that isn't armed runs
pub unarmed_step : (tells : Type 0) (old new : Counts) (e : Event) (w : World) (m : Moving) → old.armed ≡ None → (fate : Fate) × FateOf fate w.durable m.world.durable old new × (IsTold fate tells → happen fate e w ≡ m) × (tells → IsShown fate w.choice old.armed w.shown m.world.shown) → happen runs e w ≡ m
unarmed_step tells old new e w m un (fate, here, is, chosen) = subst (λ (f : Fate). IsTold f tells → happen f e w ≡ m) (unarmed_runs fate w.durable m.world.durable old new un here) is tt

pub disarmed_rose : (old mid new : Counts) → mid ≡ record old { armed = None } → Rose mid.faults new.faults → Rose old.faults new.faults
disarmed_rose old mid new is rose = subst (λ (c : Counts). Rose c.faults new.faults) is rose

-- the restart isn't carried out
pub comes_down : (tells : Type 0) (seen : View) (r : Result OwnEnding Cut) (f : WorldFault) (w v : World) (e : Ending) (P : Type 0) (held : Option (List ℕ)) (writes faults faults_after : ℕ) → r ≡ restart_end f → is_spent e ≡ false → is_none w.server ≡ true
    → RefusesEvent f (happen runs event.Restart w) w v P → (f ≡ fault.DiskFailed → Rose faults faults_after) → (tells → EachLeft seen (IsLeft w.durable (happen runs event.Restart w)))
    → MatchResult r (λ end. Restarted w v e (machine_ending end) held held) (λ c. RestartedInPart tells seen w e c held held writes writes faults faults_after)
comes_down tells seen r f w v e P held writes faults faults_after is s off refused failed leaves =
    subst (λ (x : Result OwnEnding Cut). MatchResult x (λ end. Restarted w v e (machine_ending end) held held) (λ c. RestartedInPart tells seen w e c held held writes writes faults faults_after)) (sym is) (by f refused failed)
  where
    by : (f : WorldFault) → RefusesEvent f (happen runs event.Restart w) w v P → (f ≡ fault.DiskFailed → Rose faults faults_after) → MatchResult (restart_end f) (λ end. Restarted w v e (machine_ending end) held held) (λ c. RestartedInPart tells seen w e c held held writes writes faults faults_after)
    by (fault.Spent n) refused failed = subst (λ (u : World). Restarted w u e (IsSpent n) held held) (sym refused.1) (comes_not w e n held s off refused.0)
    by fault.DiskFailed refused failed = cut_before tells seen w e cut.Disk held writes writes faults faults_after s off leaves (failed refl, refl)
    by (fault.BadDisk place) refused failed = absurd refused
    by fault.NoSuchOp refused failed = cut_before tells seen w e cut.NoMemory held writes writes faults faults_after s off leaves tt
    by fault.NoSuchMsg refused failed = cut_before tells seen w e cut.NoMemory held writes writes faults faults_after s off leaves tt
    by fault.NoMemory refused failed = cut_before tells seen w e cut.NoMemory held writes writes faults faults_after s off leaves tt

-- The last line.

-- there is none
pub nothing_told : (e : Ending) (st : Status) (held : Option (List ℕ)) → last_line e ≡ [] → code st ≡ status e → IsOwn st → LastTold e st held held
nothing_told e st held is number own = record { bytes = subst (λ (l : List Shown). Appends held held (text_of l)) (sym is) (nothing held); number = number; own = own }

-- there is one, and it was written, or a part of it
pub last_told : (r : Result Status Cut) (e : Ending) (line : Shown) (st : Status) (held now : Option (List ℕ)) (writes later : ℕ) → last_line e ≡ line ∷ [] → code st ≡ status e → IsOwn st
    → MatchResult r (λ s. (s ≡ st) × Appends held now (shown_text line)) (λ c. CutText c (shown_text line) held now writes later)
    → MatchResult r (λ s. LastTold e s held now) (λ c. CutLines c (last_line e) held now writes later)
last_told (Ok s) e line st held now writes later is number own told = record {
  bytes = subst (λ (l : List Shown). Appends held now (text_of l)) (sym is) (subst (λ (t : List ℕ). Appends held now t) (sym (append-nil (shown_text line))) told.1);
  number = ap code told.0 ∙ number;
  own = subst IsOwn (sym told.0) own;
}
last_told (Err c) e line st held now writes later is number own told = record { written = []; first = line; more = []; front = is; last = told.last; bytes = told.bytes; why = told.why }

all_closed : (w v : World) (e end : Ending) (st : Status) (held mid now : Option (List ℕ)) → Restarted w v e end held mid → LastTold end st mid now → Closed w v e st held now
all_closed w v e end st held mid now r told = record {
  shown = r.shown ++ last_line end;
  lines = λ pieces.
      ap (λ l. l ++ last_line (closed w e pieces).ending) (r.pieces pieces) ∙ ap (λ x. (joined pieces ++ r.shown) ++ last_line x) (r.ending pieces)
      ∙ append_assoc (joined pieces) r.shown (last_line end);
  world = r.world;
  number = λ pieces. told.number ∙ ap status (sym (r.ending pieces));
  own = told.own;
  bytes = appends_two held mid now _ _ _ r.bytes told.bytes (sym (text_of-append r.shown (last_line end)));
}

last_cut : (tells : Type 0) (seen : View) (w v : World) (e end : Ending) (c : Cut) (held mid now : Option (List ℕ)) (writes writes_mid writes_after faults faults_after : ℕ) → Restarted w v e end held mid
    → writes ≤ writes_mid → CutLines c (last_line end) mid now writes_mid writes_after → (tells → EachLeft seen (λ image. StandsFor image v.durable)) → ClosedInPart tells seen w e c held now writes writes_after faults faults_after
last_cut tells seen w v e end c held mid now writes writes_mid writes_after faults faults_after r le text stands = record {
  shown = r.shown ++ text.written;
  unwritten = text.first ∷ text.more;
  front = λ pieces. (
    [],
    ap (λ l. l ++ last_line (closed w e pieces).ending) (r.pieces pieces) ∙ ap (λ x. (joined pieces ++ r.shown) ++ last_line x) (r.ending pieces)
        ∙ append_assoc (joined pieces) r.shown (last_line end)
        ∙ ap (λ l. joined pieces ++ (r.shown ++ l)) (text.front ∙ ap (λ l. text.written ++ l) (sym (append-nil (text.first ∷ text.more))))
        ∙ ap (λ l. joined pieces ++ l) (sym (append_assoc r.shown text.written ((text.first ∷ text.more) ++ []))),
  );
  last = text.last;
  bytes = appends_two held mid now _ _ _ r.bytes text.bytes (texts_then r.shown text.written text.last);
  part = written_part c text.first text.more text.last writes_mid writes_after text.why;
  cause = written_cause c (shown_text text.first) text.last writes writes_after faults faults_after (cut_later c (shown_text text.first) text.last writes writes_mid writes_after le text.why);
  left = λ told image may. behind_end v r.world (stands told image may);
}

-- behind a restart
pub tells_last : (tells : Type 0) (seen : View) (r : Result Status Cut) (w v : World) (e end : Ending) (held mid now : Option (List ℕ)) (writes writes_mid writes_after faults faults_after : ℕ) → Restarted w v e end held mid → writes ≤ writes_mid
    → MatchResult r (λ st. LastTold end st mid now) (λ c. CutLines c (last_line end) mid now writes_mid writes_after) → (tells → EachLeft seen (λ image. StandsFor image v.durable))
    → MatchResult r (λ st. Closed w v e st held now) (λ c. ClosedInPart tells seen w e c held now writes writes_after faults faults_after)
tells_last tells seen (Ok st) w v e end held mid now writes writes_mid writes_after faults faults_after done le told stands = all_closed w v e end st held mid now done told
tells_last tells seen (Err c) w v e end held mid now writes writes_mid writes_after faults faults_after done le told stands = last_cut tells seen w v e end c held mid now writes writes_mid writes_after faults faults_after done le told stands

pub part_closed : (tells : Type 0) (seen : View) (w : World) (e : Ending) (c : Cut) (held now : Option (List ℕ)) (writes writes_after faults faults_after : ℕ) → RestartedInPart tells seen w e c held now writes writes_after faults faults_after → ClosedInPart tells seen w e c held now writes writes_after faults faults_after
part_closed tells seen w e c held now writes writes_after faults faults_after r = record {
  shown = r.shown;
  unwritten = r.unwritten;
  front = λ pieces.
      let at = r.front pieces in (
        at.0 ++ last_line (closed w e pieces).ending,
        ap (λ l. l ++ last_line (closed w e pieces).ending) at.1
            ∙ append_assoc (joined pieces) (r.shown ++ (r.unwritten ++ at.0)) (last_line (closed w e pieces).ending)
            ∙ ap (λ l. joined pieces ++ l) (append_assoc r.shown (r.unwritten ++ at.0) (last_line (closed w e pieces).ending) ∙ ap (λ l. r.shown ++ l) (append_assoc r.unwritten at.0 (last_line (closed w e pieces).ending))),
      );
  last = r.last;
  bytes = r.bytes;
  part = r.part;
  cause = r.cause;
  left = r.left;
}

-- the lines of a run stand first among all of the closed one
pub any_closed : (r : Ran) → (rest : List Shown) × (lines_in (close r.ending r) ≡ joined r.pieces ++ rest)
any_closed r =
    let at = any_front r.world r.ending r.pieces in
    (at.0 ++ last_line (close r.ending r).ending, ap (λ l. l ++ last_line (close r.ending r).ending) at.1 ∙ append_assoc (joined r.pieces) at.0 (last_line (close r.ending r).ending))

-- what holds anyhow holds where all was written
pub any_ok : (r : Result Status Cut) (P : Type 0) → P → OnOk r P
any_ok (Ok st) P h = h
any_ok (Err c) P h = tt
