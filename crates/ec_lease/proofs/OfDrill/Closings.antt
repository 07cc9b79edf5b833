-- The end of a run: its last restart, and its last line.
use Rattle.std.proofs.Common.{◌≡◌, ◌≤◌, ℕ, Bool, true, false, List, [], ◌∷◌, ◌++◌, Option, Some, None, Result, Ok, Err, refl, sym, ap, subst, ◌∙◌, append_assoc, append-nil, map, inl, inr, arith}
use Rattle.std.specs.Prelude.{is_none, IsSome, MatchResult, ⊤}
use Rattle.std.specs.Io.KnownBytes.{Appends}
use Rattle.ec_base.proofs.Lists.{appends_two}
use Rattle.ec_base.specs.Outside.{Rose}
use Rattle.ec_base.specs.declared.counter.Counter.{Counter}
use Rattle.ec_disk.specs.Disk.{Counts}
use Rattle.ec_history.specs.declared.shown.Shown.{Shown}
use Rattle.ec_words.specs.OfText.Lines.{shown_text}
use Rattle.ec_durable.specs.declared.state.Durable.{Durable}
use Rattle.ec_protocol.specs.World.{Fate, runs, stops_without, stops_with}
use Rattle.ec_protocol.specs.Drill.{Ending, Done, BadLine, TooMany, IsSpent, last_line, status}
use Rattle.ec_protocol.specs.declared.server.Server.{Server}
use Rattle.ec_protocol.specs.declared.world.Event.TheVariants.{Restart}
use Rattle.ec_protocol.specs.declared.world.World.{World}
use Rattle.ec_protocol.specs.declared.world.WorldFault.TheVariants as world_fault
use Rattle.ec_world.specs.StepEnds.{FateOf, IsTold}
use Rattle.ec_lease_machine.specs.OfWords.Text.{lease_texts}
use Rattle.ec_lease_machine.specs.Drill.{LeaseRan, is_stopped, joined_lease, last_restart, lease_ending}
use Rattle.ec_lease_machine.specs.Leases.{LeaseMoving, step}
use Rattle.ec_lease_machine.specs.declared.world.LeaseEvent.TheVariants as event
use Rattle.ec_lease_machine.specs.declared.world.LeaseFault.{LeaseFault}
use Rattle.ec_lease_machine.specs.declared.world.LeaseFault.TheVariants as fault
use Rattle.ec_lease_machine.specs.declared.world.LeaseShown.{LeaseShown}
use Rattle.ec_lease_machine.specs.declared.world.LeaseShown.TheVariants.{Line}
use Rattle.ec_lease_machine.specs.declared.world.LeaseWorld.{LeaseWorld}
use Rattle.ec_lease.specs.Steps.{LeaseFated, RefusesLease}
use Rattle.ec_lease.specs.OfDrill.Steps.{come, ran_to}
use Rattle.ec_lease.specs.OfDrill.Steps.{own_ending as machine_ending}
use Rattle.ec_lease.specs.OfDrill.Writing.{CutLines, CutText, IsCause}
use Rattle.ec_lease.specs.OfDrill.Closing.{LeaseClosed, EndCut, LastTold, Numbers, Restarted, closed, is_spent, lines_in, restart_end}
use Rattle.ec_lease.specs.declared.drill.running.Ending.{Ending as OwnEnding}
use Rattle.ec_lease.specs.declared.drill.status.Status.{Status}
use Rattle.ec_lease.specs.declared.drill.writing.Cut.{Cut}
use Rattle.ec_lease.specs.declared.drill.writing.Cut.TheVariants as cut
use Rattle.ec_lease.proofs.OfDrill.Writes.{front_of, front_within, joined-more, joined-one, no_front, none_written, texts-append}

by_server : (x : LeaseWorld) (e : Ending) (pieces : List (List LeaseShown)) → is_spent e ≡ false → closed x e pieces ≡ elim (is_stopped (ran_to x e pieces)) [ true ↦ last_restart (ran_to x e pieces) | false ↦ ran_to x e pieces ]
by_server x (IsSpent n) pieces s = absurd (apart s)
  where
    apart : true ≡ false → ⊥
    apart e = cc
by_server x Done pieces s = refl
by_server x (BadLine number col) pieces s = refl
by_server x (TooMany n) pieces s = refl

spent_closed : (x : LeaseWorld) (e : Ending) (pieces : List (List LeaseShown)) → is_spent e ≡ true → closed x e pieces ≡ ran_to x e pieces
spent_closed x (IsSpent n) pieces s = refl
spent_closed x Done pieces s = absurd (apart s)
  where
    apart : false ≡ true → ⊥
    apart e = cc
spent_closed x (BadLine number col) pieces s = absurd (apart s)
  where
    apart : false ≡ true → ⊥
    apart e = cc
spent_closed x (TooMany n) pieces s = absurd (apart s)
  where
    apart : false ≡ true → ⊥
    apart e = cc

by_stop : (x : LeaseWorld) (e : Ending) (pieces : List (List LeaseShown)) (b : Bool) → is_spent e ≡ false → is_none x.world.server ≡ b → closed x e pieces ≡ elim b [ true ↦ last_restart (ran_to x e pieces) | false ↦ ran_to x e pieces ]
by_stop x e pieces b s is = by_server x e pieces s ∙ ap (λ (z : Bool). elim z [ true ↦ last_restart (ran_to x e pieces) | false ↦ ran_to x e pieces ]) (by x.world.server ∙ is)
  where
    by : (o : Option Server) → elim o [ None ↦ true | Some v ↦ false ] ≡ is_none o
    by None = refl
    by (Some v) = refl

-- the restart's step, on a disk that isn't armed
abbrev pub restarts : LeaseWorld → LeaseMoving
restarts x = step runs (event.World Restart) x

behind_restart : LeaseWorld → Ending → List (List LeaseShown) → LeaseMoving → LeaseRan
behind_restart x e pieces m = elim m.fault [ Some f ↦ record (ran_to x e pieces) { ending = lease_ending 0 0 f } | None ↦ record (ran_to x e pieces) { world = m.world; pieces = pieces ++ m.shown ∷ [] } ]

stopped_closes : (x : LeaseWorld) (e : Ending) (pieces : List (List LeaseShown)) → is_spent e ≡ false → is_none x.world.server ≡ true → closed x e pieces ≡ behind_restart x e pieces (restarts x)
unfolding behind_restart
stopped_closes x e pieces s off = by_stop x e pieces true s off

came_up : (x y : LeaseWorld) (e : Ending) (pieces : List (List LeaseShown)) (m : LeaseMoving) (shown : List LeaseShown) → m ≡ come None y shown → behind_restart x e pieces m ≡ ran_to y e (pieces ++ shown ∷ [])
unfolding behind_restart
came_up x y e pieces m shown is = ap (behind_restart x e pieces) is

came_down : (x : LeaseWorld) (e : Ending) (pieces : List (List LeaseShown)) (m : LeaseMoving) (f : LeaseFault) → m.fault ≡ Some f → behind_restart x e pieces m ≡ ran_to x (lease_ending 0 0 f) pieces
unfolding behind_restart
came_down x e pieces m f is = ap (λ (o : Option LeaseFault). elim o [ Some f ↦ record (ran_to x e pieces) { ending = lease_ending 0 0 f } | None ↦ record (ran_to x e pieces) { world = m.world; pieces = pieces ++ m.shown ∷ [] } ]) is

-- nothing is restarted
rests_so : (x : LeaseWorld) (e : Ending) (held : Option (List ℕ)) → ((pieces : List (List LeaseShown)) → closed x e pieces ≡ ran_to x e pieces) → Restarted x x e e held held
rests_so x e held is = record { z = x; more = []; is = λ pieces. is pieces ∙ ap (ran_to x e) (sym (append-nil pieces)); same = λ s. refl; bytes = none_written held [] refl }

pub rests_spent : (x : LeaseWorld) (e : Ending) (held : Option (List ℕ)) → is_spent e ≡ true → Restarted x x e e held held
rests_spent x e held s = rests_so x e held (λ pieces. spent_closed x e pieces s)

pub rests_up : (x : LeaseWorld) (e : Ending) (held : Option (List ℕ)) → is_spent e ≡ false → is_none x.world.server ≡ false → Restarted x x e e held held
rests_up x e held s up = rests_so x e held (λ pieces. by_stop x e pieces false s up)

-- the server comes up, and all that it shows is written
pub comes_up : (x y : LeaseWorld) (e : Ending) (shown : List LeaseShown) (held now : Option (List ℕ)) → is_spent e ≡ false → is_none x.world.server ≡ true → restarts x ≡ come None y shown → Appends held now (lease_texts shown) → Restarted x y e e held now
comes_up x y e shown held now s off is bytes = record {
  z = y;
  more = shown ∷ [];
  is = λ pieces. stopped_closes x e pieces s off ∙ came_up x y e pieces (restarts x) shown is;
  same = λ s. refl;
  bytes = subst (λ (l : List LeaseShown). Appends held now (lease_texts l)) (sym (joined-one shown)) bytes;
}

not_spent : (A : Type 0) → true ≡ false → A
not_spent A e = absurd (apart e)
  where
    apart : true ≡ false → ⊥
    apart e = cc

-- what follows of the lines of a run that is closed so
follow : (x z : LeaseWorld) (e end : Ending) (more : List (List LeaseShown)) (pieces : List (List LeaseShown)) → closed x e pieces ≡ ran_to z end (pieces ++ more) → lines_in (closed x e pieces) ≡ joined_lease pieces ++ (joined_lease more ++ map Line (last_line end))
follow x z e end more pieces is = ap lines_in is ∙ ap (λ l. l ++ map Line (last_line end)) (joined-more pieces more) ∙ append_assoc (joined_lease pieces) (joined_lease more) (map Line (last_line end))

-- it was cut off while these lines were written
pub cut_up : (x y : LeaseWorld) (e : Ending) (shown : List LeaseShown) (c : Cut) (held now : Option (List ℕ)) (writes later faults after : ℕ) → is_spent e ≡ false → is_none x.world.server ≡ true → restarts x ≡ come None y shown → CutLines c shown held now writes later → EndCut x e c held now writes later faults after
cut_up x y e shown c held now writes later faults after s off is text = (
  joined_lease (shown ∷ []) ++ map Line (last_line e),
  λ pieces. follow x y e e (shown ∷ []) pieces (stopped_closes x e pieces s off ∙ came_up x y e pieces (restarts x) shown is),
  front_of c ⊤ shown (joined_lease (shown ∷ []) ++ map Line (last_line e)) held now writes later faults after (λ t. (map Line (last_line e), ap (λ l. l ++ map Line (last_line e)) (joined-one shown))) text,
)

-- some lines of the run follow
pub any_end : (x : LeaseWorld) (e : Ending) → (rest : List LeaseShown) × ((pieces : List (List LeaseShown)) → lines_in (closed x e pieces) ≡ joined_lease pieces ++ rest)
any_end x e = by (is_spent e) refl
  where
    restarted : is_spent e ≡ false → (o : Option LeaseFault) → (restarts x).fault ≡ o → (b : Bool) → is_none x.world.server ≡ b → (rest : List LeaseShown) × ((pieces : List (List LeaseShown)) → lines_in (closed x e pieces) ≡ joined_lease pieces ++ rest)
    restarted s o f false up = (joined_lease [] ++ map Line (last_line e), λ pieces. follow x x e e [] pieces (by_stop x e pieces false s up ∙ ap (ran_to x e) (sym (append-nil pieces))))
    restarted s (Some f) is true off = (joined_lease [] ++ map Line (last_line (lease_ending 0 0 f)), λ pieces. follow x x e (lease_ending 0 0 f) [] pieces (stopped_closes x e pieces s off ∙ came_down x e pieces (restarts x) f is ∙ ap (ran_to x (lease_ending 0 0 f)) (sym (append-nil pieces))))
    restarted s None is true off = (
      joined_lease ((restarts x).shown ∷ []) ++ map Line (last_line e),
      λ pieces. follow x (restarts x).world e e ((restarts x).shown ∷ []) pieces (stopped_closes x e pieces s off ∙ came_up x (restarts x).world e pieces (restarts x) (restarts x).shown (ap (λ (o : Option LeaseFault). come o (restarts x).world (restarts x).shown) is)),
    )

    by : (b : Bool) → is_spent e ≡ b → (rest : List LeaseShown) × ((pieces : List (List LeaseShown)) → lines_in (closed x e pieces) ≡ joined_lease pieces ++ rest)
    by true s = (joined_lease [] ++ map Line (last_line e), λ pieces. follow x x e e [] pieces (spent_closed x e pieces s ∙ ap (ran_to x e) (sym (append-nil pieces))))
    by false s = restarted s (restarts x).fault refl (is_none x.world.server) refl

-- or before any of them was
cut_before : (x : LeaseWorld) (e : Ending) (c : Cut) (held : Option (List ℕ)) (writes faults after : ℕ) → IsCause c [] writes writes faults after → EndCut x e c held held writes writes faults after
cut_before x e c held writes faults after cause = let a = any_end x e in (a.0, a.1, no_front c ⊤ a.0 held writes writes faults after cause)

-- a step on a disk that isn't armed runs
armed-not : (a : Option ℕ) → IsSome a → a ≡ None → ⊥
armed-not None h e = cc
armed-not (Some n) h e = cc

unarmed : (f : Fate) (d g : Durable) (old new : Counts) → old.armed ≡ None → FateOf f d g old new → f ≡ runs
unarmed runs d g old new un h = refl
unarmed stops_without d g old new un h = absurd (armed-not old.armed h.armed un)
unarmed stops_with d g old new un h = absurd (armed-not old.armed h.armed un)

pub runs_unarmed : (tells : Type 0) (w : World) (old new : Counts) (steps : Fate → LeaseMoving) (m : LeaseMoving) → old.armed ≡ None → LeaseFated tells w old new steps m → steps runs ≡ m
runs_unarmed tells w old new steps m un (fate, is, by) = subst (λ (f : Fate). IsTold f tells → steps f ≡ m) (unarmed fate w.durable m.world.world.durable old new un is.of_disk) by tt

-- the restart isn't carried out
pub comes_down : (r : Result OwnEnding Cut) (f : LeaseFault) (tells : Type 0) (x y : LeaseWorld) (shown : List LeaseShown) (e : Ending) (old new : Counts) (P : Type 0) (held : Option (List ℕ)) (writes faults : ℕ) → r ≡ restart_end f → is_spent e ≡ false → is_none x.world.server ≡ true → old.armed ≡ None
    → RefusesLease f tells x.world old new (λ fate. step fate (event.World Restart) x) (come (Some f) y shown) P → (f ≡ fault.World world_fault.DiskFailed → Rose faults new.faults)
    → MatchResult r (λ end. Restarted x y e (machine_ending end) held held) (λ c. EndCut x e c held held writes writes faults new.faults)
comes_down r f tells x y shown e old new P held writes faults is s off un refused failed =
    subst (λ (z : Result OwnEnding Cut). MatchResult z (λ end. Restarted x y e (machine_ending end) held held) (λ c. EndCut x e c held held writes writes faults new.faults)) (sym is) (by f refl refused failed)
  where
    spent : (n : Counter) → restarts x ≡ come (Some (fault.World (world_fault.Spent n))) y shown → Restarted x y e (IsSpent n) held held
    spent n at = record {
      z = x;
      more = [];
      is = λ pieces. stopped_closes x e pieces s off ∙ came_down x e pieces (restarts x) (fault.World (world_fault.Spent n)) (ap (λ (m : LeaseMoving). m.fault) at) ∙ ap (ran_to x (IsSpent n)) (sym (append-nil pieces));
      same = λ spent. not_spent (x ≡ y) spent;
      bytes = none_written held [] refl;
    }

    lost : EndCut x e cut.NoMemory held held writes writes faults new.faults
    lost = cut_before x e cut.NoMemory held writes faults new.faults tt

    by : (g : LeaseFault) → f ≡ g → RefusesLease g tells x.world old new (λ fate. step fate (event.World Restart) x) (come (Some f) y shown) P → (g ≡ fault.World world_fault.DiskFailed → Rose faults new.faults)
        → MatchResult (restart_end g) (λ end. Restarted x y e (machine_ending end) held held) (λ c. EndCut x e c held held writes writes faults new.faults)
    by (fault.World (world_fault.Spent n)) q (inl same, here) failed = spent n (same.0 ∙ ap (λ (h : LeaseFault). come (Some h) y shown) q)
    by (fault.World (world_fault.Spent n)) q (inr fated, here) failed = spent n (runs_unarmed tells x.world old new (λ fate. step fate (event.World Restart) x) (come (Some f) y shown) un fated ∙ ap (λ (h : LeaseFault). come (Some h) y shown) q)
    by (fault.World world_fault.DiskFailed) q refused failed = cut_before x e cut.Disk held writes faults new.faults (failed refl, refl)
    by (fault.World (world_fault.BadDisk place)) q refused failed = lost
    by (fault.World world_fault.NoSuchOp) q refused failed = lost
    by (fault.World world_fault.NoSuchMsg) q refused failed = lost
    by (fault.World world_fault.NoMemory) q refused failed = lost
    by fault.NoSuchLease q refused failed = lost
    by fault.NoMemory q refused failed = lost

-- The last line.

-- there is none
pub none_told : (e : Ending) (st : Status) (held : Option (List ℕ)) → last_line e ≡ [] → Numbers st (status e) → LastTold e st held held
none_told e st held is number = record { bytes = subst (λ (l : List Shown). Appends held held (lease_texts (map Line l))) (sym is) (none_written held [] refl); number = number }

-- there is one, and it was written, or a part of it
pub one_told : (r : Result Status Cut) (e : Ending) (line : Shown) (st : Status) (held now : Option (List ℕ)) (writes later : ℕ) → last_line e ≡ line ∷ [] → Numbers st (status e)
    → MatchResult r (λ s. (s ≡ st) × Appends held now (shown_text line)) (λ c. CutText c (shown_text line) held now writes later)
    → MatchResult r (λ s. LastTold e s held now) (λ c. CutLines c (map Line (last_line e)) held now writes later)
one_told (Ok s) e line st held now writes later is number told = record {
  bytes = subst (λ (l : List Shown). Appends held now (lease_texts (map Line l))) (sym is) (subst (λ (t : List ℕ). Appends held now t) (sym (append-nil (shown_text line))) told.1);
  number = subst (λ (z : Status). Numbers z (status e)) (sym told.0) number;
}
one_told (Err c) e line st held now writes later is number told = record { written = []; first = Line line; more = []; front = ap (λ l. map Line l) is; last = told.last; bytes = told.bytes; why = told.why }

unspent : (e : Ending) → (status e ≡ 15 → ⊥) → is_spent e ≡ false
unspent (IsSpent n) not = absurd (not refl)
unspent Done not = refl
unspent (BadLine number col) not = refl
unspent (TooMany n) not = refl

all_closed : (x y : LeaseWorld) (e end : Ending) (st : Status) (held mid now : Option (List ℕ)) → Restarted x y e end held mid → LastTold end st mid now → LeaseClosed x y e st held now
all_closed x y e end st held mid now r told = record {
  shown = joined_lease r.more ++ map Line (last_line end);
  lines = λ pieces. follow x r.z e end r.more pieces (r.is pieces);
  number = λ pieces. subst (λ (z : LeaseRan). Numbers st (status z.ending)) (sym (r.is pieces)) told.number;
  same = λ pieces not. ap (λ (z : LeaseRan). z.world) (r.is pieces) ∙ r.same (unspent end (λ at. not (ap (λ (z : LeaseRan). status z.ending) (r.is pieces) ∙ at)));
  bytes = appends_two held mid now _ _ _ r.bytes told.bytes (sym (texts-append (joined_lease r.more) (map Line (last_line end))));
}

last_cut : (x y : LeaseWorld) (e end : Ending) (c : Cut) (held mid now : Option (List ℕ)) (writes writes_mid later faults after : ℕ) → Restarted x y e end held mid → writes ≤ writes_mid → CutLines c (map Line (last_line end)) mid now writes_mid later → EndCut x e c held now writes later faults after
last_cut x y e end c held mid now writes writes_mid later faults after r le text = (
  joined_lease r.more ++ map Line (last_line end),
  λ pieces. follow x r.z e end r.more pieces (r.is pieces),
  front_within c ⊤ ⊤ (joined_lease r.more) (map Line (last_line end)) (joined_lease r.more ++ map Line (last_line end)) held mid now writes writes_mid later faults faults after le (omega arith) r.bytes
      (λ t. (t, ([], ap (λ l. joined_lease r.more ++ l) (sym (append-nil (map Line (last_line end)))))))
      (front_of c ⊤ (map Line (last_line end)) (map Line (last_line end)) mid now writes_mid later faults after (λ t. ([], sym (append-nil (map Line (last_line end))))) text),
)

-- behind a restart
pub tells_last : (r : Result Status Cut) (x y : LeaseWorld) (e end : Ending) (held mid now : Option (List ℕ)) (writes writes_mid later faults after : ℕ) → Restarted x y e end held mid → writes ≤ writes_mid
    → MatchResult r (λ st. LastTold end st mid now) (λ c. CutLines c (map Line (last_line end)) mid now writes_mid later)
    → MatchResult r (λ st. LeaseClosed x y e st held now) (λ c. EndCut x e c held now writes later faults after)
tells_last (Ok st) x y e end held mid now writes writes_mid later faults after done le told = all_closed x y e end st held mid now done told
tells_last (Err c) x y e end held mid now writes writes_mid later faults after done le told = last_cut x y e end c held mid now writes writes_mid later faults after done le told
