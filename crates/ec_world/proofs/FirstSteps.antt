-- The steps of an opening: the start of its server, and the end of a session that is open.
use Rattle.std.proofs.Common.{◌≡◌, ℕ, Bool, true, false, List, [], ◌∷◌, ◌++◌, Option, None, Some, Result, Ok, Err, refl, sym, ap, subst, ◌∙◌}
use Rattle.std.specs.Prelude.{IfOk, IfErr, OnOk}
use Rattle.ec_base.specs.declared.counter.Counter.{Counter}
use Rattle.ec_disk.specs.Disk.{View}
use Rattle.ec_durable.specs.Durable.{slot}
use Rattle.ec_durable.specs.declared.state.Durable.{Durable}
use Rattle.ec_durable.specs.declared.record.Record.{Record}
use Rattle.ec_durable.specs.declared.record.Record.TheVariants as record_of
use Rattle.ec_protocol.specs.Server.{Serving}
use Rattle.ec_protocol.specs.Server as machine
use Rattle.ec_protocol.specs.World.{end_each, clerks, new_world, open_world}
use Rattle.ec_protocol.specs.declared.server.Served.{Served}
use Rattle.ec_protocol.specs.declared.server.Server.{Server}
use Rattle.ec_protocol.specs.declared.world.World.{World}
use Rattle.ec_protocol.specs.declared.world.WorldFault.{WorldFault}
use Rattle.ec_protocol.specs.declared.world.WorldFault.TheVariants as fault
use Rattle.ec_server.specs.ServeLaws.{end_rec}
use Rattle.ec_server.specs.Servers.{standing, StandsOn}
use Rattle.ec_server.specs.declared.server.Server.{Server as Code}
use Rattle.ec_sessions.specs.Slots as slots
use Rattle.ec_stands.specs.Stands.{StandsFor}
use Rattle.ec_store.specs.Store.{IsHeld, view_of}
use Rattle.ec_store.specs.declared.store.Store.{Store}
use Rattle.ec_base.specs.declared.trace.Trace.{Trace}
use Rattle.ec_marking.specs.Keeping.{IsDone, CameOf, Unchanged, IfDone}
use Rattle.ec_marking.specs.Held.{held_stands}
use Rattle.ec_marking.specs.Marks.{RecordIsMarked as Marked, MarkOf}
use Rattle.ec_world.specs.Opening.{Unread, Starts, StartsServer, EndsBy, EndsOne, EndsWith, KeptBy, Unstarted, IsOfDisk}
use Rattle.ec_world.specs.Steps.{Opens}
use Rattle.ec_world.specs.StepEnds.{Unopened}
use Rattle.ec_world.specs.Worlds.{view_of as whole, ServerStands, IsInStep}
use Rattle.ec_marking.specs.declared.keeping.Came.{Came}
use Rattle.ec_marking.specs.declared.keeping.Came.TheVariants as came
use Rattle.ec_marking.specs.declared.marks.Mark.{Mark}
use Rattle.ec_world.specs.declared.world.World.{World as Whole}
use Rattle.ec_marking.proofs.Begun.{start_marks}

-- The start.

abbrev Made : Type 0
Made = Result (Code × Trace Record) WorldFault

-- what holds of a start that is done
pub start_done : (tells : Type 0) (d : Durable) (before : List Record) (server : Code) (store : Store) (now : View) (served : Served) (mark : Mark) → before ≡ [] → IsDone tells (machine.start d) d before server store now served (Some mark)
    → Starts (machine.start d) (standing (view_of store) server) mark.records.items
start_done tells d before server store now served mark none h =
    let marked : Marked (Some mark) (record_of.Epoch (machine.start d).server.durable.epoch) d before = start_marks tells d before server store now served (Some mark) h in
    record {
      unspent = ap (λ (t : Serving). t.spent) h.does;
      server_is = sym (ap (λ (t : Serving). t.server) h.does);
      records_are = marked.records_are ∙ ap (λ (rs : List Record). rs ++ record_of.Epoch (machine.start d).server.durable.epoch ∷ []) none;
    }

module _ (tells : Type 0) (d : Durable) (before : List Record) (store : Store) (now : View) (r : Made) where
  pub begins_ok : (o : Came (Code × Served)) → before ≡ [] → CameOf (λ made. IsDone tells (machine.start d) d before made.0 store now made.1) tells (machine.start d) d before now o → StartsServer o r → IfOk r (λ made. Starts (machine.start d) (standing (view_of store) made.0) made.1.items)
  begins_ok (came.Done made None) none h is = absurd is
  begins_ok (came.Done made (Some mark)) none h is = subst (λ (x : Made). IfOk x (λ made. Starts (machine.start d) (standing (view_of store) made.0) made.1.items)) (sym is) (start_done tells d before made.0 store now made.1 mark none h)
  begins_ok (came.Stopped mark) none h is = subst (λ (x : Made). IfOk x (λ made. Starts (machine.start d) (standing (view_of store) made.0) made.1.items)) (sym is) tt
  begins_ok came.DiskFailed none h is = subst (λ (x : Made). IfOk x (λ made. Starts (machine.start d) (standing (view_of store) made.0) made.1.items)) (sym is) tt
  begins_ok came.NoMemory none h is = subst (λ (x : Made). IfOk x (λ made. Starts (machine.start d) (standing (view_of store) made.0) made.1.items)) (sym is) tt

  pub begins_held : (o : Came (Code × Served)) → CameOf (λ made. IsDone tells (machine.start d) d before made.0 store now made.1) tells (machine.start d) d before now o → StartsServer o r → OnOk r (tells → IsHeld now store)
  begins_held (came.Done made None) h is = absurd is
  begins_held (came.Done made (Some mark)) h is = subst (λ (x : Made). OnOk x (tells → IsHeld now store)) (sym is) h.held
  begins_held (came.Stopped mark) h is = subst (λ (x : Made). OnOk x (tells → IsHeld now store)) (sym is) tt
  begins_held came.DiskFailed h is = subst (λ (x : Made). OnOk x (tells → IsHeld now store)) (sym is) tt
  begins_held came.NoMemory h is = subst (λ (x : Made). OnOk x (tells → IsHeld now store)) (sym is) tt

pub begins_stands : (d : Durable) (r : Made) (o : Came (Code × Served)) → IfDone o (λ made. StandsOn d made.0) → StartsServer o r → IfOk r (λ made. StandsOn d made.0)
begins_stands d r (came.Done made None) h is = absurd is
begins_stands d r (came.Done made (Some mark)) h is = subst (λ (x : Made). IfOk x (λ made. StandsOn d made.0)) (sym is) h
begins_stands d r (came.Stopped mark) h is = subst (λ (x : Made). IfOk x (λ made. StandsOn d made.0)) (sym is) tt
begins_stands d r came.DiskFailed h is = subst (λ (x : Made). IfOk x (λ made. StandsOn d made.0)) (sym is) tt
begins_stands d r came.NoMemory h is = subst (λ (x : Made). IfOk x (λ made. StandsOn d made.0)) (sym is) tt

pub begins_err : (tells : Type 0) (left : List ℕ → Type 0) (d : Durable) (r : Made) (o : Came (Code × Served)) → StartsServer o r → IfErr r (λ f. Unstarted f tells left d)
begins_err tells left d r (came.Done made None) is = absurd is
begins_err tells left d r (came.Done made (Some mark)) is = subst (λ (x : Made). IfErr x (λ f. Unstarted f tells left d)) (sym is) tt
begins_err tells left d r (came.Stopped mark) is = subst (λ (x : Made). IfErr x (λ f. Unstarted f tells left d)) (sym is) tt
begins_err tells left d r came.DiskFailed is = subst (λ (x : Made). IfErr x (λ f. Unstarted f tells left d)) (sym is) tt
begins_err tells left d r came.NoMemory is = subst (λ (x : Made). IfErr x (λ f. Unstarted f tells left d)) (sym is) tt

made_not : (x : Code × Trace Record) → ◌≡◌ {A = Made} (Ok x) (Err fault.DiskFailed) → ⊥
made_not x e = cc

wants_not : ◌≡◌ {A = Made} (Err fault.NoMemory) (Err fault.DiskFailed) → ⊥
wants_not e = cc

-- the disk failed only where the step says so
pub begins_failed : (r : Made) (o : Came (Code × Served)) → StartsServer o r → r ≡ Err fault.DiskFailed → o ≡ came.DiskFailed
begins_failed r (came.Done made None) is e = absurd is
begins_failed r (came.Done made (Some mark)) is e = absurd (made_not _ (sym is ∙ e))
begins_failed r (came.Stopped mark) is e = absurd (wants_not (sym is ∙ e))
begins_failed r came.DiskFailed is e = refl
begins_failed r came.NoMemory is e = absurd (wants_not (sym is ∙ e))

-- a spent counter
pub not_started : (tells : Type 0) (old new : Store) (now : View) (n : Counter) → Unchanged tells (machine.start (view_of old)) n old new now → Unstarted (fault.Spent n) tells now.may_leave (view_of old)
not_started tells old new now n h = (
  ap (λ (o : Option Counter). elim o [ Some m ↦ Err m | None ↦ let q = end_each clerks (machine.start (view_of old)) (record_of.Epoch (machine.start (view_of old)).server.durable.epoch ∷ []) in Ok (new_world (q.0).server q.1) ]) h.spent,
  λ told image left. subst (λ (s : Store). StandsFor image (view_of s)) h.store (held_stands now new (h.held told) image left),
)

-- An end.

module _ (c : ℕ) (old : Server) where
  -- no session is open
  pub ends_nothing : (records : List Record) → slots.is_open (slot old.durable c) ≡ false → EndsOne c old old records records
  ends_nothing records none = subst (λ (o : Option Record). EndsBy o (machine.end c old) old old records records) (sym ((end_rec c old).1 none)) (refl, refl)

  kept : (mark : Option Mark) (r : Record) (d : Durable) (before now : List Record) → Marked mark r d before → KeptBy mark before now → now ≡ before ++ r ∷ []
  kept None r d before now marked is = absurd marked
  kept (Some mark) r d before now marked is = is ∙ marked.records_are

  open_not : true ≡ false → ⊥
  open_not e = cc

  pub ends_done : (tells : Type 0) (d : Durable) (before records : List Record) (server : Code) (store : Store) (now : View) (served : Served) (mark : Option Mark) → slots.is_open (slot old.durable c) ≡ true
      → IsDone tells (machine.end c old) d before server store now served mark → KeptBy mark before records → EndsOne c old (standing (view_of store) server) before records
  ends_done tells d before records server store now served mark is_so h is = go (machine.end c old).rec refl
    where
      go : (o : Option Record) → (machine.end c old).rec ≡ o → EndsBy o (machine.end c old) old (standing (view_of store) server) before records
      go None e = absurd (open_not (sym is_so ∙ (end_rec c old).0 e))
      go (Some r) e =
          let marked : Marked mark r d before = subst (λ (o : Option Record). MarkOf mark o d before) (sym (ap (λ (t : Serving). t.rec) h.does) ∙ e) h.mark_is in
          (sym (ap (λ (t : Serving). t.server) h.does), kept mark r d before records marked is)

abbrev Kept : Type 0
Kept = Result (Unit {0}) WorldFault

pub ends_ok : (c : ℕ) (old : Server) (tells : Type 0) (d : Durable) (before records : List Record) (server : Code) (store : Store) (now : View) (r : Kept) (o : Came Served) → slots.is_open (slot old.durable c) ≡ true
    → CameOf (IsDone tells (machine.end c old) d before server store now) tells (machine.end c old) d before now o → EndsWith o r before records → OnOk r (EndsOne c old (standing (view_of store) server) before records)
ends_ok c old tells d before records server store now r (came.Done served mark) is_so h is = subst (λ (x : Kept). OnOk x (EndsOne c old (standing (view_of store) server) before records)) (sym is.0) (ends_done c old tells d before records server store now served mark is_so h is.1)
ends_ok c old tells d before records server store now r (came.Stopped mark) is_so h is = subst (λ (x : Kept). OnOk x (EndsOne c old (standing (view_of store) server) before records)) (sym is) tt
ends_ok c old tells d before records server store now r came.DiskFailed is_so h is = subst (λ (x : Kept). OnOk x (EndsOne c old (standing (view_of store) server) before records)) (sym is) tt
ends_ok c old tells d before records server store now r came.NoMemory is_so h is = subst (λ (x : Kept). OnOk x (EndsOne c old (standing (view_of store) server) before records)) (sym is) tt

pub ends_held : (c : ℕ) (old : Server) (tells : Type 0) (d : Durable) (before records : List Record) (server : Code) (store : Store) (now : View) (r : Kept) (o : Came Served)
    → CameOf (IsDone tells (machine.end c old) d before server store now) tells (machine.end c old) d before now o → EndsWith o r before records → OnOk r (tells → IsHeld now store)
ends_held c old tells d before records server store now r (came.Done served mark) h is = subst (λ (x : Kept). OnOk x (tells → IsHeld now store)) (sym is.0) h.held
ends_held c old tells d before records server store now r (came.Stopped mark) h is = subst (λ (x : Kept). OnOk x (tells → IsHeld now store)) (sym is) tt
ends_held c old tells d before records server store now r came.DiskFailed h is = subst (λ (x : Kept). OnOk x (tells → IsHeld now store)) (sym is) tt
ends_held c old tells d before records server store now r came.NoMemory h is = subst (λ (x : Kept). OnOk x (tells → IsHeld now store)) (sym is) tt

pub ends_err : (before records : List Record) (r : Kept) (o : Came Served) → EndsWith o r before records → IfErr r IsOfDisk
ends_err before records r (came.Done served mark) is = subst (λ (x : Kept). IfErr x IsOfDisk) (sym is.0) tt
ends_err before records r (came.Stopped mark) is = subst (λ (x : Kept). IfErr x IsOfDisk) (sym is) tt
ends_err before records r came.DiskFailed is = subst (λ (x : Kept). IfErr x IsOfDisk) (sym is) tt
ends_err before records r came.NoMemory is = subst (λ (x : Kept). IfErr x IsOfDisk) (sym is) tt

kept_not : ◌≡◌ {A = Kept} (Ok tt) (Err fault.DiskFailed) → ⊥
kept_not e = cc

kept_wants : ◌≡◌ {A = Kept} (Err fault.NoMemory) (Err fault.DiskFailed) → ⊥
kept_wants e = cc

pub ends_failed : (before records : List Record) (r : Kept) (o : Came Served) → EndsWith o r before records → r ≡ Err fault.DiskFailed → o ≡ came.DiskFailed
ends_failed before records r (came.Done served mark) is e = absurd (kept_not (sym is.0 ∙ e))
ends_failed before records r (came.Stopped mark) is e = absurd (kept_wants (sym is ∙ e))
ends_failed before records r came.DiskFailed is e = refl
ends_failed before records r came.NoMemory is e = absurd (kept_wants (sym is ∙ e))

-- The whole.

pub of_disk : (f : WorldFault) (tells : Type 0) (left : List ℕ → Type 0) (d : Durable) → IsOfDisk f → Unstarted f tells left d
of_disk fault.DiskFailed tells left d h = tt
of_disk fault.NoMemory tells left d h = tt
of_disk (fault.BadDisk place) tells left d h = absurd h
of_disk (fault.Spent n) tells left d h = absurd h
of_disk fault.NoSuchOp tells left d h = absurd h
of_disk fault.NoSuchMsg tells left d h = absurd h

pub in_step_of : (tells : Type 0) (now : View) (w : Whole) (store : Store) (server : Code) → w.store ≡ store → w.server ≡ Some server → StandsOn (view_of store) server → (tells → IsHeld now store) → IsInStep tells now w
in_step_of tells now w store server one two stands held = record {
  server =
      let to : Store → Option Code → Type 0 = λ s v. ServerStands (view_of s) v in
      subst (λ (s : Store). to s w.server) (sym one) (subst (λ (v : Option Code). to store v) (sym two) stands);
  disk = λ told. subst (λ (s : Store). IsHeld now s) (sym one) (held told);
}

-- What an opening answers.

pub opens_ok : (r : Result Whole WorldFault) (tells : Type 0) (gives : List ℕ) (most : ℕ) (d : Durable) → Opens tells gives most d → IfOk r (λ w. open_world d ≡ Ok (whole w)) → IfOk r (λ w. (d : Durable) × Opens tells gives most d × (open_world d ≡ Ok (whole w)))
opens_ok (Ok w) tells gives most d opens is = (d, opens, is)
opens_ok (Err f) tells gives most d opens is = tt

pub unopened_unread : (f : WorldFault) (tells : Type 0) (gives now : List ℕ) (left : List ℕ → Type 0) (most : ℕ) → Unread f tells gives now → Unopened f tells gives now left most
unopened_unread (fault.BadDisk place) tells gives now left most h = h
unopened_unread (fault.Spent n) tells gives now left most h = absurd h
unopened_unread fault.NoSuchOp tells gives now left most h = absurd h
unopened_unread fault.NoSuchMsg tells gives now left most h = absurd h
unopened_unread fault.DiskFailed tells gives now left most h = tt
unopened_unread fault.NoMemory tells gives now left most h = tt

pub unopened_in : (r : Result Whole WorldFault) (tells : Type 0) (gives now : List ℕ) (left : List ℕ → Type 0) (most : ℕ) (d : Durable) → Opens tells gives most d → IfErr r (λ f. Unstarted f tells left d) → IfErr r (λ f. Unopened f tells gives now left most)
unopened_in (Ok w) tells gives now left most d opens h = tt
unopened_in (Err (fault.BadDisk place)) tells gives now left most d opens h = absurd h
unopened_in (Err (fault.Spent n)) tells gives now left most d opens h = (d, opens, h.0, h.1)
unopened_in (Err fault.NoSuchOp) tells gives now left most d opens h = absurd h
unopened_in (Err fault.NoSuchMsg) tells gives now left most d opens h = absurd h
unopened_in (Err fault.DiskFailed) tells gives now left most d opens h = tt
unopened_in (Err fault.NoMemory) tells gives now left most d opens h = tt
