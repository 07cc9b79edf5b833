-- The marks of servers that started.
use Rattle.std.proofs.Common.{◌≡◌, ℕ, List, Option, None, Some, Result, Ok, Err, sym, ap, subst, ◌∙◌}
use Rattle.std.specs.Prelude.{IfOk}
use Rattle.ec_base.specs.declared.counter.Counter.{Counter}
use Rattle.ec_disk.specs.Disk.{View}
use Rattle.ec_durable.specs.declared.state.Durable.{Durable}
use Rattle.ec_durable.specs.declared.record.Record.{Record}
use Rattle.ec_durable.specs.declared.record.Record.TheVariants as record_of
use Rattle.ec_protocol.specs.Server.{Serving, start}
use Rattle.ec_protocol.specs.declared.server.Served.{Served}
use Rattle.ec_server.specs.declared.server.Server.{Server}
use Rattle.ec_server.specs.declared.fault.ServerFault.{ServerFault}
use Rattle.ec_server.specs.declared.fault.ServerFault.TheVariants as server
use Rattle.ec_store.specs.declared.store.Store.{Store}
use Rattle.ec_marking.specs.Keeping.{IsDone, Turns, IsMarked, IfDone}
use Rattle.ec_marking.specs.Marks.{RecordIsMarked, MarkOf}
use Rattle.ec_marking.specs.declared.keeping.Came.{Came}
use Rattle.ec_marking.specs.declared.keeping.Came.TheVariants as came
use Rattle.ec_marking.specs.declared.marks.Mark.{Mark}
use Rattle.ec_marking.proofs.Started.{start_records}

-- the record of a start that is done
pub start_is : (tells : Type 0) (d : Durable) (before : List Record) (server' : Server) (store : Store) (now : View) (served : Served) (mark : Option Mark) → IsDone tells (start d) d before server' store now served mark
    → served.rec ≡ Some (record_of.Epoch (start d).server.durable.epoch)
start_is tells d before server' store now served mark h = sym (ap (λ (t : Serving). t.rec) h.does) ∙ start_records d (ap (λ (t : Serving). t.spent) h.does)

pub start_marks : (tells : Type 0) (d : Durable) (before : List Record) (server' : Server) (store : Store) (now : View) (served : Served) (mark : Option Mark) → IsDone tells (start d) d before server' store now served mark
    → RecordIsMarked mark (record_of.Epoch (start d).server.durable.epoch) d before
start_marks tells d before server' store now served mark h = subst (λ (o : Option Record). MarkOf mark o d before) (start_is tells d before server' store now served mark h) h.mark_is

is_marked : (T : Type 0) (x : T) (mark : Option Mark) (r : Record) (d : Durable) (before : List Record) → RecordIsMarked mark r d before → IsMarked (came.Done x mark)
is_marked T x None r d before h = h
is_marked T x (Some mark) r d before h = tt

pub marked_is : (tells : Type 0) (d : Durable) (before : List Record) (store : Store) (now : View) (mark : Option Mark) (answer : Result (Server × Served) ServerFault) (to : Result (Came (Server × Served)) Counter) → Turns answer mark to
    → IfOk answer (λ made. IsDone tells (start d) d before made.0 store now made.1 mark) → IfOk to IsMarked
marked_is tells d before store now mark (Ok x) to is h =
    subst (λ (t : Result (Came (Server × Served)) Counter). IfOk t IsMarked) (sym is) (is_marked _ x mark _ d before (start_marks tells d before x.0 store now x.1 mark h))
marked_is tells d before store now mark (Err (server.Spent n)) to is h = subst (λ (t : Result (Came (Server × Served)) Counter). IfOk t IsMarked) (sym is) tt
marked_is tells d before store now mark (Err server.DiskFailed) to is h = subst (λ (t : Result (Came (Server × Served)) Counter). IfOk t IsMarked) (sym is) tt
marked_is tells d before store now None (Err server.DiskStopped) to is h = absurd is
marked_is tells d before store now (Some mark) (Err server.DiskStopped) to is h = subst (λ (t : Result (Came (Server × Served)) Counter). IfOk t IsMarked) (sym is) tt
marked_is tells d before store now mark (Err server.NoMemory) to is h = subst (λ (t : Result (Came (Server × Served)) Counter). IfOk t IsMarked) (sym is) tt

abbrev Standing : (T : Type 0) → (T → Type 0) → Result (Came T) Counter → Type 0
Standing T P to = IfOk to (λ came. IfDone came P)

pub stands_is : (T : Type 0) (P : T → Type 0) (mark : Option Mark) (answer : Result T ServerFault) (to : Result (Came T) Counter) → Turns answer mark to → IfOk answer P → IfOk to (λ came. IfDone came P)
stands_is T P mark (Ok x) to is h = subst (Standing T P) (sym is) h
stands_is T P mark (Err (server.Spent n)) to is h = subst (Standing T P) (sym is) tt
stands_is T P mark (Err server.DiskFailed) to is h = subst (Standing T P) (sym is) tt
stands_is T P None (Err server.DiskStopped) to is h = absurd is
stands_is T P (Some mark) (Err server.DiskStopped) to is h = subst (Standing T P) (sym is) tt
stands_is T P mark (Err server.NoMemory) to is h = subst (Standing T P) (sym is) tt
