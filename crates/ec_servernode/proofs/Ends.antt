-- How a turn ends.
use Rattle.std.proofs.Common.{◌≡◌, ◌⊎◌, ℕ, ◌+◌, Bool, true, false, not, List, [], ◌∷◌, ◌++◌, Option, Some, None, Result, Ok, Err, Vec, sym, refl, ap, ◌∙◌, subst, ⊎_elim, inl, inr, append-nil}
use Rattle.std.specs.declared.alloc.Global.{Global}
use Rattle.std.specs.declared.snapshot.Snapshot.{Snapshot}
use Rattle.ec_base.specs.declared.counter.Counter.{Counter}
use Rattle.ec_disk.specs.Disk.{Counts}
use Rattle.ec_disk.specs.Effects.{Counted}
use Rattle.ec_wire.specs.declared.msg.Msg.{Msg}
use Rattle.ec_protocol.specs.Server.{Serving}
use Rattle.ec_protocol.specs.declared.server.Server.{Server as State}
use Rattle.ec_protocol.specs.declared.server.Served.{Served}
use Rattle.ec_server.specs.declared.fault.ServerFault.{ServerFault}
use Rattle.ec_server.specs.declared.fault.ServerFault.TheVariants as ended
use Rattle.ec_server.specs.declared.server.Server.{Server}
use Rattle.ec_servernode.specs.declared.step.Halt.{Halt}
use Rattle.ec_servernode.specs.declared.step.Halt.TheVariants as halt
use Rattle.ec_servernode.specs.declared.step.Deed.{Deed}
use Rattle.ec_servernode.specs.declared.step.Deed.TheVariants.{Took, Halted, Ended, HaltedEnd, Broke}
use Rattle.ec_servernode.specs.declared.caller.Caller.{Caller}
use Rattle.ec_servernode.specs.declared.caller.Refusal.{Refusal}
use Rattle.ec_servernode.specs.declared.step.Step.{Step}
use Rattle.ec_link.specs.Links.{added}
use Rattle.ec_servernode.specs.declared.state.Outbox.{Outbox}
use Rattle.ec_servernode.specs.declared.state.Node.{Node}
use Rattle.ec_servernode.specs.declared.state.Told.{Told}
use Rattle.ec_servernode.specs.declared.fault.ServeFault.{ServeFault}
use Rattle.ec_servernode.specs.declared.fault.ServeFault.TheVariants as fault
use Rattle.ec_servernode.specs.Callers.{hello_in, accepted, refusal_in, posted, behind, refusal_sent}
use Rattle.ec_servernode.specs.Breaking.{spends}
use Rattle.ec_servernode.specs.Run.{Halts, caller_after, caller_by}
use Rattle.ec_servernode.specs.Node.{CountsUp}
use Rattle.ec_servernode.specs.Steps.{TookAs, EndedAs, Halts as Stops, Fell, RefusesMessage, halt_in}
use Rattle.ec_servernode.specs.Told.{IsToldOf}
use Rattle.ec_servernode.specs.TurnSteps.{More, Falls, TakeFails, Takes, EndFails, EndsTurn, Gives, fault_of}
use Rattle.ec_servernode.proofs.Runs.{caller-push}

-- Counts behind the server's step.

pub no_fault_up : (old new : Counts) (Failing Stopping : Type 0) → Counted old new Failing Stopping → CountsUp None old new
no_fault_up old new Failing Stopping c = record { faults = c.faults_later; stops = c.stops_later; failed = λ e. absurd (cc e); stopped = λ e. absurd (cc e) }

pub fault_up : (r : Result Served ServerFault) (f : ServerFault) (h : Halt) (old new : Counts) → r ≡ Err f → halt_in f ≡ Some h → Counted old new (r ≡ Err ended.DiskFailed) (r ≡ Err ended.DiskStopped) → CountsUp (Some h) old new
fault_up r ended.DiskFailed h old new is e c = record { faults = c.faults_later; stops = c.stops_later; failed = λ x. c.failed is; stopped = λ x. absurd (cc (e ∙ x)) }
fault_up r ended.DiskStopped h old new is e c = record { faults = c.faults_later; stops = c.stops_later; failed = λ x. absurd (cc (e ∙ x)); stopped = λ x. c.stopped is }
fault_up r (ended.Spent n) h old new is e c = record { faults = c.faults_later; stops = c.stops_later; failed = λ x. absurd (cc (e ∙ x)); stopped = λ x. absurd (cc (e ∙ x)) }
fault_up r ended.NoMemory h old new is e c = absurd (cc e)

-- a halt, by the server's fault
pub halts_by : {K : Type 0} (f : ServerFault) (h : Halt) (done : Serving) (old new : State) (keeper kept : K) → halt_in f ≡ Some h → RefusesMessage f done old new keeper kept → Halts h done × (not (spends h) ≡ false → (new ≡ old) × (kept ≡ keeper))
halts_by {K} (ended.Spent n) h done old new keeper kept e r =
    let is : halt.Spent n ≡ h = cc e in
    subst (λ k. Halts k done × (not (spends k) ≡ false → (new ≡ old) × (kept ≡ keeper))) is (r.0, λ x. (r.1, r.2))
halts_by {K} ended.DiskFailed h done old new keeper kept e r =
    let is : halt.DiskFailed ≡ h = cc e in
    subst (λ k. Halts k done × (not (spends k) ≡ false → (new ≡ old) × (kept ≡ keeper))) is (tt, λ x. absurd (cc x))
halts_by {K} ended.DiskStopped h done old new keeper kept e r =
    let is : halt.DiskStopped ≡ h = cc e in
    subst (λ k. Halts k done × (not (spends k) ≡ false → (new ≡ old) × (kept ≡ keeper))) is (tt, λ x. absurd (cc x))
halts_by {K} ended.NoMemory h done old new keeper kept e r = absurd (cc e)

-- The other end of a link, with one step more of its pass.

pub same_caller : (pass : ℕ) (xs ys : List Step) (x : Step) → ys ≡ xs ++ x ∷ [] → x.pass ≡ pass → caller_after (caller_by pass xs) x.deed ≡ caller_by pass xs → caller_by pass ys ≡ caller_by pass xs
same_caller pass xs ys x e is same = ap (caller_by pass) e ∙ (caller-push pass xs x is ∙ same)

pub next_caller : {K : Type 0} (pass c : ℕ) (bytes : Snapshot (Vec ℕ Global)) (m : Msg) (served : Served) (old new : Node K) (server : Server) (keeper : K) (hello : Option ℕ) (refusal : Option Refusal) → TookAs pass c bytes m served (record old { server = server; keeper = keeper }) new
    → hello ≡ accepted (refusal_in served.sent) (hello_in m) → refusal ≡ refusal_in served.sent → caller_by pass new.trace.items ≡ behind hello refusal (caller_by pass old.trace.items)
next_caller pass c bytes m served old new server keeper hello refusal t hello_is refusal_is =
    let xs = old.trace.items in
    let k = caller_by pass xs in
    let x : Step = record { pass = pass; deed = Took c bytes t.shot t.copy; lost = new.broken } in
    ap (caller_by pass) t.grew.list ∙ (caller-push pass xs x refl ∙ (ap (λ y. behind (accepted (refusal_in t.copy.value.sent) (hello_in y)) (refusal_in t.copy.value.sent) k) t.shot_is
    ∙ (ap (λ (y : Served). behind (accepted (refusal_in y.sent) (hello_in m)) (refusal_in y.sent) k) t.copy_is ∙ (ap (λ h. behind h (refusal_in served.sent) k) (sym hello_is) ∙ ap (λ r. behind hello r k) (sym refusal_is)))))

-- there is no refusal to be sent
pub as_answered : (k : Caller) → k.refusal ≡ None → k ≡ refusal_sent k
as_answered k none = ap (λ (o : Option Refusal). record k { refusal = o }) none

-- What was added.

pub no_more : {K : Type 0} (pass : ℕ) (old new : Node K) → new.trace.items ≡ old.trace.items → More pass old new []
no_more pass old new e = (e ∙ sym (append-nil old.trace.items), tt)

pub grew_takes : {K : Type 0} (pass c : ℕ) (bytes : Snapshot (Vec ℕ Global)) (m : Msg) (served : Served) (old new : Node K) (server : Server) (keeper : K) (told : Told) → old.halt ≡ None
    → TookAs pass c bytes m served (record old { server = server; keeper = keeper }) new → IsToldOf told (posted served.sent) → Takes pass bytes.value.items old new (Ok told)
grew_takes pass c bytes m served old new server keeper told none t is =
    let x : Step = record { pass = pass; deed = Took c bytes t.shot t.copy; lost = new.broken } in
    ((x, (t.grew.list, (refl, tt)), refl, subst (λ (s : Served). IsToldOf told (posted s.sent)) (sym t.copy_is) is), t.grew.halt_is ∙ none)

pub grew_ends : {K : Type 0} (pass c : ℕ) (served : Served) (old new : Node K) (server : Server) (keeper : K) (told : Told) → old.halt ≡ None
    → EndedAs pass c served (record old { server = server; keeper = keeper }) new → IsToldOf told served.sent → EndsTurn pass c old new (Ok told)
grew_ends pass c served old new server keeper told none t is =
    let x : Step = record { pass = pass; deed = Ended c t.copy; lost = new.broken } in
    ((x, (t.grew.list, (refl, tt)), refl, subst (λ (s : Served). IsToldOf told s.sent) (sym t.copy_is) is), t.grew.halt_is ∙ none)

pub stop_fails : {K : Type 0} (pass c : ℕ) (bytes : Snapshot (Vec ℕ Global)) (m : Snapshot Msg) (h : Halt) (old new : Node K) (server : Server) (keeper : K) (f : ServeFault) → f ≡ fault_of h
    → Stops pass (Halted c bytes m h) h (record old { server = server; keeper = keeper }) new → TakeFails pass bytes.value.items old new f
stop_fails pass c bytes m h old new server keeper f is s = subst (TakeFails pass bytes.value.items old new) (sym is) (by h s) where
  step : Halt → Step
  step k = record { pass = pass; deed = Halted c bytes m k; lost = false }

  by : (k : Halt) → Stops pass (Halted c bytes m k) k (record old { server = server; keeper = keeper }) new → TakeFails pass bytes.value.items old new (fault_of k)
  by halt.DiskFailed s = (step halt.DiskFailed, (s.list, (refl, tt)), (refl, refl))
  by halt.DiskStopped s = (step halt.DiskStopped, (s.list, (refl, tt)), (refl, refl))
  by (halt.Spent n) s = (step (halt.Spent n), (s.list, (refl, tt)), (refl, refl))

pub stop_ends : {K : Type 0} (pass c : ℕ) (h : Halt) (old new : Node K) (server : Server) (keeper : K) (f : ServeFault) → f ≡ fault_of h
    → Stops pass (HaltedEnd c h) h (record old { server = server; keeper = keeper }) new → EndFails pass c old new f
stop_ends pass c h old new server keeper f is s = subst (EndFails pass c old new) (sym is) (by h s) where
  step : Halt → Step
  step k = record { pass = pass; deed = HaltedEnd c k; lost = false }

  by : (k : Halt) → Stops pass (HaltedEnd c k) k (record old { server = server; keeper = keeper }) new → EndFails pass c old new (fault_of k)
  by halt.DiskFailed s = (step halt.DiskFailed, (s.list, (refl, tt)), (refl, refl))
  by halt.DiskStopped s = (step halt.DiskStopped, (s.list, (refl, tt)), (refl, refl))
  by (halt.Spent n) s = (step (halt.Spent n), (s.list, (refl, tt)), (refl, refl))

-- a mark was added
pub fell_more : {K : Type 0} (pass : ℕ) (old new : Node K) (server : Server) (keeper : K) → Fell pass (record old { server = server; keeper = keeper }) new → Falls pass old new
fell_more pass old new server keeper f =
    let x : Step = record { pass = pass; deed = Broke; lost = true } in
    inr (x, (f.list, (refl, tt)), refl)

-- nothing may be done
pub check_takes : {K : Type 0} (pass : ℕ) (bytes : List ℕ) (n : Node K) (f : ServeFault) → ((f ≡ fault.Down) × ((h : Halt) × (n.halt ≡ Some h))) ⊎ (f ≡ fault.NoMemory) → TakeFails pass bytes n n f
check_takes pass bytes n f h =
    ⊎_elim (λ (e : (f ≡ fault.Down) × ((h : Halt) × (n.halt ≡ Some h))). subst (TakeFails pass bytes n n) (sym e.0) (no_more pass n n refl, e.1))
    (λ (e : f ≡ fault.NoMemory). subst (TakeFails pass bytes n n) (sym e) (inl (no_more pass n n refl))) h

pub check_ends : {K : Type 0} (pass clerk : ℕ) (n : Node K) (f : ServeFault) → ((f ≡ fault.Down) × ((h : Halt) × (n.halt ≡ Some h))) ⊎ (f ≡ fault.NoMemory) → EndFails pass clerk n n f
check_ends pass clerk n f h =
    ⊎_elim (λ (e : (f ≡ fault.Down) × ((h : Halt) × (n.halt ≡ Some h))). subst (EndFails pass clerk n n) (sym e.0) (no_more pass n n refl, e.1))
    (λ (e : f ≡ fault.NoMemory). subst (EndFails pass clerk n n) (sym e) (inl (no_more pass n n refl))) h

pub check_gives : {K L : Type 0} (faults : L → ℕ) (got : L → Option (List (List ℕ))) (pass : ℕ) (caller : Caller) (n : Node K) (link : L) (f : ServeFault) → ((f ≡ fault.Down) × ((h : Halt) × (n.halt ≡ Some h))) ⊎ (f ≡ fault.NoMemory)
    → Gives faults got pass caller n n link link (Err f)
check_gives faults got pass caller n link f h =
    ⊎_elim (λ (e : (f ≡ fault.Down) × ((h : Halt) × (n.halt ≡ Some h))). subst (λ (x : ServeFault). Gives faults got pass caller n n link link (Err x)) (sym e.0) ((no_more pass n n refl, e.1), refl))
    (λ (e : f ≡ fault.NoMemory). subst (λ (x : ServeFault). Gives faults got pass caller n n link link (Err x)) (sym e) (no_more pass n n refl, refl)) h

-- the server halts
pub stops : {K : Type 0} (pass : ℕ) (deed : Deed) (h : Halt) (old mid : Node K) (spent : Bool) → mid.trace.items ≡ old.trace.items ++ (record { pass = pass; deed = deed; lost = false }) ∷ []
    → mid ≡ record old { trace = mid.trace; steps = old.steps + 1 } → spent ≡ spends h → Stops pass deed h old (record mid { halt = Some h; broken = not spent })
stops {K} pass deed h old mid spent list others is = record {
  list = list;
  others = ap (λ (n : Node K). record n { halt = Some h; broken = not spent }) others ∙ ap (λ (b : Bool). record old { trace = mid.trace; steps = old.steps + 1; halt = Some h; broken = not b }) is;
}

pub not_spent : (h : Halt) → ((n : Counter) → h ≡ halt.Spent n → ⊥) → false ≡ spends h
not_spent halt.DiskFailed never = refl
not_spent halt.DiskStopped never = refl
not_spent (halt.Spent n) never = absurd (never n refl)

-- the outboxes are those that the value has
pub boxes_are : {K : Type 0} (old new : Node K) (boxes : Vec Outbox Global) → new ≡ record old { boxes = boxes; trace = new.trace; steps = old.steps + 1 } → new ≡ record old { boxes = new.boxes; trace = new.trace; steps = old.steps + 1 }
boxes_are {K} old new boxes e = e ∙ ap (λ (b : Vec Outbox Global). record old { boxes = b; trace = new.trace; steps = old.steps + 1 }) (sym (ap (λ (n : Node K). n.boxes) e))

pub boxes_same : {K : Type 0} (old new : Node K) → new ≡ record old { trace = new.trace; steps = old.steps + 1 } → new ≡ record old { boxes = new.boxes; trace = new.trace; steps = old.steps + 1 }
boxes_same {K} old new e = e ∙ ap (λ (b : Vec Outbox Global). record old { boxes = b; trace = new.trace; steps = old.steps + 1 }) (sym (ap (λ (n : Node K). n.boxes) e))

pub added-nil : {A : Type 0} (o : Option (List A)) → added o [] ≡ o
added-nil None = refl
added-nil (Some xs) = ap (λ l. Some l) (append-nil xs)

-- an outbox is another pass's only where its link never greeted
pub not_greeted : (greeted mine : Bool) → (greeted ≡ true → mine ≡ true) → mine ≡ false → greeted ≡ false
not_greeted true mine h e = absurd (cc (sym (h refl) ∙ e))
not_greeted false mine h e = refl
