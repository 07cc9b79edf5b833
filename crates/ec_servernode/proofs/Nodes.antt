-- One step more keeps what the value says of its list.
use Rattle.std.proofs.Common.{◌≡◌, ◌==◌, ◌⊎◌, ℕ, ◌+◌, ◌<◌, Bool, true, false, not, cond, [], List, ◌∷◌, ◌++◌, length, drop, Option, Some, None, Result, Ok, Err, Vec, sym, ap, ◌∙◌, subst, length-append, append-nil, refl, inl, inr, ⊎_elim}
use Rattle.std.specs.declared.alloc.Global.{Global}
use Rattle.std.specs.declared.snapshot.Snapshot.{Snapshot}
use Rattle.ec_base.specs.Limits.{clerk_count}
use Rattle.ec_disk.specs.Disk.{Counts}
use Rattle.ec_disk.specs.Effects.{Counted}
use Rattle.ec_wire.specs.Codes.{said}
use Rattle.ec_wire.specs.Messages.{is_sound}
use Rattle.ec_wire.specs.declared.msg.Msg.{Msg}
use Rattle.ec_durable.specs.declared.state.Durable.{Durable}
use Rattle.ec_durable.specs.declared.record.Record.{Record}
use Rattle.ec_protocol.specs.Server.{Serving}
use Rattle.ec_protocol.specs.declared.server.Served.{Served}
use Rattle.ec_protocol.specs.declared.server.Server.{Server as State}
use Rattle.ec_server.specs.Keepers.{Did, Hurts, SpendsNothing}
use Rattle.ec_server.specs.Servers.{standing, Does, StandsOn}
use Rattle.ec_server.specs.declared.server.Server.{Server}
use Rattle.ec_server.specs.declared.fault.ServerFault.{ServerFault}
use Rattle.ec_server.specs.declared.fault.ServerFault.TheVariants as fault
use Rattle.ec_servernode.specs.declared.step.Halt.{Halt}
use Rattle.ec_servernode.specs.declared.step.Deed.{Deed}
use Rattle.ec_servernode.specs.declared.step.Deed.TheVariants.{Took, Gave, Refused, Halted, Ended, HaltedEnd, Broke}
use Rattle.ec_servernode.specs.declared.step.Step.{Step}
use Rattle.ec_servernode.specs.declared.state.Node.{Node}
use Rattle.ec_servernode.specs.Folded.{message_taken, session_ended}
use Rattle.ec_servernode.specs.Callers.{hello_in, accepted, refusal_in, posted, IsRefusal}
use Rattle.ec_servernode.specs.Breaking.{spends, Breaks, Broken}
use Rattle.ec_servernode.specs.Run.{hello_of, owner_now, sender, caller_by, clerk_by, is_for, owner, put_all, for_clerk, box_after, box_from, after, leads, record_of, records, records_of, halts_of, halted, Halts, IsDeed, IsStep, IsRun}
use Rattle.ec_servernode.specs.Node.{queue_at, owner_at, Chain, Doubt, CountsUp, state_of, Since, Keeps}
use Rattle.ec_servernode.specs.Steps.{Grew, TookAs, EndedAs, Halts as Stops, Fell, RefusesMessage, halt_in}
use Rattle.ec_servernode.proofs.Runs.{run_push, broken-last, leads-push, box-push, owner-push, halted-push, chain-push}
use Rattle.ec_servernode.proofs.Counts.{then_up}
use Rattle.ec_servernode.proofs.Ends.{fault_up, halts_by, boxes_same}
use Rattle.ec_base.specs.Lists.{first_of}
use Rattle.ec_link.proofs.HappeningsLemmas.{each-push}

not_true : (b : Bool) → not b ≡ true → b ≡ false
not_true true e = absurd (cc e)
not_true false e = refl

module _ {K : Type 0} (kept : K → Durable) (counts : K → Counts) (did breaks : K → Record → K → Type 0) where
  -- The server did this, and committed this record.
  pub record Acting (pass : ℕ) (deed : Deed) (hello : Option ℕ) (sent : List (ℕ × Msg)) (rec : Option Record) (old : Node K) (server : Server) (keeper : K) : Type 0 where
    pub up : old.broken ≡ false
    pub none : old.halt ≡ None
    pub is_deed : (s0 : State) (boxes : ℕ → List Msg) → leads s0 old.trace.items ≡ state_of kept old → IsDeed s0 boxes pass old.trace.items deed
    pub goes : after (state_of kept old) deed ≡ standing (kept keeper) server
    pub records_are : records_of deed ≡ record_of rec
    pub box_is : (k : ℕ) (q : List Msg) → box_after k q deed ≡ put_all q (for_clerk k sent)
    pub hello_is : hello_of deed ≡ hello
    pub no_halt : halts_of deed ≡ []
    pub breaking : (lost : Bool) → lost ≡ true → Breaks deed lost
    pub did_so : Did did rec old.keeper keeper
    pub counted : CountsUp None (counts old.keeper) (counts keeper)
    pub stands : StandsOn (kept keeper) server

  acted : (pass : ℕ) (deed : Deed) (hello : Option ℕ) (sent : List (ℕ × Msg)) (rec : Option Record) (old new : Node K) (server : Server) (keeper : K) → Acting pass deed hello sent rec old server keeper
      → Grew pass deed hello sent (record old { server = server; keeper = keeper }) new → Keeps kept counts did breaks old new
  acted pass deed hello sent rec old new server keeper t g first s =
      let xs = old.trace.items in
      let s0 = state_of kept first in
      let x : Step = record { pass = pass; deed = deed; lost = new.broken } in
      let lead : leads s0 xs ≡ state_of kept old = s.leads_to t.up in
      let none : halted xs ≡ None = sym s.halt_is ∙ t.none in
      let is_step : IsStep s0 (queue_at first.boxes.items) xs x = (none, t.is_deed s0 (queue_at first.boxes.items) lead) in
      let counted = s.counted in
      record {
        run = subst (IsRun s0 (queue_at first.boxes.items)) (sym g.list) (run_push s0 (queue_at first.boxes.items) xs x s.run is_step);
        counted = g.steps ∙ (ap (λ n. n + 1) counted ∙ sym (ap length g.list ∙ length-append xs (x ∷ [])));
        leads_to = λ _. ap (leads s0) g.list ∙ (leads-push s0 xs x ∙ (ap (λ y. after y deed) lead ∙ (t.goes ∙ (ap (λ y. standing (kept keeper) y) (sym g.server) ∙ ap (λ k. standing (kept k) new.server) (sym g.keeper)))));
        stands = subst (λ k. StandsOn (kept k) new.server) (sym g.keeper) (subst (StandsOn (kept keeper)) (sym g.server) t.stands);
        chain = λ _. chain_is first s;
        doubt = (new.keeper, chain_is first s, inl refl);
        sized = g.sized;
        boxes = λ up k le. g.posted up k ∙ (ap (λ q. put_all q (for_clerk k sent)) (s.boxes t.up k le) ∙ (sym (t.box_is k (box_from k (queue_at first.boxes.items k) xs))
            ∙ sym (ap (box_from k (queue_at first.boxes.items k)) g.list ∙ box-push k (queue_at first.boxes.items k) xs x)));
        owners = λ up k le. g.owners k le ∙ (ap (λ o. owner_now k hello pass o) (s.owners t.up k le) ∙ (ap (λ h. owner_now k h pass (owner k xs)) (sym t.hello_is) ∙ sym (ap (owner k) g.list ∙ owner-push k None xs x)));
        halt_is = g.halt_is ∙ (t.none ∙ sym halted_now);
        wanted = λ down. subst Broken (sym g.list) (broken-last xs x (t.breaking new.broken down));
        counted_up = up_is first s;
      } where
        x_is : Step
        x_is = record { pass = pass; deed = deed; lost = new.broken }

        none_before : (first : Node K) → Since kept counts did breaks first old → halted old.trace.items ≡ None
        none_before first s = sym s.halt_is ∙ t.none

        halted_now : halted new.trace.items ≡ None
        halted_now = ap halted g.list ∙ (halted-push old.trace.items x_is (none_before first s) ∙ ap first_of t.no_halt)

        chain_is : (first : Node K) → Since kept counts did breaks first old → Chain did (records new.trace.items) first.keeper new.keeper
        chain_is first s =
            let xs = old.trace.items in
            let one = chain-push did (records xs) rec first.keeper old.keeper keeper (s.chain t.up) t.did_so in
            subst (Chain did (records new.trace.items) first.keeper) (sym g.keeper)
            (subst (λ l. Chain did l first.keeper keeper) (sym (ap records g.list ∙ (each-push (λ (y : Step). records_of y.deed) xs x_is ∙ ap (λ l. records xs ++ l) t.records_are))) one)

        up_is : (first : Node K) → Since kept counts did breaks first old → CountsUp (halted new.trace.items) (counts first.keeper) (counts new.keeper)
        up_is first s =
            let before : CountsUp None (counts first.keeper) (counts old.keeper) = subst (λ h. CountsUp h (counts first.keeper) (counts old.keeper)) (none_before first s) s.counted_up in
            let now : CountsUp None (counts first.keeper) (counts keeper) = then_up None (counts first.keeper) (counts old.keeper) (counts keeper) before t.counted in
            subst (λ h. CountsUp h (counts first.keeper) (counts new.keeper)) (sym halted_now)
            (subst (λ k. CountsUp None (counts first.keeper) (counts k)) (sym g.keeper) now)

  -- the server took the message m of the clerk c from this body
  pub record Taken (pass c : ℕ) (bytes : Snapshot (Vec ℕ Global)) (m : Msg) (served : Served) (old : Node K) (server : Server) (keeper : K) : Type 0 where
    pub up : old.broken ≡ false
    pub none : old.halt ≡ None
    pub said_so : said bytes.value.items ≡ Ok m
    pub sound : is_sound m ≡ true
    pub from : c ≡ sender m (clerk_by pass old.trace.items)
    pub does : Does (message_taken c m (state_of kept old)) (kept keeper) server served
    pub did_so : Did did served.rec old.keeper keeper
    pub counted : CountsUp None (counts old.keeper) (counts keeper)
    pub stands : StandsOn (kept keeper) server

  pub took : (pass c : ℕ) (bytes : Snapshot (Vec ℕ Global)) (m : Msg) (served : Served) (old new : Node K) (server : Server) (keeper : K) → Taken pass c bytes m served old server keeper
      → TookAs pass c bytes m served (record old { server = server; keeper = keeper }) new → Keeps kept counts did breaks old new
  took pass c bytes m served old new server keeper t g =
      acted pass (Took c bytes g.shot g.copy) (accepted (refusal_in served.sent) (hello_in m)) (posted served.sent) served.rec old new server keeper
      (record {
        up = t.up;
        none = t.none;
        is_deed = λ s0 boxes lead.
            let done = so (leads s0 old.trace.items) lead in (
              t.said_so ∙ ap Ok (sym g.shot_is),
              t.from ∙ ap (λ y. sender y (clerk_by pass old.trace.items)) (sym g.shot_is),
              (ap (λ d. d.sent) done ∙ ap (λ y. y.sent) (sym g.copy_is), ap (λ d. d.rec) done ∙ ap (λ y. y.rec) (sym g.copy_is), ap (λ d. d.spent) done),
              ap is_sound g.shot_is ∙ t.sound,
            );
        goes = ap (λ d. d.server) (so (state_of kept old) refl);
        records_are = ap (λ (y : Served). record_of y.rec) g.copy_is;
        box_is = λ k q. ap (λ (y : Served). put_all q (for_clerk k (posted y.sent))) g.copy_is;
        hello_is = ap (λ y. accepted (refusal_in g.copy.value.sent) (hello_in y)) g.shot_is ∙ ap (λ (y : Served). accepted (refusal_in y.sent) (hello_in m)) g.copy_is;
        no_halt = refl;
        breaking = λ lost e. e;
        did_so = t.did_so;
        counted = t.counted;
        stands = t.stands;
      })
      g.grew
    where
      so : (s : State) → s ≡ state_of kept old → message_taken c g.shot.value s ≡ record { server = standing (kept keeper) server; sent = served.sent; rec = served.rec; spent = None }
      so s is = ap (λ y. message_taken c y s) g.shot_is ∙ (ap (λ y. message_taken c m y) is ∙ t.does)

  -- the server ended the session of the clerk c
  pub record Ending (c : ℕ) (served : Served) (old : Node K) (server : Server) (keeper : K) : Type 0 where
    pub up : old.broken ≡ false
    pub none : old.halt ≡ None
    pub does : Does (session_ended c (state_of kept old)) (kept keeper) server served
    pub did_so : Did did served.rec old.keeper keeper
    pub counted : CountsUp None (counts old.keeper) (counts keeper)
    pub stands : StandsOn (kept keeper) server

  pub ended_so : (pass c : ℕ) (served : Served) (old new : Node K) (server : Server) (keeper : K) → Ending c served old server keeper
      → EndedAs pass c served (record old { server = server; keeper = keeper }) new → Keeps kept counts did breaks old new
  ended_so pass c served old new server keeper t g =
      acted pass (Ended c g.copy) None served.sent served.rec old new server keeper
      (record {
        up = t.up;
        none = t.none;
        is_deed = λ s0 boxes lead.
            let done = so (leads s0 old.trace.items) lead in
            (ap (λ d. d.sent) done ∙ ap (λ y. y.sent) (sym g.copy_is), ap (λ d. d.rec) done ∙ ap (λ y. y.rec) (sym g.copy_is), ap (λ d. d.spent) done);
        goes = ap (λ d. d.server) (so (state_of kept old) refl);
        records_are = ap (λ (y : Served). record_of y.rec) g.copy_is;
        box_is = λ k q. ap (λ (y : Served). put_all q (for_clerk k y.sent)) g.copy_is;
        hello_is = refl;
        no_halt = refl;
        breaking = λ lost e. e;
        did_so = t.did_so;
        counted = t.counted;
        stands = t.stands;
      })
      g.grew
    where
      so : (s : State) → s ≡ state_of kept old → session_ended c s ≡ record { server = standing (kept keeper) server; sent = served.sent; rec = served.rec; spent = None }
      so s is = ap (λ y. session_ended c y) is ∙ t.does

  -- This ended in a halt.
  pub record Halting (pass : ℕ) (deed : Deed) (h : Halt) (old : Node K) (server : Server) (keeper : K) : Type 0 where
    pub up : old.broken ≡ false
    pub none : old.halt ≡ None
    pub is_deed : (s0 : State) (boxes : ℕ → List Msg) → leads s0 old.trace.items ≡ state_of kept old → IsDeed s0 boxes pass old.trace.items deed
    pub goes : (s : State) → after s deed ≡ s
    pub no_records : records_of deed ≡ []
    pub box_is : (k : ℕ) (q : List Msg) → box_after k q deed ≡ q
    pub no_hello : hello_of deed ≡ None
    pub halts_are : halts_of deed ≡ h ∷ []
    pub breaking : spends h ≡ false → Breaks deed false
    pub same : not (spends h) ≡ false → (standing (kept keeper) server ≡ state_of kept old) × (keeper ≡ old.keeper)
    pub counted : CountsUp (Some h) (counts old.keeper) (counts keeper)
    pub stands : StandsOn (kept keeper) server
    pub doubt : Doubt did breaks old.keeper keeper

  pub stopped : (pass : ℕ) (deed : Deed) (h : Halt) (old new : Node K) (server : Server) (keeper : K) → Halting pass deed h old server keeper
      → Stops pass deed h (record old { server = server; keeper = keeper }) new → Keeps kept counts did breaks old new
  stopped pass deed h old new server keeper t g first s =
      let xs = old.trace.items in
      let s0 = state_of kept first in
      let x : Step = record { pass = pass; deed = deed; lost = false } in
      let lead : leads s0 xs ≡ state_of kept old = s.leads_to t.up in
      let none : halted xs ≡ None = sym s.halt_is ∙ t.none in
      let is_step : IsStep s0 (queue_at first.boxes.items) xs x = (none, t.is_deed s0 (queue_at first.boxes.items) lead) in
      let counted = s.counted in
      let up_then : new.broken ≡ false → not (spends h) ≡ false = λ e. sym (ap (λ n. n.broken) g.others) ∙ e in
      let keeper_is : new.keeper ≡ keeper = ap (λ n. n.keeper) g.others in
      let server_is : new.server ≡ server = ap (λ n. n.server) g.others in
      let boxes_are : new.boxes ≡ old.boxes = ap (λ n. n.boxes) g.others in
      let halted_now : halted new.trace.items ≡ Some h = ap halted g.list ∙ (halted-push xs x none ∙ ap first_of t.halts_are) in
      let records_are : records new.trace.items ≡ records xs = ap records g.list ∙ (each-push (λ (y : Step). records_of y.deed) xs x ∙ (ap (λ l. records xs ++ l) t.no_records ∙ append-nil (records xs))) in
      record {
        run = subst (IsRun s0 (queue_at first.boxes.items)) (sym g.list) (run_push s0 (queue_at first.boxes.items) xs x s.run is_step);
        counted = ap (λ n. n.steps) g.others ∙ (ap (λ n. n + 1) counted ∙ sym (ap length g.list ∙ length-append xs (x ∷ [])));
        leads_to = λ e. ap (leads s0) g.list ∙ (leads-push s0 xs x ∙ (t.goes (leads s0 xs) ∙ (lead ∙ (sym (t.same (up_then e)).0 ∙ (ap (λ y. standing (kept keeper) y) (sym server_is) ∙ ap (λ k. standing (kept k) new.server) (sym keeper_is))))));
        stands = subst (λ k. StandsOn (kept k) new.server) (sym keeper_is) (subst (StandsOn (kept keeper)) (sym server_is) t.stands);
        chain = λ e. subst (λ l. Chain did l first.keeper new.keeper) (sym records_are)
            (subst (Chain did (records xs) first.keeper) (sym (keeper_is ∙ (t.same (up_then e)).1)) (s.chain t.up));
        doubt = (
          old.keeper,
          subst (λ l. Chain did l first.keeper old.keeper) (sym records_are) (s.chain t.up),
          subst (Doubt did breaks old.keeper) (sym keeper_is) t.doubt,
        );
        sized = ap (λ b. length b.items) boxes_are ∙ s.sized;
        boxes = λ e k le. ap (λ b. queue_at b.items k) boxes_are ∙ (s.boxes t.up k le ∙ (sym (t.box_is k (box_from k (queue_at first.boxes.items k) xs)) ∙ sym (ap (box_from k (queue_at first.boxes.items k)) g.list ∙ box-push k (queue_at first.boxes.items k) xs x)));
        owners = λ e k le. ap (λ b. owner_at b.items k) boxes_are ∙ (s.owners t.up k le ∙ (ap (λ o. owner_now k o pass (owner k xs)) (sym t.no_hello) ∙ sym (ap (owner k) g.list ∙ owner-push k None xs x)));
        halt_is = ap (λ n. n.halt) g.others ∙ sym halted_now;
        wanted = λ down. subst Broken (sym g.list) (broken-last xs x (t.breaking (not_true (spends h) (sym (ap (λ n. n.broken) g.others) ∙ down))));
        counted_up = subst (λ o. CountsUp o (counts first.keeper) (counts new.keeper)) (sym halted_now) (subst (λ k. CountsUp (Some h) (counts first.keeper) (counts k)) (sym keeper_is)
            (then_up (Some h) (counts first.keeper) (counts old.keeper) (counts keeper) (subst (λ o. CountsUp o (counts first.keeper) (counts old.keeper)) none s.counted_up) t.counted));
      }

  -- what a fault leaves of the keeper
  pub in_doubt : (f : ServerFault) (done : Serving) (old new : K) → Hurts SpendsNothing did breaks f done old new → Doubt did breaks old new
  in_doubt (fault.Spent n) done old new h = inl h
  in_doubt fault.DiskFailed done old new h = inr (h.1.0, inr h.1.2)
  in_doubt fault.DiskStopped done old new h = inr (h.1.0, inr h.1.2)
  in_doubt fault.NoMemory done old new h = ⊎_elim (λ (same : new ≡ old). inl same) (λ (t : SpendsNothing done × ((r : Record) × (done.rec ≡ Some r) × (did old r new ⊎ breaks old r new))). inr (t.1.0, t.1.2)) h

  pub halting : (pass c : ℕ) (bytes : Snapshot (Vec ℕ Global)) (m : Msg) (shot : Snapshot Msg) (f : ServerFault) (h : Halt) (old : Node K) (server : Server) (keeper : K) (r : Result Served ServerFault) → shot.value ≡ m → old.broken ≡ false → old.halt ≡ None → said bytes.value.items ≡ Ok m
      → c ≡ sender m (clerk_by pass old.trace.items) → r ≡ Err f → halt_in f ≡ Some h → RefusesMessage f (message_taken c m (state_of kept old)) (state_of kept old) (standing (kept keeper) server) old.keeper keeper
      → Counted (counts old.keeper) (counts keeper) (r ≡ Err fault.DiskFailed) (r ≡ Err fault.DiskStopped) → StandsOn (kept keeper) server
      → Hurts SpendsNothing did breaks f (message_taken c m (state_of kept old)) old.keeper keeper → Halting pass (Halted c bytes shot h) h old server keeper
  halting pass c bytes m shot f h old server keeper r shot_is up none said_so from is e refuses counted stands hurts =
      let by = halts_by f h (message_taken c m (state_of kept old)) (state_of kept old) (standing (kept keeper) server) old.keeper keeper e refuses in
      record {
        up = up;
        none = none;
        is_deed = λ s0 boxes lead. (
          said_so ∙ ap Ok (sym shot_is),
          from ∙ ap (λ y. sender y (clerk_by pass old.trace.items)) (sym shot_is),
          subst (λ y. Halts h (message_taken c y (leads s0 old.trace.items))) (sym shot_is) (subst (λ y. Halts h (message_taken c m y)) (sym lead) by.0),
        );
        goes = λ s. refl;
        no_records = refl;
        box_is = λ k q. refl;
        no_hello = refl;
        halts_are = refl;
        breaking = λ e. e;
        same = by.1;
        counted = fault_up r f h (counts old.keeper) (counts keeper) is e counted;
        stands = stands;
        doubt = in_doubt f (message_taken c m (state_of kept old)) old.keeper keeper hurts;
      }

  pub halting_end : (pass c : ℕ) (f : ServerFault) (h : Halt) (old : Node K) (server : Server) (keeper : K) (r : Result Served ServerFault) → old.broken ≡ false → old.halt ≡ None
      → r ≡ Err f → halt_in f ≡ Some h → RefusesMessage f (session_ended c (state_of kept old)) (state_of kept old) (standing (kept keeper) server) old.keeper keeper
      → Counted (counts old.keeper) (counts keeper) (r ≡ Err fault.DiskFailed) (r ≡ Err fault.DiskStopped) → StandsOn (kept keeper) server
      → Hurts SpendsNothing did breaks f (session_ended c (state_of kept old)) old.keeper keeper → Halting pass (HaltedEnd c h) h old server keeper
  halting_end pass c f h old server keeper r up none is e refuses counted stands hurts =
      let by = halts_by f h (session_ended c (state_of kept old)) (state_of kept old) (standing (kept keeper) server) old.keeper keeper e refuses in
      record {
        up = up;
        none = none;
        is_deed = λ s0 boxes lead. subst (λ y. Halts h (session_ended c y)) (sym lead) by.0;
        goes = λ s. refl;
        no_records = refl;
        box_is = λ k q. refl;
        no_hello = refl;
        halts_are = refl;
        breaking = λ e. e;
        same = by.1;
        counted = fault_up r f h (counts old.keeper) (counts keeper) is e counted;
        stands = stands;
        doubt = in_doubt f (session_ended c (state_of kept old)) old.keeper keeper hurts;
      }

  -- memory was wanting in the server's step
  pub broke : (pass : ℕ) (old new : Node K) (server : Server) (keeper : K) → old.halt ≡ None → CountsUp None (counts old.keeper) (counts keeper) → StandsOn (kept keeper) server → old.broken ≡ false → Doubt did breaks old.keeper keeper
      → Fell pass (record old { server = server; keeper = keeper }) new → Keeps kept counts did breaks old new
  broke pass old new server keeper no_halt counted stands was_up doubt f first s =
      let xs = old.trace.items in
      let s0 = state_of kept first in
      let x : Step = record { pass = pass; deed = Broke; lost = true } in
      let keeper_is : new.keeper ≡ keeper = ap (λ n. n.keeper) f.others in
      let server_is : new.server ≡ server = ap (λ n. n.server) f.others in
      let none : halted xs ≡ None = sym s.halt_is ∙ no_halt in
      let before = s.counted in
      let down : new.broken ≡ true = ap (λ n. n.broken) f.others in
      let halted_now : halted new.trace.items ≡ None = ap halted f.list ∙ halted-push xs x none in
      let records_are : records new.trace.items ≡ records xs = ap records f.list ∙ (each-push (λ (y : Step). records_of y.deed) xs x ∙ append-nil (records xs)) in
      record {
        run = subst (IsRun s0 (queue_at first.boxes.items)) (sym f.list) (run_push s0 (queue_at first.boxes.items) xs x s.run (none, tt));
        counted = ap (λ n. n.steps) f.others ∙ (ap (λ n. n + 1) before ∙ sym (ap length f.list ∙ length-append xs (x ∷ [])));
        leads_to = λ up. absurd (two (sym down ∙ up));
        stands = subst (λ k. StandsOn (kept k) new.server) (sym keeper_is) (subst (StandsOn (kept keeper)) (sym server_is) stands);
        chain = λ up. absurd (two (sym down ∙ up));
        doubt = (old.keeper, subst (λ l. Chain did l first.keeper old.keeper) (sym records_are) (s.chain was_up), subst (Doubt did breaks old.keeper) (sym keeper_is) doubt);
        sized = ap (λ n. length n.boxes.items) f.others ∙ s.sized;
        boxes = λ up. absurd (two (sym down ∙ up));
        owners = λ up. absurd (two (sym down ∙ up));
        halt_is = ap (λ n. n.halt) f.others ∙ (no_halt ∙ sym halted_now);
        wanted = λ e. subst Broken (sym f.list) (broken-last xs x tt);
        counted_up = subst (λ o. CountsUp o (counts first.keeper) (counts new.keeper)) (sym halted_now) (subst (λ k. CountsUp None (counts first.keeper) (counts k)) (sym keeper_is)
            (then_up None (counts first.keeper) (counts old.keeper) (counts keeper) (subst (λ o. CountsUp o (counts first.keeper) (counts old.keeper)) none s.counted_up) counted));
      } where
        two : true ≡ false → ⊥
        two e = cc e

  -- Something was sent to a link.
  pub record Giving (pass : ℕ) (deed : Deed) (old new : Node K) : Type 0 where
    pub up : old.broken ≡ false
    pub none : old.halt ≡ None
    pub is_deed : (first : Node K) → Since kept counts did breaks first old → IsDeed (state_of kept first) (queue_at first.boxes.items) pass old.trace.items deed
    pub goes : (s : State) → after s deed ≡ s
    pub no_records : records_of deed ≡ []
    pub no_hello : hello_of deed ≡ None
    pub no_halt : halts_of deed ≡ []
    pub box_is : (k : ℕ) → queue_at new.boxes.items k ≡ box_after k (queue_at old.boxes.items k) deed
    pub owners : (k : ℕ) → owner_at new.boxes.items k ≡ owner_at old.boxes.items k
    pub sized : length new.boxes.items ≡ clerk_count
    pub list : new.trace.items ≡ old.trace.items ++ (record { pass = pass; deed = deed; lost = false }) ∷ []
    pub others : new ≡ record old { boxes = new.boxes; trace = new.trace; steps = old.steps + 1 }

  pub gave : (pass : ℕ) (deed : Deed) (old new : Node K) → Giving pass deed old new → Keeps kept counts did breaks old new
  gave pass deed old new g first s =
      let xs = old.trace.items in
      let s0 = state_of kept first in
      let x : Step = record { pass = pass; deed = deed; lost = false } in
      let none : halted xs ≡ None = sym s.halt_is ∙ g.none in
      let is_step : IsStep s0 (queue_at first.boxes.items) xs x = (none, g.is_deed first s) in
      let counted = s.counted in
      let keeper_is : new.keeper ≡ old.keeper = ap (λ n. n.keeper) g.others in
      let server_is : new.server ≡ old.server = ap (λ n. n.server) g.others in
      let halted_now : halted new.trace.items ≡ None = ap halted g.list ∙ (halted-push xs x none ∙ ap first_of g.no_halt) in
      let records_are : records new.trace.items ≡ records xs = ap records g.list ∙ (each-push (λ (y : Step). records_of y.deed) xs x ∙ (ap (λ l. records xs ++ l) g.no_records ∙ append-nil (records xs))) in
      record {
        run = subst (IsRun s0 (queue_at first.boxes.items)) (sym g.list) (run_push s0 (queue_at first.boxes.items) xs x s.run is_step);
        counted = ap (λ n. n.steps) g.others ∙ (ap (λ n. n + 1) counted ∙ sym (ap length g.list ∙ length-append xs (x ∷ [])));
        leads_to = λ e. ap (leads s0) g.list ∙ (leads-push s0 xs x ∙ (g.goes (leads s0 xs) ∙ (s.leads_to g.up ∙ (ap (λ y. standing (kept old.keeper) y) (sym server_is) ∙ ap (λ k. standing (kept k) new.server) (sym keeper_is)))));
        stands = subst (λ k. StandsOn (kept k) new.server) (sym keeper_is) (subst (StandsOn (kept old.keeper)) (sym server_is) s.stands);
        chain = λ e. subst (λ l. Chain did l first.keeper new.keeper) (sym records_are) (subst (Chain did (records xs) first.keeper) (sym keeper_is) (s.chain g.up));
        doubt = (old.keeper, subst (λ l. Chain did l first.keeper old.keeper) (sym records_are) (s.chain g.up), inl keeper_is);
        sized = g.sized;
        boxes = λ e k le. g.box_is k ∙ (ap (λ q. box_after k q deed) (s.boxes g.up k le) ∙ sym (ap (box_from k (queue_at first.boxes.items k)) g.list ∙ box-push k (queue_at first.boxes.items k) xs x));
        owners = λ e k le. g.owners k ∙ (s.owners g.up k le ∙ (ap (λ o. owner_now k o pass (owner k xs)) (sym g.no_hello) ∙ sym (ap (owner k) g.list ∙ owner-push k None xs x)));
        halt_is = ap (λ n. n.halt) g.others ∙ (g.none ∙ sym halted_now);
        wanted = λ down. absurd (cc (sym down ∙ (ap (λ n. n.broken) g.others ∙ g.up)));
        counted_up = subst (λ o. CountsUp o (counts first.keeper) (counts new.keeper)) (sym halted_now) (subst (λ k. CountsUp None (counts first.keeper) (counts k)) (sym keeper_is)
            (subst (λ o. CountsUp o (counts first.keeper) (counts old.keeper)) none s.counted_up));
      }

  -- the first message of an outbox
  pub giving_next : (pass c : ℕ) (m : Snapshot Msg) (old new : Node K) → old.broken ≡ false → old.halt ≡ None → c < clerk_count → (caller_by pass old.trace.items).refusal ≡ None → c ≡ clerk_by pass old.trace.items → is_for pass (owner_at old.boxes.items c) ≡ true → first_of (queue_at old.boxes.items c) ≡ Some m.value
      → ((k : ℕ) → queue_at new.boxes.items k ≡ cond (c == k) (drop 1 (queue_at old.boxes.items k)) (queue_at old.boxes.items k)) → ((k : ℕ) → owner_at new.boxes.items k ≡ owner_at old.boxes.items k) → length new.boxes.items ≡ clerk_count
      → new.trace.items ≡ old.trace.items ++ (record { pass = pass; deed = Gave c m; lost = false }) ∷ [] → new ≡ record old { boxes = new.boxes; trace = new.trace; steps = old.steps + 1 } → Giving pass (Gave c m) old new
  giving_next pass c m old new up none below no_refusal from mine next dropped owners sized list others = record {
    up = up;
    none = none;
    is_deed = λ first s. (no_refusal, from, sym (ap (is_for pass) (s.owners up c below)) ∙ mine, sym (ap first_of (s.boxes up c below)) ∙ next);
    goes = λ s. refl;
    no_records = refl;
    no_hello = refl;
    no_halt = refl;
    box_is = dropped;
    owners = owners;
    sized = sized;
    list = list;
    others = others;
  }

  -- a refusal
  pub giving_refusal : (pass : ℕ) (m : Snapshot Msg) (old new : Node K) → old.broken ≡ false → old.halt ≡ None → length old.boxes.items ≡ clerk_count → IsRefusal (caller_by pass old.trace.items).refusal m.value
      → new.trace.items ≡ old.trace.items ++ (record { pass = pass; deed = Refused m; lost = false }) ∷ [] → new ≡ record old { trace = new.trace; steps = old.steps + 1 } → Giving pass (Refused m) old new
  giving_refusal pass m old new up none sized is list others =
      let same : new.boxes ≡ old.boxes = ap (λ n. n.boxes) others in
      record {
        up = up;
        none = none;
        is_deed = λ first s. is;
        goes = λ s. refl;
        no_records = refl;
        no_hello = refl;
        no_halt = refl;
        box_is = λ k. ap (λ b. queue_at b.items k) same;
        owners = λ k. ap (λ b. owner_at b.items k) same;
        sized = ap (λ b. length b.items) same ∙ sized;
        list = list;
        others = boxes_same old new others;
      }
