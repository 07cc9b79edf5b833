-- What each event leaves of the slots.
use Rattle.std.proofs.Common.{◌≡◌, refl, sym, ap, subst, ◌∙◌, inl, inr, ◌+◌, ℕ, T, Bool, true, false, not, ◌==◌, List, [], ◌∷◌, ◌++◌, Option, Some, None}
use Rattle.std.specs.Prelude.{Contains, is_some, nat_le, Result, Ok, Err}
use Rattle.std.specs.List.{filter, list_any}
use Rattle.ec_base.specs.Tables.{at, put}
use Rattle.ec_base.specs.declared.counter.Counter.{Counter}
use Rattle.ec_base.specs.declared.counter.Counter.TheVariants as counter
use Rattle.ec_base.specs.Limits.{last_counter}
use Rattle.ec_volume.specs.Update.{member}
use Rattle.ec_plain.specs.declared.call.Call.{Call}
use Rattle.ec_history.specs.declared.shown.Shown.TheVariants as show
use Rattle.ec_sessions.specs.Slots.{is_open}
use Rattle.ec_durable.specs.Durable.{slot, step}
use Rattle.ec_durable.specs.declared.record.Record.{Record}
use Rattle.ec_durable.specs.declared.record.Record.TheVariants as record_of
use Rattle.ec_durable.specs.declared.record.RecordFault.{RecordFault}
use Rattle.ec_durable.specs.declared.state.Durable.{Durable}
use Rattle.ec_protocol.specs.Clerk.{Doing, begin, has_issued, push, resend, start, take as take_message}
use Rattle.ec_protocol.specs.Server.{Serving, commit, epoch, new_server, serving, spend, stay, tell_all}
use Rattle.ec_protocol.specs.Server as server
use Rattle.ec_protocol.specs.World as world
use Rattle.ec_protocol.specs.World.{Fate, runs, stops_with, stops_without, Moving, moving, noted, stepped}
use Rattle.ec_protocol.specs.declared.clerk.Clerk.{Clerk}
use Rattle.ec_protocol.specs.declared.clerk.Out.{Out}
use Rattle.ec_protocol.specs.declared.server.Server.{Server}
use Rattle.ec_protocol.specs.declared.world.Event.{Event}
use Rattle.ec_protocol.specs.declared.world.Event.TheVariants as event
use Rattle.ec_protocol.specs.declared.world.Sent.{Sent}
use Rattle.ec_protocol.specs.declared.world.World.{World}
use Rattle.ec_protocol.specs.declared.world.WorldFault.TheVariants as fault
use Rattle.ec_coherence.specs.System.{System}
use Rattle.ec_coherence.specs.Steps.{Committed, Stands}
use Rattle.ec_coherence.specs.Makes.{IsMade}
use Rattle.ec_coherence.proofs.ForCommits.Needs.{each-of}
use Rattle.ec_coherence.proofs.TakesMaking.{end-stands, takes-any}
use Rattle.ec_lawful.proofs.OfClerkSteps.ForJoins.Steps.{epoch-own}
use Rattle.ec_lawful.specs.Asked.{IsNoBye}
use Rattle.ec_lawful.specs.AskedLaws.{StandsAsked}
use Rattle.ec_lawful.specs.Steps.{HoldsIn}
use Rattle.ec_lawful.proofs.ForWhole.Outs.{came-out}
use Rattle.ec_lawful.proofs.ForWhole.Pool.{Sends, sends-all}
use Rattle.ec_lawful.proofs.ForAsked.Unended.{EndsNone, EndsOne, end-ends-one, take-ends-none}
use Rattle.ec_protocol.specs.Resumes.{resume, resume_on}
use Rattle.ec_lease_machine.specs.OfLeaseLaws.Slots.{EndsOf, SlotsGo}
use Rattle.ec_lease_machine.proofs.OfLeaseLaws.RecordSlots.{EndsWithin, record-goes, same-slots}
use Rattle.ec_base.proofs.Options.{none_some}
use Rattle.ec_lawful.proofs.ForAsked.ServingAsks.{tells-all}

-- The clerks' steps leave the disk.

module _ (w : World) where
  -- the disk is as it was
  abbrev pub Stays : World → Type 0
  Stays v = v.durable ≡ w.durable

  done-stays : (m : Moving) (c : ℕ) (d : Doing) → Stays m.world → (world.clerk_does c d m).fault ≡ None → Stays (world.clerk_does c d m).world
  done-stays m c d s f = go d.spent f
    where
      go : (o : Option Counter) → (elim o as (λ z. Moving) [ Some n ↦ world.fails (fault.Spent n) m.world | None ↦ world.come_out c d.outs (world.with_world (λ x. record x { clerks = put c d.clerk x.clerks }) m) ]).fault ≡ None
          → Stays (elim o as (λ z. Moving) [ Some n ↦ world.fails (fault.Spent n) m.world | None ↦ world.come_out c d.outs (world.with_world (λ x. record x { clerks = put c d.clerk x.clerks }) m) ]).world
      go (Some n) f = absurd (none_some (sym f))
      go None f = (came-out c d.outs (world.with_world (λ x. record x { clerks = put c d.clerk x.clerks }) m)).durable ∙ s

  choose : (b : Bool) (m n : Moving) → Stays m.world → Stays n.world → Stays (elim b as (λ z. Moving) [ true ↦ m | false ↦ n ]).world
  choose true m n x y = x
  choose false m n x y = y

  call-on-stays : (v : World) (c l : ℕ) (cl : Call) (before : List Out) (k : Clerk) → Stays v → (world.call_on c l cl before k v).fault ≡ None → Stays (world.call_on c l cl before k v).world
  call-on-stays v c l cl before k s f = go (begin cl k).spent f
    where
      m : Moving
      m = world.show_waits c (k.calls + 1) l cl (begin cl k).outs (moving (world.add_call c (k.calls + 1) l cl v))

      shown : Stays m.world
      shown = choose (list_any (world.is_answer_to (k.calls + 1)) (begin cl k).outs) (moving (world.add_call c (k.calls + 1) l cl v)) (world.show_line (show.Waits l c cl) (moving (world.add_call c (k.calls + 1) l cl v))) s s

      go : (o : Option Counter) → (elim o as (λ z. Moving) [ Some n ↦ world.fails (fault.Spent n) v | None ↦ world.clerk_does c (record (begin cl k) { outs = before ++ (begin cl k).outs }) m ]).fault ≡ None
          → Stays (elim o as (λ z. Moving) [ Some n ↦ world.fails (fault.Spent n) v | None ↦ world.clerk_does c (record (begin cl k) { outs = before ++ (begin cl k).outs }) m ]).world
      go (Some n) f = absurd (none_some (sym f))
      go None f = done-stays m c (record (begin cl k) { outs = before ++ (begin cl k).outs }) shown f

  call-stays : (c l : ℕ) (cl : Call) → (world.call c l cl w).fault ≡ None → Stays (world.call c l cl w).world
  call-stays c l cl f = go (at c w.clerks) f
    where
      v : World
      v = record w { boots = put c (world.boot c w + 1) w.boots }

      starts : (o : Option Counter) → (elim o as (λ z. Moving) [ Some n ↦ world.fails (fault.Spent n) w | None ↦ world.call_on c l cl (start c (world.boot c w + 1)).outs (start c (world.boot c w + 1)).clerk v ]).fault ≡ None
          → Stays (elim o as (λ z. Moving) [ Some n ↦ world.fails (fault.Spent n) w | None ↦ world.call_on c l cl (start c (world.boot c w + 1)).outs (start c (world.boot c w + 1)).clerk v ]).world
      starts (Some n) f = absurd (none_some (sym f))
      starts None f = call-on-stays v c l cl (start c (world.boot c w + 1)).outs (start c (world.boot c w + 1)).clerk refl f

      go : (o : Option Clerk) → (elim o as (λ z. Moving) [ Some k ↦ world.call_on c l cl [] k w | None ↦ world.start_and_call c l cl w ]).fault ≡ None
          → Stays (elim o as (λ z. Moving) [ Some k ↦ world.call_on c l cl [] k w | None ↦ world.start_and_call c l cl w ]).world
      go (Some k) f = call-on-stays w c l cl [] k refl f
      go None f = starts (start c (world.boot c w + 1)).spent f

  -- a call begins behind its line
  pub resume-stays : (c l : ℕ) (cl : Call) → (resume c l cl w).fault ≡ None → Stays (resume c l cl w).world
  resume-stays c l cl f = go (at c w.clerks) f
    where
      by : (k : Clerk) (o : Option Counter) → (elim o as (λ z. Moving) [ Some n ↦ world.fails (fault.Spent n) w | None ↦ world.clerk_does c (begin cl k) (moving (world.add_call c (k.calls + 1) l cl w)) ]).fault ≡ None
          → Stays (elim o as (λ z. Moving) [ Some n ↦ world.fails (fault.Spent n) w | None ↦ world.clerk_does c (begin cl k) (moving (world.add_call c (k.calls + 1) l cl w)) ]).world
      by k (Some n) f = absurd (none_some (sym f))
      by k None f = done-stays (moving (world.add_call c (k.calls + 1) l cl w)) c (begin cl k) refl f

      go : (o : Option Clerk) → (resume_on c l cl o w).fault ≡ None → Stays (resume_on c l cl o w).world
      go None f = refl
      go (Some k) f = by k (begin cl k).spent f

  kept-stays : (n : ℕ) (m : Moving) → Stays m.world → (world.kept_or n m w).fault ≡ None → Stays (world.kept_or n m w).world
  kept-stays n m s f = go (at n w.pool) f
    where
      go : (o : Option Sent) → (elim o as (λ z. Moving) [ None ↦ world.fails fault.NoSuchMsg w | Some s ↦ m ]).fault ≡ None → Stays (elim o as (λ z. Moving) [ None ↦ world.fails fault.NoSuchMsg w | Some s ↦ m ]).world
      go None f = absurd (none_some (sym f))
      go (Some x) f = s

  push-stays : (c n : ℕ) (o : Option Clerk) → (world.push c n o w).fault ≡ None → Stays (world.push c n o w).world
  push-stays c n None f = absurd (none_some (sym f))
  push-stays c n (Some k) f = go (has_issued n k) f
    where
      may-push : (b : Bool) → (elim b as (λ z. Moving) [ true ↦ world.clerk_does c (push n k) (moving w) | false ↦ world.nothing w ]).fault ≡ None → Stays (elim b as (λ z. Moving) [ true ↦ world.clerk_does c (push n k) (moving w) | false ↦ world.nothing w ]).world
      may-push true f = done-stays (moving w) c (push n k) refl f
      may-push false f = refl

      go : (b : Bool) → (elim b as (λ z. Moving) [ false ↦ world.fails fault.NoSuchOp w | true ↦ elim (world.is_undurable c n w) as (λ z. Moving) [ true ↦ world.clerk_does c (push n k) (moving w) | false ↦ world.nothing w ] ]).fault ≡ None
          → Stays (elim b as (λ z. Moving) [ false ↦ world.fails fault.NoSuchOp w | true ↦ elim (world.is_undurable c n w) as (λ z. Moving) [ true ↦ world.clerk_does c (push n k) (moving w) | false ↦ world.nothing w ] ]).world
      go false f = absurd (none_some (sym f))
      go true f = may-push (world.is_undurable c n w) f

  resend-stays : (c : ℕ) (o : Option Clerk) → (world.resend c o w).fault ≡ None → Stays (world.resend c o w).world
  resend-stays c None f = refl
  resend-stays c (Some k) f = done-stays (moving w) c (resend k) refl f

  crash-stays : (c : ℕ) (o : Option Clerk) → Stays (world.crash c o w).world
  crash-stays c None = refl
  crash-stays c (Some k) = refl

  stop-stays : (o : Option Server) → Stays (world.stop_server o w).world
  stop-stays None = refl
  stop-stays (Some v) = refl

-- The server's steps.

module _ (E : ℕ → Type 0) (w : World) where
  abbrev pub Goes : World → Type 0
  Goes v = SlotsGo E w.durable v.durable

  pub stays-go : (v : World) → v.durable ≡ w.durable → Goes v
  stays-go v p = same-slots E w.durable v.durable (ap (λ d. d.sessions) p) (ap (λ d. d.next_session) p)

  -- with a record that this disk takes, or none
  module _ (u : World) (same : u.durable ≡ w.durable) (t : Serving) where
    gone : (x : World) → Sends (record x { server = Some t.server; durable = t.server.durable }) (world.go_on t x) t.sent
    gone x = sends-all t.sent (record x { server = Some t.server; durable = t.server.durable })

    committed-go : (r : Record) → EndsWithin E r → step r u.durable ≡ Ok t.server.durable → (fate : Fate) → Goes (world.committed fate r t u).world
    committed-go r may steps runs =
        let n = world.show_noted (noted u.durable r) (moving (record u { records = u.records ++ r ∷ [] })) in
        subst (SlotsGo E w.durable) (sym (gone n.world).durable) (record-goes E r may w.durable t.server.durable (subst (λ d. step r d ≡ Ok t.server.durable) same steps))
    committed-go r may steps stops_without = stays-go (world.stop u) same
    committed-go r may steps stops_with =
        let now : stepped r u.durable ≡ t.server.durable = ap (λ x. elim x as (λ z. Durable) [ Ok e ↦ e | Err f ↦ u.durable ]) steps in
        subst (SlotsGo E w.durable) (sym now) (record-goes E r may w.durable t.server.durable (subst (λ d. step r d ≡ Ok t.server.durable) same steps))

    by-record : (fate : Fate) (o : Option Record) → ((r : Record) → o ≡ Some r → EndsWithin E r) → Committed u.durable o t.server.durable → Goes (world.served_record fate o t u).world
    by-record fate None may e = stays-go (world.go_on t u) ((gone u).durable ∙ e ∙ same)
    by-record fate (Some r) may e = committed-go r (may r refl) e fate

    pub served-go : (fate : Fate) → ((r : Record) → t.rec ≡ Some r → EndsWithin E r) → (t.spent ≡ None → Committed u.durable t.rec t.server.durable) → (world.served fate t u).fault ≡ None → Goes (world.served fate t u).world
    served-go fate may e f = go t.spent refl f
      where
        go : (o : Option Counter) → t.spent ≡ o → (elim o as (λ z. Moving) [ Some n ↦ world.fails (fault.Spent n) u | None ↦ world.served_record fate t.rec t u ]).fault ≡ None
            → Goes (elim o as (λ z. Moving) [ Some n ↦ world.fails (fault.Spent n) u | None ↦ world.served_record fate t.rec t u ]).world
        go (Some n) q f = absurd (none_some (sym f))
        go None q f = by-record fate t.rec may (e q)

-- A restart changes the epoch alone.

module _ {A : Type 0} (f : Durable → A) (same : (n : ℕ) (d : Durable) → f (record d { epoch = n }) ≡ f d) where
  start-field : (d : Durable) → f (server.start d).server.durable ≡ f d
  start-field d = go (nat_le last_counter d.epoch)
    where
      told : (x : Result Durable RecordFault) → step (record_of.Epoch (d.epoch + 1)) d ≡ x → f (elim x as (λ z. Serving) [
        | Ok e ↦ (let u : Serving = record (serving (new_server d)) { server = record (new_server d) { durable = e }; rec = Some (record_of.Epoch (d.epoch + 1)) } in tell_all 0 u.server.durable.sessions u)
        | Err f ↦ stay (serving (new_server d))
      ]).server.durable ≡ f d
      told (Ok e) q = ap (λ v. f v.durable) (tells-all 0 e.sessions (record (serving (new_server d)) { server = record (new_server d) { durable = e }; rec = Some (record_of.Epoch (d.epoch + 1)) })) ∙ ap f (epoch-own (d.epoch + 1) d e q) ∙ same (d.epoch + 1) d
      told (Err g) q = refl

      go : (z : Bool) → f (elim z as (λ y. Serving) [
        | true ↦ spend counter.Epoch (serving (new_server d))
        | false ↦ commit (record_of.Epoch (d.epoch + 1)) (λ u. tell_all 0 u.server.durable.sessions u) stay (serving (new_server d))
      ]).server.durable ≡ f d
      go true = refl
      go false = told (step (record_of.Epoch (d.epoch + 1)) d) refl

  epoch-field : (n : ℕ) (d : Durable) → f (stepped (record_of.Epoch n) d) ≡ f d
  epoch-field n d = go (step (record_of.Epoch n) d) refl
    where
      go : (x : Result Durable RecordFault) → step (record_of.Epoch n) d ≡ x → f (elim x as (λ z. Durable) [ Ok e ↦ e | Err g ↦ d ]) ≡ f d
      go (Ok e) q = ap f (epoch-own n d e q) ∙ same n d
      go (Err g) q = refl

module _ (E : ℕ → Type 0) (w : World) where
  pub restart-goes : (fate : Fate) → (world.restart fate w).fault ≡ None → Goes E w (world.restart fate w).world
  restart-goes fate f = go (server.start w.durable).spent f
    where
      by : (φ : Fate) → Goes E w (world.restarted φ (server.start w.durable) w).world
      by runs =
          let t = server.start w.durable in
          let m = world.show_line show.Started (world.show_noted w.unshown (moving w)) in
          let x = record (m.world) { unshown = None; records = m.world.records ++ record_of.Epoch t.server.durable.epoch ∷ [] } in
          let s = sends-all t.sent (record x { server = Some t.server; durable = t.server.durable }) in
          subst (SlotsGo E w.durable) (sym s.durable) (same-slots E w.durable t.server.durable (start-field (λ d. d.sessions) (λ n d. refl) w.durable) (start-field (λ d. d.next_session) (λ n d. refl) w.durable))
      by stops_without = stays-go E w w refl
      by stops_with =
          let n = (server.start w.durable).server.durable.epoch in
          same-slots E w.durable (stepped (record_of.Epoch n) w.durable) (epoch-field (λ d. d.sessions) (λ n d. refl) n w.durable) (epoch-field (λ d. d.next_session) (λ n d. refl) n w.durable)

      go : (o : Option Counter) → (elim o as (λ z. Moving) [ Some n ↦ world.fails (fault.Spent n) w | None ↦ world.restarted fate (server.start w.durable) w ]).fault ≡ None
          → Goes E w (elim o as (λ z. Moving) [ Some n ↦ world.fails (fault.Spent n) w | None ↦ world.restarted fate (server.start w.durable) w ]).world
      go (Some n) f = absurd (none_some (sym f))
      go None f = by fate

-- Each event.

ends-nobody : (E : ℕ → Type 0) (r : Record) → EndsNone (Some r) → EndsWithin E r
ends-nobody E (record_of.End d s) n = absurd n
ends-nobody E (record_of.Batch d s b ops) n = tt
ends-nobody E (record_of.Open d age s) n = tt
ends-nobody E (record_of.Ids d s got x) n = tt
ends-nobody E (record_of.Epoch e) n = tt

ends-him : (c : ℕ) (r : Record) → EndsOne c (Some r) → EndsWithin (λ d. d ≡ c) r
ends-him c (record_of.End d s) n = n
ends-him c (record_of.Batch d s b ops) n = tt
ends-him c (record_of.Open d age s) n = tt
ends-him c (record_of.Ids d s got x) n = tt
ends-him c (record_of.Epoch e) n = tt

module _ (first : ℕ → ℕ) (fate : Fate) (w : World) (h : HoldsIn (StandsAsked first) w) where
  abbrev g : System
  g = h.0

  abbrev st : Stands w g
  st = h.2

  same : (v : Server) → w.server ≡ Some v → w.durable ≡ g.durable
  same v q = st.up (subst (λ x. T (is_some x)) (sym (sym st.server ∙ q)) tt)

  committed : (v : Server) (t : Serving) → IsMade g v t → t.spent ≡ None → Committed g.durable t.rec t.server.durable
  committed v t (inl s) q = absurd (subst (λ o. T (is_some o)) q s)
  committed v t (inr (γ, s, m)) q = (s.0).committed

  deliver-goes : (E : ℕ → Type 0) (n : ℕ) → (world.deliver fate n w).fault ≡ None → Goes E w (world.deliver fate n w).world
  deliver-goes E n f = go (at n w.pool) refl f
    where
      to-clerk : (s : Sent) (o : Option Clerk) → (world.to_clerk s.clerk s.msg o (world.settled n w)).fault ≡ None → Goes E w (world.to_clerk s.clerk s.msg o (world.settled n w)).world
      to-clerk s None f = stays-go E w (world.settled n w) refl
      to-clerk s (Some k) f = stays-go E w (world.clerk_does s.clerk (take_message s.msg k) (moving (world.settled n w))).world (done-stays w (moving (world.settled n w)) s.clerk (take_message s.msg k) refl f)

      to-server : (s : Sent) → Contains g.pool (s.clerk, s.msg) → (o : Option Server) → w.server ≡ o → (world.to_server fate n s o w).fault ≡ None → Goes E w (world.to_server fate n s o w).world
      to-server s p None q f = stays-go E w (world.nothing w).world refl
      to-server s p (Some v) q f =
          let up : g.server ≡ Some v = sym st.server ∙ q in
          let t = server.take s.clerk s.msg v in
          let silent = each-of (λ z. IsNoBye z.1) g.pool (s.clerk, s.msg) (h.1.1).silent p in
          served-go E w (world.settled n w) refl t fate (λ r e. ends-nobody E r (subst EndsNone e (take-ends-none g v h.1.0 up s.clerk s.msg silent p)))
          (λ e. subst (λ d. Committed d t.rec t.server.durable) (sym (same v q)) (committed v t (takes-any g v h.1.0 up s.clerk s.msg p) e)) f

      to : (s : Sent) → Contains g.pool (s.clerk, s.msg) → (b : Bool) → (elim b as (λ z. Moving) [ true ↦ world.to_server fate n s w.server w | false ↦ world.to_clerk s.clerk s.msg (at s.clerk w.clerks) (world.settled n w) ]).fault ≡ None
          → Goes E w (elim b as (λ z. Moving) [ true ↦ world.to_server fate n s w.server w | false ↦ world.to_clerk s.clerk s.msg (at s.clerk w.clerks) (world.settled n w) ]).world
      to s p true f = to-server s p w.server refl f
      to s p false f = to-clerk s (at s.clerk w.clerks) f

      go : (o : Option Sent) → at n w.pool ≡ o → (elim o as (λ z. Moving) [ None ↦ world.fails fault.NoSuchMsg w | Some s ↦ world.deliver_to fate n s w ]).fault ≡ None
          → Goes E w (elim o as (λ z. Moving) [ None ↦ world.fails fault.NoSuchMsg w | Some s ↦ world.deliver_to fate n s w ]).world
      go None q f = absurd (none_some (sym f))
      go (Some s) q f = to s (st.pool n s.clerk s.nth s.msg q) (world.is_for_server s) f

  end-goes : (c : ℕ) (o : Option Server) → w.server ≡ o → (world.end fate c o w).fault ≡ None → Goes (λ d. d ≡ c) w (world.end fate c o w).world
  end-goes c None q f = stays-go (λ d. d ≡ c) w (world.nothing w).world refl
  end-goes c (Some v) q f = go (is_open (slot v.durable c)) f
    where
      go : (b : Bool) → (elim b as (λ z. Moving) [ true ↦ world.served fate (server.end c v) w | false ↦ world.nothing w ]).fault ≡ None → Goes (λ d. d ≡ c) w (elim b as (λ z. Moving) [ true ↦ world.served fate (server.end c v) w | false ↦ world.nothing w ]).world
      go false f = stays-go (λ d. d ≡ c) w (world.nothing w).world refl
      go true f =
          let up : g.server ≡ Some v = sym st.server ∙ q in
          let t = server.end c v in
          served-go (λ d. d ≡ c) w w refl t fate (λ r e. ends-him c r (subst (EndsOne c) e (end-ends-one c v)))
          (λ e. subst (λ d. Committed d t.rec t.server.durable) (sym (same v q)) (committed v t (end-stands g v h.1.0 up c) e)) f

  up-goes : (E : ℕ → Type 0) (o : Option Server) → (world.restart_server fate o w).fault ≡ None → Goes E w (world.restart_server fate o w).world
  up-goes E (Some v) f = stays-go E w (world.nothing w).world refl
  up-goes E None f = restart-goes E w fate f

  pub event-goes : (e : Event) → (world.happen fate e w).fault ≡ None → SlotsGo (EndsOf e) w.durable (world.happen fate e w).world.durable
  event-goes (event.Call c l cl) f = stays-go (EndsOf (event.Call c l cl)) w (world.call c l cl w).world (call-stays w c l cl f)
  event-goes (event.Push c n) f = stays-go (EndsOf (event.Push c n)) w (world.push c n (at c w.clerks) w).world (push-stays w c n (at c w.clerks) f)
  event-goes (event.Resend c) f = stays-go (EndsOf (event.Resend c)) w (world.resend c (at c w.clerks) w).world (resend-stays w c (at c w.clerks) f)
  event-goes (event.Cut c) f = stays-go (EndsOf (event.Cut c)) w (world.cut c w).world (choose w (member c w.cut) (world.nothing w) (moving (record w { cut = c ∷ w.cut })) refl refl)
  event-goes (event.Uncut c) f = stays-go (EndsOf (event.Uncut c)) w (world.uncut c w).world (choose w (member c w.cut) (moving (record w { cut = filter (λ d. not (d == c)) w.cut })) (world.nothing w) refl refl)
  event-goes (event.Drop n) f = stays-go (EndsOf (event.Drop n)) w (world.drop n w).world
      (kept-stays w n (elim (world.is_pending n w) as (λ z. Moving) [ true ↦ moving (world.settled n w) | false ↦ world.nothing w ]) (choose w (world.is_pending n w) (moving (world.settled n w)) (world.nothing w) refl refl) f)
  event-goes (event.Repeat n) f = stays-go (EndsOf (event.Repeat n)) w (world.repeat n w).world
      (kept-stays w n (moving (record w { pending = elim (world.is_pending n w) as (λ z. List ℕ) [ true ↦ w.pending | false ↦ world.among n w.pending ] })) refl f)
  event-goes (event.Deliver n) f = deliver-goes (EndsOf (event.Deliver n)) n f
  event-goes (event.Crash c) f = stays-go (EndsOf (event.Crash c)) w (world.crash c (at c w.clerks) w).world (crash-stays w c (at c w.clerks))
  event-goes (event.End c) f = end-goes c w.server refl f
  event-goes event.Stop f = stays-go (EndsOf event.Stop) w (world.stop_server w.server w).world (stop-stays w w.server)
  event-goes (event.Arm n ch) f = stays-go (EndsOf (event.Arm n ch)) w (record w { choice = ch }) refl
  event-goes event.Restart f = up-goes (EndsOf event.Restart) w.server f
