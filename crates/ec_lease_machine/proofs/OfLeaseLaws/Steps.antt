-- Leases agree with the sessions on the disk behind each step of a world with leases.
use Rattle.std.proofs.Common.{◌≡◌, refl, sym, ap, subst, ◌∙◌, arith, ◌≤◌, ◌<◌, ◌+◌, ℕ, T, Bool, true, false, List, [], ◌∷◌, ◌++◌, Option, Some, None}
use Rattle.std.specs.Prelude.{Contains, is_some, map, nat_lt}
use Rattle.std.specs.List.{list_any}
use Rattle.ec_base.specs.Tables.{at, at_or}
use Rattle.ec_plain.specs.declared.call.Call.{Call}
use Rattle.ec_sessions.specs.declared.slot.Slot.{Slot}
use Rattle.ec_durable.specs.Durable.{slot}
use Rattle.ec_protocol.specs.World as world
use Rattle.ec_protocol.specs.World.{Fate, runs, stops_with, stops_without, Moving, clerks, happen}
use Rattle.ec_protocol.specs.Server as server
use Rattle.ec_protocol.specs.declared.server.Server.{Server}
use Rattle.ec_protocol.specs.declared.world.Event.{Event}
use Rattle.ec_protocol.specs.declared.world.Event.TheVariants as of_world
use Rattle.ec_protocol.specs.declared.world.World.{World}
use Rattle.ec_protocol.specs.declared.world.WorldFault.{WorldFault}
use Rattle.ec_protocol.specs.declared.world.WorldFault.TheVariants.{Spent}
use Rattle.ec_history.specs.declared.shown.Shown.TheVariants.{Started}
use Rattle.ec_durable.specs.declared.record.Record.TheVariants.{Epoch}
use Rattle.ec_base.specs.declared.counter.Counter.{Counter}
use Rattle.ec_lawful.proofs.ForWhole.Pool.{sends-all}
use Rattle.ec_coherence.specs.Stops.{RunsOn}
use Rattle.ec_coherence.proofs.ForServer.Tables.{same_some}
use Rattle.ec_lawful.specs.AskedLaws.{StandsAsked}
use Rattle.ec_lawful.specs.Steps.{HoldsIn}
use Rattle.ec_protocol.specs.Resumes.{open_in, open_session, resume, session, wait}
use Rattle.ec_lease_machine.specs.Leases.{LeaseMoving, begin_each, begin_queued, end, ends_at, event_happens, fails, grant, hand, happens, in_world, is_held, is_kept, is_started, may_receive, moment_in, moved, moving, note_open, noted_if_started, nothing, nth, onward, opened_leases, queue, receive, shows, step, with_queue, world_happens}
use Rattle.ec_lease_machine.specs.declared.world.Lease.{Lease}
use Rattle.ec_lease_machine.specs.declared.world.LeaseEvent.{LeaseEvent}
use Rattle.ec_lease_machine.specs.declared.world.LeaseEvent.TheVariants as event
use Rattle.ec_lease_machine.specs.declared.world.LeaseFault.{LeaseFault}
use Rattle.ec_lease_machine.specs.declared.world.LeaseFault.TheVariants as fault
use Rattle.ec_lease_machine.specs.declared.world.LeaseShown.TheVariants.{Line, Held}
use Rattle.ec_lease_machine.specs.declared.world.LeaseWorld.{LeaseWorld}
use Rattle.ec_lease_machine.specs.OfLeaseLaws.Agrees.{AllPast, LeasesAgree}
use Rattle.ec_lease_machine.specs.OfLeaseLaws.Slots.{EndsOf}
use Rattle.ec_lease_machine.proofs.OfLeaseLaws.EventSlots.{event-goes, resume-stays}
use Rattle.ec_lease_machine.proofs.OfLeaseLaws.Issuing.{AreServed, IsOpenOn, issue-agrees, nth-issued, receive-agrees, renew-agrees, slots-agree, tick-agrees, world-agrees}
use Rattle.ec_lease_machine.proofs.OfLeaseLaws.RecordSlots.{same-slots}
use Rattle.ec_base.proofs.Options.{none_some, no-fault}
use Rattle.ec_base.proofs.Numbers.{none_more, above}

-- What the server says is open is open on the disk.
pub served : (first : ℕ → ℕ) (w : World) → HoldsIn (StandsAsked first) w → AreServed w
served first w (g, h, st) c s q = by w.server refl q
  where
    by : (o : Option Server) → w.server ≡ o → elim o as (λ z. Option ℕ) [ None ↦ None | Some v ↦ open_in (slot v.durable c) ] ≡ Some s → IsOpenOn w.durable c s × (s < w.durable.next_session)
    by None p q = absurd (none_some q)
    by (Some v) p q = in-slot (slot w.durable c) refl (sym (ap (λ d. open_in (slot d c)) own) ∙ q)
      where
        up : g.server ≡ Some v
        up = sym st.server ∙ p

        there : w.durable ≡ g.durable
        there = st.up (subst (λ o. T (is_some o)) (sym up) tt)

        own : v.durable ≡ w.durable
        own = (subst (RunsOn g) up (h.0.0).stops.runs).0 ∙ sym there

        is-it : (sl : Slot) (z : Bool) → sl.is_open ≡ z → elim z as (λ y. Option ℕ) [ true ↦ Some sl.session | false ↦ None ] ≡ Some s → T sl.is_open × (sl.session ≡ s)
        is-it sl true e r = (subst T (sym e) tt, same_some r)
        is-it sl false e r = absurd (none_some r)

        in-slot : (o : Option Slot) → slot w.durable c ≡ o → open_in o ≡ Some s → IsOpenOn w.durable c s × (s < w.durable.next_session)
        in-slot None e r = absurd (none_some r)
        in-slot (Some sl) e r =
            let i = is-it sl sl.is_open refl r in (
              record { slot_of = sl; in_slot = e; is_open = i.0; session = i.1 },
              subst (λ n. n < w.durable.next_session) i.1 (subst (λ d. sl.session < d.next_session) (sym there) ((h.0.0).sessions.slots c sl (ap (λ d. slot d c) (sym there) ∙ e)).1),
            )

-- A step of the world.

pub quiet-agrees : (x : LeaseWorld) (w : World) → w.durable ≡ x.world.durable → LeasesAgree x → LeasesAgree (in_world w x)
quiet-agrees x w q a = world-agrees (λ c. ⊥) x w (same-slots (λ c. ⊥) x.world.durable w.durable (ap (λ d. d.sessions) q) (ap (λ d. d.next_session) q)) a (λ c sl e p o. absurd e)

moved-agrees : (x : LeaseWorld) (m : Moving) → (m.fault ≡ None → LeasesAgree (in_world m.world x)) → (moved m x).fault ≡ None → LeasesAgree (moved m x).world
moved-agrees x m a f = by m.fault refl f
  where
    by : (o : Option WorldFault) → m.fault ≡ o → (elim o as (λ z. LeaseMoving) [ Some e ↦ fails (fault.World e) x | None ↦ shows (map Line m.shown) (in_world m.world x) ]).fault ≡ None
        → LeasesAgree (elim o as (λ z. LeaseMoving) [ Some e ↦ fails (fault.World e) x | None ↦ shows (map Line m.shown) (in_world m.world x) ]).world
    by (Some e) q f = no-fault f
    by None q f = a q

nothing-agrees : (x : LeaseWorld) → LeasesAgree x → LeasesAgree (nothing x).world
nothing-agrees x a = quiet-agrees x (world.nothing x.world).world refl a

-- Queues.

queue-same : (c : ℕ) (qs : List (ℕ × Call)) (x : LeaseWorld) → LeasesAgree x → LeasesAgree (with_queue c qs x)
queue-same c [] x a = record { new = a.new; received = a.received; noted = a.noted; past = a.past }
queue-same c (q ∷ qs) x a = record { new = a.new; received = a.received; noted = a.noted; past = a.past }

-- the first call of a queue has begun
abbrev pub begun : ℕ → ℕ × Call → LeaseMoving → LeaseMoving
begun c q m = onward m (moved (resume c q.0 q.1 m.world.world) m.world)

begin-agrees : (c : ℕ) (qs : List (ℕ × Call)) (m : LeaseMoving) → LeasesAgree m.world → (begin_each c qs m).fault ≡ None → LeasesAgree (begin_each c qs m).world
begin-agrees c [] m a f = queue-same c [] m.world a
begin-agrees c (q ∷ qs) m a f = by (is_held c m.world) (λ x e. begin-agrees c qs (begun c q m) x e) f
  where
    next : (begun c q m).fault ≡ None → LeasesAgree (begun c q m).world
    next f = moved-agrees m.world (resume c q.0 q.1 m.world.world) (λ e. quiet-agrees m.world (resume c q.0 q.1 m.world.world).world (resume-stays m.world.world c q.0 q.1 e) a) f

    goes : (LeasesAgree (begun c q m).world → (begin_each c qs (begun c q m)).fault ≡ None → LeasesAgree (begin_each c qs (begun c q m)).world)
        → (o : Option LeaseFault) → (begun c q m).fault ≡ o → (elim o as (λ z. LeaseMoving) [ Some e ↦ begun c q m | None ↦ begin_each c qs (begun c q m) ]).fault ≡ None
        → LeasesAgree (elim o as (λ z. LeaseMoving) [ Some e ↦ begun c q m | None ↦ begin_each c qs (begun c q m) ]).world
    goes more (Some e) p f = no-fault (sym p ∙ f)
    goes more None p f = more (next p) f

    by : (z : Bool) → (LeasesAgree (begun c q m).world → (begin_each c qs (begun c q m)).fault ≡ None → LeasesAgree (begin_each c qs (begun c q m)).world)
        → (elim z as (λ y. LeaseMoving) [ true ↦ record m { world = with_queue c (q ∷ qs) m.world } | false ↦ elim (begun c q m).fault as (λ k. LeaseMoving) [ Some e ↦ begun c q m | None ↦ begin_each c qs (begun c q m) ] ]).fault ≡ None
        → LeasesAgree (elim z as (λ y. LeaseMoving) [ true ↦ record m { world = with_queue c (q ∷ qs) m.world } | false ↦ elim (begun c q m).fault as (λ k. LeaseMoving) [ Some e ↦ begun c q m | None ↦ begin_each c qs (begun c q m) ] ]).world
    by true more f = queue-same c (q ∷ qs) m.world a
    by false more f = goes more (begun c q m).fault refl f

-- the queue of a clerk has gone on
abbrev pub gone_on : ℕ → LeaseMoving → LeaseMoving
gone_on c m = begin_each c (at_or [] c m.world.queued) m

-- a step without a fault had none before its queues
queued-agrees : (cs : List ℕ) (m : LeaseMoving) → (m.fault ≡ None → LeasesAgree m.world) → (begin_queued cs m).fault ≡ None → LeasesAgree (begin_queued cs m).world
queued-agrees [] m a f = a f
queued-agrees (c ∷ cs) m a f = by m.fault refl (λ x e. queued-agrees cs (gone_on c m) x e) f
  where
    by : (o : Option LeaseFault) → m.fault ≡ o → (((gone_on c m).fault ≡ None → LeasesAgree (gone_on c m).world) → (begin_queued cs (gone_on c m)).fault ≡ None → LeasesAgree (begin_queued cs (gone_on c m)).world)
        → (elim o as (λ z. LeaseMoving) [ Some e ↦ m | None ↦ begin_queued cs (gone_on c m) ]).fault ≡ None → LeasesAgree (elim o as (λ z. LeaseMoving) [ Some e ↦ m | None ↦ begin_queued cs (gone_on c m) ]).world
    by (Some e) q more f = no-fault (sym q ∙ f)
    by None q more f = more (λ e. begin-agrees c (at_or [] c m.world.queued) m (a q) e) f

-- Each event.

module _ (first : ℕ → ℕ) (fate : Fate) (x : LeaseWorld) (h : HoldsIn (StandsAsked first) x.world) (a : LeasesAgree x) where
  -- one that ends no session
  happens-agrees : (e : Event) → ((c : ℕ) → EndsOf e c → ⊥) → (world_happens fate e x).fault ≡ None → LeasesAgree (world_happens fate e x).world
  happens-agrees e none f = moved-agrees x (happen fate e x.world) (λ q. world-agrees (EndsOf e) x (happen fate e x.world).world (event-goes first fate x.world h e q) a (λ c sl n p o. absurd (none c n))) f

  -- the administrator's end, where all that was issued is past
  end-agrees : (c : ℕ) → ((s : ℕ) → open_session c x.world ≡ Some s → AllPast x c s) → (world_happens fate (of_world.End c) x).fault ≡ None → LeasesAgree (world_happens fate (of_world.End c) x).world
  end-agrees c past f = moved-agrees x (happen fate (of_world.End c) x.world) (by x.world.server refl) f
    where
      by : (o : Option Server) → x.world.server ≡ o → (world.end fate c o x.world).fault ≡ None → LeasesAgree (in_world (world.end fate c o x.world).world x)
      by None p q = quiet-agrees x (world.nothing x.world).world refl a
      by (Some v) p q = subst (λ o. LeasesAgree (in_world (world.end fate c o x.world).world x)) p
          (world-agrees (λ d. d ≡ c) x (happen fate (of_world.End c) x.world).world (event-goes first fate x.world h (of_world.End c) (subst (λ o. (world.end fate c o x.world).fault ≡ None) (sym p) q)) a may)
        where
          own : v.durable ≡ x.world.durable
          own =
              let st = h.2 in
              let up : (h.0).server ≡ Some v = sym st.server ∙ p in
              (subst (RunsOn h.0) up (h.1.0.0).stops.runs).0 ∙ sym (st.up (subst (λ o. T (is_some o)) (sym up) tt))

          may : (d : ℕ) (sl : Slot) → d ≡ c → slot x.world.durable d ≡ Some sl → T sl.is_open → AllPast x d sl.session
          may d sl e q o = subst (λ k. AllPast x k sl.session) (sym e) (past sl.session (ap (λ k. elim k as (λ z. Option ℕ) [ None ↦ None | Some u ↦ open_in (slot u.durable c) ]) p ∙ ap (λ k. open_in (slot k c)) own
              ∙ ap (λ k. open_in (slot x.world.durable k)) (sym e) ∙ ap open_in q ∙ is-open sl.is_open o))
            where
              is-open : (z : Bool) → T z → elim z as (λ y. Option ℕ) [ true ↦ Some sl.session | false ↦ None ] ≡ Some sl.session
              is-open true t = refl
              is-open false t = absurd t

  -- the moment that was noted for the open session
  noted-past : (c s : ℕ) → open_session c x.world ≡ Some s → (o : Option ℕ) → moment_in s (at c x.noted) ≡ o
      → ((m : ℕ) → o ≡ Some m → m + x.most ≤ x.now) → AllPast x c s
  noted-past c s q o p late b i r =
      let is = (served first x.world h c s q).0 in
      let n = a.noted c is.slot_of is.in_slot is.is_open b i (r ∙ sym is.session) in
      before b.moment n.0 x.most x.now n.2 (late n.0 (sym p ∙ ap (λ k. moment_in k (at c x.noted)) (sym is.session) ∙ n.1))
    where
      before : (m n e t : ℕ) → m ≤ n → n + e ≤ t → m + e ≤ t
      before m n e t p q = omega (arith, p, q)

  ends-agree : (c : ℕ) → (end fate c (ends_at c (open_session c x.world) x) x).fault ≡ None → LeasesAgree (end fate c (ends_at c (open_session c x.world) x) x).world
  ends-agree c f = by (open_session c x.world) refl f
    where
      checked : (s m : ℕ) → open_session c x.world ≡ Some s → moment_in s (at c x.noted) ≡ Some m → (z : Bool) → nat_lt x.now (m + x.most) ≡ z
          → (elim z as (λ y. LeaseMoving) [ true ↦ shows (Held c (m + x.most) ∷ []) x | false ↦ world_happens fate (of_world.End c) x ]).fault ≡ None
          → LeasesAgree (elim z as (λ y. LeaseMoving) [ true ↦ shows (Held c (m + x.most) ∷ []) x | false ↦ world_happens fate (of_world.End c) x ]).world
      checked s m q p true e f = a
      checked s m q p false e f = end-agrees c (λ t r. subst (AllPast x c) (same_some (sym q ∙ r)) (noted-past c s q (Some m) p (λ n u. subst (λ k. k + x.most ≤ x.now) (same_some u) late))) f
        where
          late : m + x.most ≤ x.now
          late = above x.now (m + x.most) e

      at-moment : (s : ℕ) → open_session c x.world ≡ Some s → (o : Option ℕ) → moment_in s (at c x.noted) ≡ o
          → (end fate c (elim o as (λ z. Option ℕ) [ None ↦ None | Some m ↦ Some (m + x.most) ]) x).fault ≡ None → LeasesAgree (end fate c (elim o as (λ z. Option ℕ) [ None ↦ None | Some m ↦ Some (m + x.most) ]) x).world
      at-moment s q None p f = end-agrees c (λ t r. subst (AllPast x c) (same_some (sym q ∙ r)) (noted-past c s q None p (λ n u. absurd (none_some u)))) f
      at-moment s q (Some m) p f = checked s m q p (nat_lt x.now (m + x.most)) refl f

      by : (o : Option ℕ) → open_session c x.world ≡ o → (end fate c (ends_at c o x) x).fault ≡ None → LeasesAgree (end fate c (ends_at c o x) x).world
      by None q f = end-agrees c (λ t r. absurd (none_some (sym q ∙ r))) f
      by (Some s) q f = at-moment s q (moment_in s (at c x.noted)) refl f

  queue-agrees : (c l : ℕ) (cl : Call) → LeasesAgree (queue c l cl x).world
  queue-agrees c l cl = let b = quiet-agrees x (wait c l cl x.world).world refl a in record { new = b.new; received = b.received; noted = b.noted; past = b.past }

  choose : (z : Bool) (m n : LeaseMoving) → LeasesAgree m.world → (n.fault ≡ None → LeasesAgree n.world) → (elim z as (λ y. LeaseMoving) [ true ↦ m | false ↦ n ]).fault ≡ None → LeasesAgree (elim z as (λ y. LeaseMoving) [ true ↦ m | false ↦ n ]).world
  choose true m n b d f = b
  choose false m n b d f = d f

  -- Behind a restart the server's state is what the disk has.
  module _ (w : World) where
    came-up : (φ : Fate) → (v : Server) → (world.restarted φ (server.start w.durable) w).world.server ≡ Some v → w.server ≡ None → v.durable ≡ (world.restarted φ (server.start w.durable) w).world.durable
    came-up runs v q down =
        let t = server.start w.durable in
        let m = world.show_line Started (world.show_noted w.unshown (world.moving w)) in
        let y = record (m.world) { unshown = None; records = m.world.records ++ Epoch t.server.durable.epoch ∷ [] } in
        let s = sends-all t.sent (record y { server = Some t.server; durable = t.server.durable }) in
        ap (λ u. u.durable) (sym (same_some (sym s.server ∙ q))) ∙ sym s.durable
    came-up stops_without v q down = absurd (none_some (sym down ∙ q))
    came-up stops_with v q down = absurd (none_some (sym down ∙ q))

    restart-on-disk : w.server ≡ None → (world.restart fate w).fault ≡ None → (v : Server) → (world.restart fate w).world.server ≡ Some v → v.durable ≡ (world.restart fate w).world.durable
    restart-on-disk down f v q = by (server.start w.durable).spent f q
      where
        by : (o : Option Counter) → (elim o as (λ z. Moving) [ Some n ↦ world.fails (Spent n) w | None ↦ world.restarted fate (server.start w.durable) w ]).fault ≡ None
            → (elim o as (λ z. Moving) [ Some n ↦ world.fails (Spent n) w | None ↦ world.restarted fate (server.start w.durable) w ]).world.server ≡ Some v
            → v.durable ≡ (elim o as (λ z. Moving) [ Some n ↦ world.fails (Spent n) w | None ↦ world.restarted fate (server.start w.durable) w ]).world.durable
        by (Some n) f q = no-fault f
        by None f q = came-up fate v q down

  on-disk : (v : Server) → x.world.server ≡ Some v → v.durable ≡ x.world.durable
  on-disk v q =
      let st = h.2 in
      let up : (h.0).server ≡ Some v = sym st.server ∙ q in
      (subst (RunsOn h.0) up (h.1.0.0).stops.runs).0 ∙ sym (st.up (subst (λ o. T (is_some o)) (sym up) tt))

  up-on-disk : (o : Option Server) → x.world.server ≡ o → (world.restart_server fate o x.world).fault ≡ None → (v : Server) → (world.restart_server fate o x.world).world.server ≡ Some v → v.durable ≡ (world.restart_server fate o x.world).world.durable
  up-on-disk None q f v r = restart-on-disk x.world q f v r
  up-on-disk (Some u) q f v r = on-disk v r

  -- at a start the server's slots are those of the disk
  started-agrees : (m : LeaseMoving) → LeasesAgree m.world → ((v : Server) → m.world.world.server ≡ Some v → v.durable ≡ m.world.world.durable) → LeasesAgree (noted_if_started m).world
  started-agrees m b there = by (list_any is_started m.shown)
    where
      noting : (o : Option Server) → m.world.world.server ≡ o → LeasesAgree (note_open o m.world)
      noting None q = b
      noting (Some v) q = (slots-agree 0 v.durable.sessions m.world (λ i. ap (slot m.world.world.durable) (none_more i) ∙ ap (λ d. slot d i) (sym (there v q))) b).agrees

      by : (z : Bool) → LeasesAgree (elim z as (λ y. LeaseMoving) [ true ↦ record m { world = note_open m.world.world.server m.world } | false ↦ m ]).world
      by true = noting m.world.world.server refl
      by false = b

  restart-agrees : (noted_if_started (world_happens fate of_world.Restart x)).fault ≡ None → LeasesAgree (noted_if_started (world_happens fate of_world.Restart x)).world
  restart-agrees f = by (happen fate of_world.Restart x.world).fault refl (unnoted (list_any is_started m.shown) f)
    where
      m : LeaseMoving
      m = world_happens fate of_world.Restart x

      unnoted : (z : Bool) → (elim z as (λ y. LeaseMoving) [ true ↦ record m { world = note_open m.world.world.server m.world } | false ↦ m ]).fault ≡ None → m.fault ≡ None
      unnoted true e = e
      unnoted false e = e

      by : (o : Option WorldFault) → (happen fate of_world.Restart x.world).fault ≡ o → m.fault ≡ None → LeasesAgree (noted_if_started m).world
      by (Some e) q f = no-fault (sym (ap (λ k. (elim k as (λ z. LeaseMoving) [ Some e ↦ fails (fault.World e) x | None ↦ shows (map Line (happen fate of_world.Restart x.world).shown) (in_world (happen fate of_world.Restart x.world).world x) ]).fault) q) ∙ f)
      by None q f = started-agrees m (happens-agrees of_world.Restart (λ c e. e) f) (λ v r. its v (sym (ap (λ y. y.world.server) now) ∙ r) ∙ ap (λ y. y.world.durable) (sym now))
        where
          now : m.world ≡ in_world (happen fate of_world.Restart x.world).world x
          now = ap (λ k. (elim k as (λ z. LeaseMoving) [ Some e ↦ fails (fault.World e) x | None ↦ shows (map Line (happen fate of_world.Restart x.world).shown) (in_world (happen fate of_world.Restart x.world).world x) ]).world) q

          its : (v : Server) → (happen fate of_world.Restart x.world).world.server ≡ Some v → v.durable ≡ (happen fate of_world.Restart x.world).world.durable
          its v r = up-on-disk x.world.server refl q v r

  event-agrees : (e : Event) → (event_happens fate e x).fault ≡ None → LeasesAgree (event_happens fate e x).world
  event-agrees (of_world.Call c l cl) f = choose (is_held c x) (queue c l cl x) (world_happens fate (of_world.Call c l cl) x) (queue-agrees c l cl) (happens-agrees (of_world.Call c l cl) (λ d e. e)) f
  event-agrees (of_world.Deliver n) f = choose (is_kept n x) (nothing x) (world_happens fate (of_world.Deliver n) x) (nothing-agrees x a) (happens-agrees (of_world.Deliver n) (λ d e. e)) f
  event-agrees (of_world.Crash c) f = crashed
    where
      y : LeaseWorld
      y = with_queue c [] x

      crashed : LeasesAgree (world_happens fate (of_world.Crash c) y).world
      crashed = let b = happens-agrees (of_world.Crash c) (λ d e. e) (unqueued f) in without b
        where
          unqueued : (world_happens fate (of_world.Crash c) y).fault ≡ None → (world_happens fate (of_world.Crash c) x).fault ≡ None
          unqueued f = by (happen fate (of_world.Crash c) x.world).fault f
            where
              by : (o : Option WorldFault) → (elim o as (λ z. LeaseMoving) [ Some e ↦ fails (fault.World e) y | None ↦ shows (map Line (happen fate (of_world.Crash c) x.world).shown) (in_world (happen fate (of_world.Crash c) x.world).world y) ]).fault ≡ None
                  → (elim o as (λ z. LeaseMoving) [ Some e ↦ fails (fault.World e) x | None ↦ shows (map Line (happen fate (of_world.Crash c) x.world).shown) (in_world (happen fate (of_world.Crash c) x.world).world x) ]).fault ≡ None
              by (Some e) f = no-fault f
              by None f = refl

          without : LeasesAgree (world_happens fate (of_world.Crash c) x).world → LeasesAgree (world_happens fate (of_world.Crash c) y).world
          without b = by (happen fate (of_world.Crash c) x.world).fault b
            where
              by : (o : Option WorldFault) → LeasesAgree (elim o as (λ z. LeaseMoving) [ Some e ↦ fails (fault.World e) x | None ↦ shows (map Line (happen fate (of_world.Crash c) x.world).shown) (in_world (happen fate (of_world.Crash c) x.world).world x) ]).world
                  → LeasesAgree (elim o as (λ z. LeaseMoving) [ Some e ↦ fails (fault.World e) y | None ↦ shows (map Line (happen fate (of_world.Crash c) x.world).shown) (in_world (happen fate (of_world.Crash c) x.world).world y) ]).world
              by (Some e) b = record { new = b.new; received = b.received; noted = b.noted; past = b.past }
              by None b = record { new = b.new; received = b.received; noted = b.noted; past = b.past }
  event-agrees (of_world.End c) f = ends-agree c f
  event-agrees of_world.Restart f = restart-agrees f
  event-agrees (of_world.Push c n) f = happens-agrees (of_world.Push c n) (λ d e. e) f
  event-agrees (of_world.Resend c) f = happens-agrees (of_world.Resend c) (λ d e. e) f
  event-agrees (of_world.Cut c) f = happens-agrees (of_world.Cut c) (λ d e. e) f
  event-agrees (of_world.Uncut c) f = happens-agrees (of_world.Uncut c) (λ d e. e) f
  event-agrees (of_world.Drop n) f = happens-agrees (of_world.Drop n) (λ d e. e) f
  event-agrees (of_world.Repeat n) f = happens-agrees (of_world.Repeat n) (λ d e. e) f
  event-agrees of_world.Stop f = happens-agrees of_world.Stop (λ d e. e) f
  event-agrees (of_world.Arm n ch) f = happens-agrees (of_world.Arm n ch) (λ d e. e) f

  -- The other events.

  grant-agrees : (c : ℕ) (o : Option ℕ) → open_session c x.world ≡ o → LeasesAgree (grant c o x).world
  grant-agrees c None q = nothing-agrees x a
  grant-agrees c (Some s) q = let is = served first x.world h c s q in issue-agrees c s x is.0 a is.1

  hand-agrees : (c n : ℕ) (o : Option Lease) → nth n (at_or [] c x.issued) ≡ o → (hand c o x).fault ≡ None → LeasesAgree (hand c o x).world
  hand-agrees c n None q f = no-fault f
  hand-agrees c n (Some b) q f = by (may_receive c b x)
    where
      by : (z : Bool) → LeasesAgree (elim z as (λ y. LeaseMoving) [ true ↦ moving (receive c b x) | false ↦ nothing x ]).world
      by true = receive-agrees c b x (nth-issued n (at_or [] c x.issued) b q) a
      by false = nothing-agrees x a

  pub each-agrees : (e : LeaseEvent) → (happens fate e x).fault ≡ None → LeasesAgree (happens fate e x).world
  each-agrees (event.World e) f = event-agrees e f
  each-agrees (event.Tick n) f = tick-agrees x n a
  each-agrees (event.Skew c s) f = record { new = a.new; received = a.received; noted = a.noted; past = a.past }
  each-agrees (event.Grant c) f = grant-agrees c (open_session c x.world) refl
  each-agrees (event.Hand c n) f = hand-agrees c n (nth n (at_or [] c x.issued)) refl f
  each-agrees event.Renew f = (renew-agrees clerks x (served first x.world h) a).agrees

  pub step-agrees : (e : LeaseEvent) → (step fate e x).fault ≡ None → LeasesAgree (step fate e x).world
  step-agrees e f = queued-agrees clerks (happens fate e x) (each-agrees e) f

pub opening-agrees : (l e : ℕ) (w : World) → LeasesAgree (opened_leases l e w)
opening-agrees l e w = record { new = λ c a i. none i; received = λ c a q. absurd (none_some q); noted = λ c sl q t a i. none i; past = λ c sl q t a i. none i }
  where
    none : {A : Type 0} {b : Lease} → Contains [] b → A
    none i = absurd (below i.1)
      where
        below : {n : ℕ} → n < 0 → ⊥
        below p = omega (arith, p)
