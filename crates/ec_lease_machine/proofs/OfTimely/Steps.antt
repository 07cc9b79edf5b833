-- The lines of a world stay timely behind each event.
use Rattle.std.proofs.Common.{◌≡◌, refl, sym, ap, subst, ◌∙◌, arith, ◌≤◌, ◌+◌, ℕ, T, Bool, true, false, not, ◌==◌, ◌&&◌, ◌||◌, ◌-◌, cond, List, [], ◌∷◌, ◌++◌, Option, Some, None}
use Rattle.std.specs.Prelude.{is_none, is_some}
use Rattle.std.specs.List.{filter, list_any}
use Rattle.ec_base.specs.Tables.{at, at_or, keys, put, without}
use Rattle.ec_base.specs.declared.counter.Counter.{Counter}
use Rattle.ec_volume.specs.Update.{member}
use Rattle.ec_plain.specs.BoundedCalls.{is_bounded}
use Rattle.ec_plain.specs.declared.call.Call.{Call}
use Rattle.ec_history.specs.History.{Each, Op}
use Rattle.ec_history.specs.Placing.{watch}
use Rattle.ec_history.specs.declared.shown.Shown.{Shown}
use Rattle.ec_history.specs.declared.shown.Shown.TheVariants as show
use Rattle.ec_history.proofs.OfLaws.ForPlacing.Numbers.{each-append}
use Rattle.ec_history.proofs.OfLaws.ForPlacing.Watching.{untold-runs}
use Rattle.ec_sessions.specs.Slots.{is_open}
use Rattle.ec_wire.specs.Messages.{kind, same_kind}
use Rattle.ec_wire.specs.declared.msg.Msg.{Msg}
use Rattle.ec_wire.specs.declared.msg.MsgKind.{MsgKind}
use Rattle.ec_wire.specs.declared.msg.MsgKind.TheVariants as kind_of
use Rattle.ec_durable.specs.Durable.{slot}
use Rattle.ec_durable.specs.declared.record.Record.{Record}
use Rattle.ec_durable.specs.declared.record.Record.TheVariants as record_of
use Rattle.ec_protocol.specs.Clerk.{Doing, add_call, begin, has_issued, push, resend, start, take as take_message}
use Rattle.ec_protocol.specs.Clerk as clerk
use Rattle.ec_protocol.specs.Server.{Serving}
use Rattle.ec_protocol.specs.Server as server
use Rattle.ec_protocol.specs.World.{Fate, runs, stops_with, stops_without, Moving, moving}
use Rattle.ec_protocol.specs.World as world
use Rattle.ec_protocol.specs.declared.clerk.Clerk.{Clerk}
use Rattle.ec_protocol.specs.declared.clerk.Out.{Out}
use Rattle.ec_protocol.specs.declared.clerk.Out.TheVariants as out
use Rattle.ec_protocol.specs.declared.clerk.Waiting.{Waiting}
use Rattle.ec_protocol.specs.declared.server.Server.{Server}
use Rattle.ec_protocol.specs.declared.world.Event.{Event}
use Rattle.ec_protocol.specs.declared.world.Event.TheVariants as event
use Rattle.ec_protocol.specs.declared.world.Noted.{Noted}
use Rattle.ec_protocol.specs.declared.world.Noted.TheVariants as noted_of
use Rattle.ec_protocol.specs.declared.world.Sent.{Sent}
use Rattle.ec_protocol.specs.declared.world.World.{World}
use Rattle.ec_protocol.specs.declared.world.WorldFault.TheVariants as fault
use Rattle.ec_coherence.specs.ChangeLaws.{Calls}
use Rattle.ec_coherence.specs.Events.{IsUncut}
use Rattle.ec_coherence.specs.Log.{numbered}
use Rattle.ec_coherence.specs.Steps.{Stands, call_of, out_lines}
use Rattle.ec_coherence.specs.System.{System, is_of}
use Rattle.ec_coherence.proofs.ForServer.Tables.{same_some}
use Rattle.ec_lawful.specs.OfClerkSteps.Calls.{Began}
use Rattle.ec_lawful.specs.OfClerkSteps.Cuts.{CutKnows, lost_of}
use Rattle.ec_lawful.proofs.OfClerkSteps.ForCalls.Begin.{call-put}
use Rattle.ec_lawful.proofs.OfClerkSteps.ForJoins.Owing.{keys-are, log-lost}
use Rattle.ec_lawful.proofs.OfClerkSteps.ForCalls.Quiets.{quiet-resend}
use Rattle.ec_lawful.proofs.OfClerkSteps.ForJoins.Slots.{its-slot}
use Rattle.ec_log.specs.Log as log
use Rattle.ec_lawful.specs.Whole.{Whole}
use Rattle.ec_lawful.proofs.ForWhole.Outs.{came-out}
use Rattle.ec_lawful.proofs.ForWhole.Pool.{sends-all}
use Rattle.ec_protocol.specs.OfPool.Goings.{goes_to}
use Rattle.ec_protocol.specs.Resumes.{resume, resume_on, session}
use Rattle.ec_history.specs.OfLaws.OfPrinted.Timely.{AreTimely, IsBare, IsTimely}
use Rattle.ec_lease_machine.specs.OfTimely.Timely.{IsTold, MayAnswer}
use Rattle.ec_lease_machine.proofs.OfTimely.Lines.{IsBareOut, bare-timely, none-timely, silent-timely, timely-append, waits-untold}
use Rattle.ec_lease_machine.proofs.OfTimely.Outside.{IsBareAnswer, begins-bare}
use Rattle.ec_lease_machine.proofs.OfTimely.Taking.{ended-timely, is-ended, outside-timely}
use Rattle.ec_base.proofs.Options.{none_some}
use Rattle.ec_lawful.proofs.Events.{runs-in}
use Rattle.ec_history.proofs.OfLaws.ForPlacing.BasesAlike.{each-map}

-- What a clerk without a session lost.

module _ (g : System) (whole : Whole g) (c b : ℕ) (k : Clerk) (run : g.running c ≡ Some b) (there : g.clerks c b ≡ Some k) (out : k.session ≡ None) where
  none-lost : (s : ℕ) (ks : List Op) → CutKnows g c s k ks → g.ghost.owner s ≡ Some (c, k.age) → (watch c g.ghost.shown).untold ≡ Some []
  none-lost s ks cut o =
      let sl = its-slot g whole.all c b k run there s o in
      let none = ((whole.all).0.sessions.without c b k there out).undurable in
      let gone : numbered (lost_of g.ghost s ks) ≡ [] =
      sym (log-lost (sl.0).window k.log (is_of (g.ghost.owner s)) g.ghost.is_durable ks (cut.knows sl.0 sl.1))
      ∙ ap (λ ops. filter (λ op. not (log.is_kept_by (sl.0).window k.log op.0)) ops) none
      in
      cut.untold ∙ ap (λ ns. Some ns) (sym (keys-are (lost_of g.ghost s ks)) ∙ ap keys gone)

  -- it lost nothing
  pub outside-lost : (ns : List ℕ) → (watch c g.ghost.shown).untold ≡ Some ns → ns ≡ []
  outside-lost [] u = refl
  outside-lost (n ∷ ns) u = absurd (none_some (sym ((whole.all).0.events.untold c b k run there uncut) ∙ u))
    where
      apart : n ∷ ns ≡ [] → ⊥
      apart e = cc

      uncut : IsUncut g c k
      uncut s o = by (g.ghost.frozen s) refl
        where
          by : (f : Option (List Op)) → g.ghost.frozen s ≡ f → g.ghost.frozen s ≡ None
          by None q = q
          by (Some ks) q = absurd (apart (same_some (sym u ∙ none-lost s ks (whole.cuts c b s k ks run there o q) o)))

-- Lines that answer nothing.

abbrev Timed : Moving → Type 0
Timed m = AreTimely [] m.world.shown

show-timed : (s : Shown) (m : Moving) → ((past : List Shown) → IsTimely past s) → Timed m → Timed (world.show_line s m)
show-timed s m t a = timely-append [] m.world.shown (s ∷ []) a (t m.world.shown, tt)

nothing-timed : (w : World) → AreTimely [] w.shown → Timed (world.nothing w)
nothing-timed w a = show-timed show.Nothing (moving w) (λ p. tt) a

noted-timed : (o : Option Noted) (m : Moving) → Timed m → Timed (world.show_noted o m)
noted-timed None m a = a
noted-timed (Some (noted_of.Durable c ns)) m a = show-timed (show.Durable c ns) m (λ p. tt) a
noted-timed (Some (noted_of.Ended c b)) m a = show-timed (world.show_ended c b m.world) m (λ p. by p (is_some (watch c m.world.shown).open_start || world.is_running c b m.world)) a
  where
    by : (p : List Shown) (z : Bool) → IsTimely p (elim z as (λ y. Shown) [ true ↦ show.Ended c ((watch c m.world.shown).undurable) | false ↦ show.Unseen c ])
    by p true = tt
    by p false = tt

goes-timed : (t : Serving) (m : Moving) → Timed m → Timed (world.with_world (world.go_on t) m)
goes-timed t m a = subst (AreTimely []) (sym (sends-all t.sent (record (m.world) { server = Some t.server; durable = t.server.durable })).shown) a

committed-timed : (fate : Fate) (r : Record) (t : Serving) (w : World) → AreTimely [] w.shown → Timed (world.committed fate r t w)
committed-timed runs r t w a = goes-timed t (world.show_noted (world.noted w.durable r) (moving (record w { records = w.records ++ r ∷ [] }))) (noted-timed (world.noted w.durable r) (moving (record w { records = w.records ++ r ∷ [] })) a)
committed-timed stops_without r t w a = show-timed show.Stopped (moving (world.stop w)) (λ p. tt) a
committed-timed stops_with r t w a = show-timed show.Stopped (moving (world.on_disk r (record (world.stop w) { unshown = world.noted w.durable r }))) (λ p. tt) a

served-timed : (fate : Fate) (t : Serving) (w : World) → AreTimely [] w.shown → Timed (world.served fate t w)
served-timed fate t w a = go t.spent
  where
    by : (o : Option Record) → Timed (world.served_record fate o t w)
    by None = goes-timed t (moving w) a
    by (Some r) = committed-timed fate r t w a

    go : (o : Option Counter) → Timed (elim o as (λ z. Moving) [ Some n ↦ world.fails (fault.Spent n) w | None ↦ world.served_record fate t.rec t w ])
    go (Some n) = a
    go None = by t.rec

restart-timed : (fate : Fate) (w : World) → AreTimely [] w.shown → Timed (world.restart fate w)
restart-timed fate w a = go (server.start w.durable).spent
  where
    by : (φ : Fate) (t : Serving) → Timed (world.restarted φ t w)
    by runs t =
        let m = world.show_line show.Started (world.show_noted w.unshown (moving w)) in
        let b : Timed m = show-timed show.Started (world.show_noted w.unshown (moving w)) (λ p. tt) (noted-timed w.unshown (moving w) a) in
        let x = record (m.world) { unshown = None; records = m.world.records ++ record_of.Epoch t.server.durable.epoch ∷ [] } in
        subst (AreTimely []) (sym (sends-all t.sent (record x { server = Some t.server; durable = t.server.durable })).shown) b
    by stops_without t = show-timed show.Stopped (moving w) (λ p. tt) a
    by stops_with t = show-timed show.Stopped (moving (world.on_disk (record_of.Epoch t.server.durable.epoch) w)) (λ p. tt) a

    go : (o : Option Counter) → Timed (elim o as (λ z. Moving) [ Some n ↦ world.fails (fault.Spent n) w | None ↦ world.restarted fate (server.start w.durable) w ])
    go (Some n) = a
    go None = by fate (server.start w.durable)

choose : (z : Bool) (m n : Moving) → Timed m → Timed n → Timed (elim z as (λ y. Moving) [ true ↦ m | false ↦ n ])
choose true m n a b = a
choose false m n a b = b

kept-timed : (n : ℕ) (m : Moving) (w : World) → Timed m → AreTimely [] w.shown → Timed (world.kept_or n m w)
kept-timed n m w t a = go (at n w.pool)
  where
    go : (o : Option Sent) → Timed (elim o as (λ z. Moving) [ None ↦ world.fails fault.NoSuchMsg w | Some s ↦ m ])
    go None = a
    go (Some s) = t

-- A clerk's step.

doing-timed : (c : ℕ) (d : Doing) (m : Moving) → Timed m → AreTimely m.world.shown (out_lines c d.outs m.world.calls) → Timed (world.clerk_does c d m)
doing-timed c d m a b = go d.spent
  where
    go : (o : Option Counter) → Timed (elim o as (λ z. Moving) [ Some n ↦ world.fails (fault.Spent n) m.world | None ↦ world.come_out c d.outs (world.with_world (λ w. record w { clerks = put c d.clerk w.clerks }) m) ])
    go (Some n) = a
    go None = subst (AreTimely []) (sym (came-out c d.outs (world.with_world (λ w. record w { clerks = put c d.clerk w.clerks }) m)).lines) (timely-append [] m.world.shown (out_lines c d.outs m.world.calls) a b)

module _ (w : World) (g : System) (whole : Whole g) (st : Stands w g) (timely : AreTimely [] w.shown) where
  -- a running clerk
  module _ (c : ℕ) (k : Clerk) (here : at c w.clerks ≡ Some k) where
    its : (b : ℕ) × (g.running c ≡ Some b) × (g.clerks c b ≡ Some k)
    its = runs-in w g st c k here

    in-session : (s : ℕ) → k.session ≡ Some s → session c w ≡ Some s
    in-session s q = ap (λ o. elim o as (λ z. Option ℕ) [ None ↦ None | Some j ↦ j.session ]) here ∙ q

    shown-is : (watch c w.shown).untold ≡ (watch c g.ghost.shown).untold
    shown-is = ap (λ ss. (watch c ss).untold) st.shown

    -- what is untold where it's in no session
    lost-none : (ns : List ℕ) → k.session ≡ None → (watch c w.shown).untold ≡ Some ns → ns ≡ []
    lost-none ns out u = outside-lost g whole c its.0 k its.1 its.2 out ns (sym shown-is ∙ u)

    -- Its call begins.
    module _ (l : ℕ) (cl : Call) (bounded : T (is_bounded cl)) (told : IsTold c w) where
      abbrev n : ℕ
      n = k.calls + 1

      abbrev calls : Calls
      calls = put c (put n (l, cl) (at_or [] c w.calls)) w.calls

      -- the call waits for its answer, and is within its bounds
      abbrev IsAsked : Waiting → Type 0
      IsAsked v = (j : ℕ) × (call_of c v.no calls ≡ Some (j, v.call)) × T (is_bounded v.call)

      asked-still : (v : Waiting) → v.no ≤ k.calls → (j : ℕ) × (call_of c v.no g.calls ≡ Some (j, v.call)) × Began g c its.0 k v j → IsAsked v
      asked-still v le x = (
        x.0,
        call-put c n c v.no (l, cl) w.calls ∙ ap (λ z. cond ((c == c) && z) (Some (l, cl)) (call_of c v.no w.calls)) (less v.no k.calls le) ∙ none (c == c) ∙ ap (call_of c v.no) st.calls ∙ x.1,
        ((whole.calls).calls c v.no x.0 v.call x.1).bounded,
      )
        where
          less : (m j : ℕ) → m ≤ j → (m == j + 1) ≡ false
          less m j p = grind (arith, p)

          none : (z : Bool) → cond (z && false) (Some (l, cl)) (call_of c v.no w.calls) ≡ call_of c v.no w.calls
          none true = refl
          none false = refl

      asked-all : (vs : List Waiting) → Each (λ v. v.no ≤ k.calls) vs → Each (λ v. (j : ℕ) × (call_of c v.no g.calls ≡ Some (j, v.call)) × Began g c its.0 k v j) vs → Each IsAsked vs
      asked-all [] p q = tt
      asked-all (v ∷ vs) p q = (asked-still v p.0 q.0, asked-all vs p.1 q.1)

      asked-now : call_of c n calls ≡ Some (l, cl)
      asked-now = call-put c n c n (l, cl) w.calls ∙ ap (λ z. cond (z && (n == n)) (Some (l, cl)) (call_of c n w.calls)) (same c) ∙ ap (λ z. cond z (Some (l, cl)) (call_of c n w.calls)) (same n)
        where
          same : (m : ℕ) → (m == m) ≡ true
          same m = grind arith

      asked : Each IsAsked (add_call cl k).waiting
      asked =
          let s = (whole.calls).starts c its.0 k its.1 its.2 in
          each-append IsAsked k.waiting (record { no = n; call = cl; begun = k.log.next - 1 } ∷ []) (asked-all k.waiting s.numbers s.lined) ((l, asked-now, bounded), tt)

      is-bare : (o : Out) → IsBareAnswer IsAsked (λ v p. p.2) [] o → IsBareOut c calls o
      is-bare (out.Answer m a op) x = λ j dl q. subst (λ y. IsBare y a op) (ap (λ y. y.1) (same_some (sym x.1.1 ∙ ap (λ y. call_of c y calls) x.2 ∙ q))) x.3
      is-bare (out.Send m) x = tt
      is-bare (out.Told ns) x = tt
      is-bare (out.OldBoot a) x = tt

      pub begun-timely : (ss : List Shown) → (watch c ss).untold ≡ (watch c w.shown).untold → AreTimely ss (out_lines c (begin cl k).outs calls)
      begun-timely ss u = by (watch c w.shown).untold refl k.session refl
        where
          by : (o : Option (List ℕ)) → (watch c w.shown).untold ≡ o → (p : Option ℕ) → k.session ≡ p → AreTimely ss (out_lines c (begin cl k).outs calls)
          by None q p r = none-timely c (begin cl k).outs calls ss (u ∙ q)
          by (Some ns) q (Some s) r = absurd (none_some (sym (told s (in-session s r)) ∙ q))
          by (Some ns) q None r =
              let none = (whole.all).0.sessions.without c its.0 k its.2 r in
              bare-timely c calls (begin cl k).outs ss
              (each-map (IsBareAnswer IsAsked (λ v p. p.2) []) (IsBareOut c calls) is-bare (begin cl k).outs (begins-bare IsAsked (λ v p. p.2) cl k none r asked))
              (u ∙ q ∙ ap (λ ms. Some ms) (lost-none ns r q))

    -- Its calls are within their bounds.
    bounded-all : Each (λ v. T (is_bounded v.call)) k.waiting
    bounded-all = each-map (λ v. (j : ℕ) × (call_of c v.no g.calls ≡ Some (j, v.call)) × Began g c its.0 k v j) (λ v. T (is_bounded v.call)) (λ v x. ((whole.calls).calls c v.no x.0 v.call x.1).bounded) k.waiting
        ((whole.calls).starts c its.0 k its.1 its.2).lined

    -- It takes a message.
    pub taken-timely : (m : Msg) → (T (not (same_kind (kind m) kind_of.Ended)) → IsTold c w) → AreTimely w.shown (out_lines c (take_message m k).outs w.calls)
    taken-timely m told = by (watch c w.shown).untold refl k.session refl
      where
        by : (o : Option (List ℕ)) → (watch c w.shown).untold ≡ o → (p : Option ℕ) → k.session ≡ p → AreTimely w.shown (out_lines c (take_message m k).outs w.calls)
        by None q p r = none-timely c (take_message m k).outs w.calls w.shown q
        by (Some ns) q None r = outside-timely g c k (whole.rest c its.0 k its.1 its.2) ((whole.all).0.sessions.without c its.0 k its.2 r) r w.calls w.shown m
        by (Some ns) q (Some t) r = is-ended m
            (λ s low mask e. subst (λ x. AreTimely w.shown (out_lines c (take_message x k).outs w.calls)) (sym e) (ended-timely g c k (whole.rest c its.0 k its.1 its.2) t r w.calls w.shown s low mask bounded-all))
            (λ n. absurd (none_some (sym (told n t (in-session t r)) ∙ q)))

  -- a clerk that doesn't run has nothing untold
  idle-told : (c : ℕ) → at c w.clerks ≡ None → (watch c w.shown).untold ≡ None
  idle-told c q = by (watch c w.shown).untold refl
    where
      down : g.running c ≡ None
      down = go (g.running c) refl (sym (st.clerks c) ∙ q)
        where
          some : (o : Option Clerk) → o ≡ None → T (is_some o) → ⊥
          some None e t = t
          some (Some k) e t = none_some (sym e)

          go : (o : Option ℕ) → g.running c ≡ o → elim o as (λ z. Option Clerk) [ None ↦ None | Some b ↦ g.clerks c b ] ≡ None → g.running c ≡ None
          go None e p = e
          go (Some b) e p = absurd (some (g.clerks c b) p ((whole.all).0.sessions.running c b e).1)

      stopped : (watch c w.shown).running ≡ false
      stopped = ap (λ ss. (watch c ss).running) st.shown ∙ ((whole.all).1 c).running ∙ ap is_some down

      apart : true ≡ false → ⊥
      apart e = cc

      by : (o : Option (List ℕ)) → (watch c w.shown).untold ≡ o → (watch c w.shown).untold ≡ None
      by None u = u
      by (Some ns) u = absurd (apart (sym (untold-runs c w.shown ns u).1 ∙ stopped))

  -- Calls.

  -- behind what a call shows
  called-timed : (c n l : ℕ) (cl : Call) (os : List Out) (d : Doing) (v : World) → v.shown ≡ w.shown → v.calls ≡ w.calls
      → ((ss : List Shown) → (watch c ss).untold ≡ (watch c w.shown).untold → AreTimely ss (out_lines c d.outs (put c (put n (l, cl) (at_or [] c w.calls)) w.calls)))
      → Timed (world.clerk_does c d (world.show_waits c n l cl os (moving (world.add_call c n l cl v))))
  called-timed c n l cl os d v q r t = by (list_any (world.is_answer_to n) os)
    where
      first : Moving
      first = moving (world.add_call c n l cl v)

      before : Timed first
      before = subst (AreTimely []) (sym q) timely

      lines : (ss : List Shown) → (watch c ss).untold ≡ (watch c v.shown).untold → AreTimely ss (out_lines c d.outs (put c (put n (l, cl) (at_or [] c v.calls)) v.calls))
      lines ss u = subst (λ x. AreTimely ss (out_lines c d.outs (put c (put n (l, cl) (at_or [] c x)) x))) (sym r) (t ss (u ∙ ap (λ x. (watch c x).untold) q))

      by : (z : Bool) → Timed (world.clerk_does c d (elim z as (λ y. Moving) [ true ↦ first | false ↦ world.show_line (show.Waits l c cl) first ]))
      by true = doing-timed c d first before (lines v.shown refl)
      by false = doing-timed c d (world.show_line (show.Waits l c cl) first) (show-timed (show.Waits l c cl) first (λ p. tt) before) (lines (v.shown ++ show.Waits l c cl ∷ []) (waits-untold c c l cl v.shown))

  call-timed : (c l : ℕ) (cl : Call) → T (is_bounded cl) → IsTold c w → Timed (world.call c l cl w)
  call-timed c l cl bounded told = by (at c w.clerks) refl
    where
      running : (k : Clerk) → at c w.clerks ≡ Some k → (o : Option Counter) → Timed (elim o as (λ z. Moving) [
        | Some s ↦ world.fails (fault.Spent s) w
        | None ↦ world.clerk_does c (record (begin cl k) { outs = [] ++ (begin cl k).outs }) (world.show_waits c (k.calls + 1) l cl (begin cl k).outs (moving (world.add_call c (k.calls + 1) l cl w)))
      ])
      running k q (Some s) = timely
      running k q None = called-timed c (k.calls + 1) l cl (begin cl k).outs (record (begin cl k) { outs = [] ++ (begin cl k).outs }) w refl refl (begun-timely c k q l cl bounded told)

      starting : (before : List Out) (k : Clerk) (v : World) → v.shown ≡ w.shown → v.calls ≡ w.calls → (watch c w.shown).untold ≡ None → (o : Option Counter) → Timed (elim o as (λ z. Moving) [
        | Some s ↦ world.fails (fault.Spent s) v
        | None ↦ world.clerk_does c (record (begin cl k) { outs = before ++ (begin cl k).outs }) (world.show_waits c (k.calls + 1) l cl (begin cl k).outs (moving (world.add_call c (k.calls + 1) l cl v)))
      ])
      starting before k v q r u (Some s) = subst (AreTimely []) (sym q) timely
      starting before k v q r u None = called-timed c (k.calls + 1) l cl (begin cl k).outs (record (begin cl k) { outs = before ++ (begin cl k).outs }) v q r
          (λ ss e. none-timely c (before ++ (begin cl k).outs) (put c (put (k.calls + 1) (l, cl) (at_or [] c w.calls)) w.calls) ss (e ∙ u))

      started : (watch c w.shown).untold ≡ None → (o : Option Counter) → Timed (elim o as (λ z. Moving) [
        | Some n ↦ world.fails (fault.Spent n) w
        | None ↦ world.call_on c l cl (start c (world.boot c w + 1)).outs (start c (world.boot c w + 1)).clerk (record w { boots = put c (world.boot c w + 1) w.boots })
      ])
      started u (Some n) = timely
      started u None =
          let d = start c (world.boot c w + 1) in
          starting d.outs d.clerk (record w { boots = put c (world.boot c w + 1) w.boots }) refl refl u (begin cl d.clerk).spent

      by : (o : Option Clerk) → at c w.clerks ≡ o → Timed (elim o as (λ z. Moving) [ Some k ↦ world.call_on c l cl [] k w | None ↦ world.start_and_call c l cl w ])
      by (Some k) q = running k q (begin cl k).spent
      by None q = started (idle-told c q) (start c (world.boot c w + 1)).spent

  pub resume-timed : (c l : ℕ) (cl : Call) → T (is_bounded cl) → IsTold c w → Timed (resume c l cl w)
  resume-timed c l cl bounded told = by (at c w.clerks) refl
    where
      begins : (k : Clerk) → at c w.clerks ≡ Some k → (o : Option Counter)
          → Timed (elim o as (λ z. Moving) [ Some n ↦ world.fails (fault.Spent n) w | None ↦ world.clerk_does c (begin cl k) (moving (world.add_call c (k.calls + 1) l cl w)) ])
      begins k q (Some n) = timely
      begins k q None = doing-timed c (begin cl k) (moving (world.add_call c (k.calls + 1) l cl w)) timely (begun-timely c k q l cl bounded told w.shown refl)

      by : (o : Option Clerk) → at c w.clerks ≡ o → Timed (resume_on c l cl o w)
      by None q = timely
      by (Some k) q = begins k q (begin cl k).spent

  -- Pushes, resends and messages.

  push-timed : (c n : ℕ) (o : Option Clerk) → Timed (world.push c n o w)
  push-timed c n None = timely
  push-timed c n (Some k) = by (has_issued n k)
    where
      untold : (u : Option (List ℕ)) → (watch c w.shown).untold ≡ u → Timed (elim (world.is_undurable c n w) as (λ z. Moving) [ true ↦ world.clerk_does c (push n k) (moving w) | false ↦ world.nothing w ])
      untold None q = choose (world.is_undurable c n w) (world.clerk_does c (push n k) (moving w)) (world.nothing w) (doing-timed c (push n k) (moving w) timely (none-timely c (push n k).outs w.calls w.shown q)) (nothing-timed w timely)
      untold (Some ns) q = subst (λ z. Timed (elim z as (λ y. Moving) [ true ↦ world.clerk_does c (push n k) (moving w) | false ↦ world.nothing w ])) (sym none) (nothing-timed w timely)
        where
          none : world.is_undurable c n w ≡ false
          none = ap (λ u. is_none u && clerk.is_session (watch c w.shown).starts (watch c w.shown).open_start && member n (watch c w.shown).undurable) q

      by : (z : Bool) → Timed (elim z as (λ y. Moving) [
        | false ↦ world.fails fault.NoSuchOp w
        | true ↦ elim (world.is_undurable c n w) as (λ y. Moving) [ true ↦ world.clerk_does c (push n k) (moving w) | false ↦ world.nothing w ]
      ])
      by false = timely
      by true = untold (watch c w.shown).untold refl

  resend-timed : (c : ℕ) (o : Option Clerk) → Timed (world.resend c o w)
  resend-timed c None = nothing-timed w timely
  resend-timed c (Some k) = doing-timed c (resend k) (moving w) timely (silent-timely c (resend k).outs w.calls w.shown ((quiet-resend k).outs c w.calls))

  deliver-timed : (fate : Fate) (n : ℕ) → MayAnswer w (event.Deliver n) → Timed (world.deliver fate n w)
  deliver-timed fate n may = by (at n w.pool) refl
    where
      to-clerk : (s : Sent) → (T (not (same_kind (kind s.msg) kind_of.Ended)) → IsTold s.clerk w) → (o : Option Clerk) → at s.clerk w.clerks ≡ o → Timed (world.to_clerk s.clerk s.msg o (world.settled n w))
      to-clerk s told None q = timely
      to-clerk s told (Some k) q = doing-timed s.clerk (take_message s.msg k) (moving (world.settled n w)) timely (taken-timely s.clerk k q s.msg told)

      to-server : (s : Sent) (o : Option Server) → Timed (world.to_server fate n s o w)
      to-server s None = nothing-timed w timely
      to-server s (Some u) = served-timed fate (server.take s.clerk s.msg u) (world.settled n w) timely

      to : (s : Sent) → at n w.pool ≡ Some s → (z : Bool) → world.is_for_server s ≡ z
          → Timed (elim z as (λ y. Moving) [ true ↦ world.to_server fate n s w.server w | false ↦ world.to_clerk s.clerk s.msg (at s.clerk w.clerks) (world.settled n w) ])
      to s q true e = to-server s w.server
      to s q false e = to-clerk s (may s.clerk (kind s.msg) goes) (at s.clerk w.clerks) refl
        where
          goes : goes_to n w ≡ Some (s.clerk, kind s.msg)
          goes =
              ap (λ o. elim o as (λ z. Option (ℕ × MsgKind)) [ None ↦ None | Some x ↦ elim (world.is_for_server x) as (λ z. Option (ℕ × MsgKind)) [ true ↦ None | false ↦ Some (x.clerk, kind x.msg) ] ]) q
              ∙ ap (λ y. elim y as (λ z. Option (ℕ × MsgKind)) [ true ↦ None | false ↦ Some (s.clerk, kind s.msg) ]) e

      by : (o : Option Sent) → at n w.pool ≡ o → Timed (elim o as (λ z. Moving) [ None ↦ world.fails fault.NoSuchMsg w | Some s ↦ world.deliver_to fate n s w ])
      by None q = timely
      by (Some s) q = to s q (world.is_for_server s) refl

  -- The others.

  end-timed : (fate : Fate) (c : ℕ) (o : Option Server) → Timed (world.end fate c o w)
  end-timed fate c None = nothing-timed w timely
  end-timed fate c (Some u) = choose (is_open (slot u.durable c)) (world.served fate (server.end c u) w) (world.nothing w) (served-timed fate (server.end c u) w timely) (nothing-timed w timely)

  crash-timed : (c : ℕ) (o : Option Clerk) → Timed (world.crash c o w)
  crash-timed c None = nothing-timed w timely
  crash-timed c (Some k) = show-timed (show.Crashed c) (moving (record w { clerks = without c w.clerks; calls = without c w.calls })) (λ p. tt) timely

  stop-timed : (o : Option Server) → Timed (world.stop_server o w)
  stop-timed None = nothing-timed w timely
  stop-timed (Some u) = show-timed show.Stopped (moving (world.stop w)) (λ p. tt) timely

  up-timed : (fate : Fate) (o : Option Server) → Timed (world.restart_server fate o w)
  up-timed fate (Some u) = nothing-timed w timely
  up-timed fate None = restart-timed fate w timely

  pub event-timed : (fate : Fate) (e : Event) → MayAnswer w e → Timed (world.happen fate e w)
  event-timed fate (event.Call c l cl) may = call-timed c l cl may.1 may.0
  event-timed fate (event.Push c n) may = push-timed c n (at c w.clerks)
  event-timed fate (event.Resend c) may = resend-timed c (at c w.clerks)
  event-timed fate (event.Cut c) may = choose (member c w.cut) (world.nothing w) (moving (record w { cut = c ∷ w.cut })) (nothing-timed w timely) timely
  event-timed fate (event.Uncut c) may = choose (member c w.cut) (moving (record w { cut = filter (λ d. not (d == c)) w.cut })) (world.nothing w) timely (nothing-timed w timely)
  event-timed fate (event.Drop n) may = kept-timed n (elim (world.is_pending n w) as (λ z. Moving) [ true ↦ moving (world.settled n w) | false ↦ world.nothing w ]) w
      (choose (world.is_pending n w) (moving (world.settled n w)) (world.nothing w) timely (nothing-timed w timely)) timely
  event-timed fate (event.Repeat n) may = kept-timed n (moving (record w { pending = elim (world.is_pending n w) as (λ z. List ℕ) [ true ↦ w.pending | false ↦ world.among n w.pending ] })) w timely timely
  event-timed fate (event.Deliver n) may = deliver-timed fate n may
  event-timed fate (event.Crash c) may = crash-timed c (at c w.clerks)
  event-timed fate (event.End c) may = end-timed fate c w.server
  event-timed fate event.Stop may = stop-timed w.server
  event-timed fate (event.Arm n ch) may = timely
  event-timed fate event.Restart may = up-timed fate w.server
