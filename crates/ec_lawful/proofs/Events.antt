-- Behind each event of a world that stands in a system the facts hold, where each node's step keeps them.
use Rattle.std.proofs.Common.{◌≡◌, ◌≢◌, refl, sym, ap, subst, ◌∙◌, inl, inr, arith, ◌⊎◌, ◌≤◌, ◌<◌, ◌+◌, ℕ, T, Bool, true, false, ◌==◌, ◌&&◌, cond, List, [], ◌∷◌, ◌++◌, Option, Some, None}
use Rattle.std.specs.Prelude.{is_some, nat_lt, not, Contains}
use Rattle.std.specs.List.{filter, list_any}
use Rattle.ec_base.specs.Tables.{at, at_or, or_else, put}
use Rattle.ec_base.specs.declared.counter.Counter.{Counter}
use Rattle.ec_volume.specs.Update.{member}
use Rattle.ec_plain.specs.BoundedCalls.{is_bounded}
use Rattle.ec_plain.specs.declared.call.Call.{Call}
use Rattle.ec_history.specs.Placing.{is_numbered}
use Rattle.ec_history.specs.declared.shown.Shown.TheVariants as show
use Rattle.ec_sessions.specs.Slots.{is_open}
use Rattle.ec_wire.specs.declared.msg.Msg.{Msg}
use Rattle.ec_durable.specs.Durable.{slot}
use Rattle.ec_durable.specs.declared.record.Record.{Record}
use Rattle.ec_protocol.specs.Clerk.{Doing, begin, has_issued, push, resend, start, take as take_message}
use Rattle.ec_protocol.specs.Server.{Serving, end, take}
use Rattle.ec_protocol.specs.Server as server
use Rattle.ec_protocol.specs.World as world
use Rattle.ec_protocol.specs.World.{Fate, runs, stops_with, stops_without, Moving, add_call, among, call_on, clerk_does, committed, fails, go_on, happen, is_answer_to, is_for_server, is_pending, is_undurable, kept_or, moving, nothing, restart, served, served_record, settled, show_waits, start_and_call, to_clerk, to_server}
use Rattle.ec_protocol.specs.declared.clerk.Clerk.{Clerk}
use Rattle.ec_protocol.specs.declared.clerk.Out.{Out}
use Rattle.ec_protocol.specs.declared.server.Server.{Server}
use Rattle.ec_protocol.specs.declared.world.Event.{Event}
use Rattle.ec_protocol.specs.declared.world.Event.TheVariants as event
use Rattle.ec_protocol.specs.declared.world.Sent.{Sent}
use Rattle.ec_protocol.specs.declared.world.World.{World}
use Rattle.ec_protocol.specs.declared.world.WorldFault.{WorldFault}
use Rattle.ec_protocol.specs.declared.world.WorldFault.TheVariants as fault
use Rattle.ec_coherence.specs.System.{System, Ghost, at_session}
use Rattle.ec_coherence.specs.Steps as steps
use Rattle.ec_coherence.specs.Steps.{Stands, doing_in, out_lines, running_clerk, serving_in}
use Rattle.ec_coherence.proofs.ForServer.Tables.{at-put, same_some}
use Rattle.ec_coherence.specs.CommitLaws.{AllAgree}
use Rattle.ec_coherence.specs.StandLaws.{crashed, lined, stopped}
use Rattle.ec_lawful.specs.Ties.{called, waiting}
use Rattle.ec_lawful.specs.Steps.{HoldsIn, StepIsDone, LineIsNew, IsNewIn, IsServed, IsStep, MayHappen, StepsKeep, clerk_begun, calling, in_call}
use Rattle.ec_lawful.proofs.ForWhole.Frames.{called-stands, crashed-stands, nothing-stands, same-stands, settled-stands, stopped-stands}
use Rattle.ec_lawful.proofs.ForWhole.Serving.{served-stands}
use Rattle.ec_lawful.proofs.ForWhole.Standing.{done-stands, same-durable}
use Rattle.ec_base.proofs.Numbers.{same-self as same, equal}
use Rattle.ec_base.proofs.Options.{none_some}

some_not : {A : Type 0} {x : A} → Some x ≡ None → ⊥
some_not q = none_some (sym q)

abbrev delivered : Fate → ℕ → World → Option Sent → Moving
delivered fate n w o = elim o as (λ z. Moving) [ None ↦ fails fault.NoSuchMsg w | Some s ↦ world.deliver_to fate n s w ]

abbrev pushed : ℕ → ℕ → Clerk → World → Bool → Moving
pushed c n k w b = elim b as (λ z. Moving) [ true ↦ clerk_does c (push n k) (moving w) | false ↦ nothing w ]

-- the start that runs, of a running clerk
pub runs-in : (w : World) (g : System) → Stands w g → (c : ℕ) (k : Clerk) → at c w.clerks ≡ Some k → (b : ℕ) × (g.running c ≡ Some b) × (g.clerks c b ≡ Some k)
runs-in w g st c k q = go (g.running c) refl (sym (st.clerks c) ∙ q)
  where
    go : (o : Option ℕ) → g.running c ≡ o → elim o as (λ z. Option Clerk) [ None ↦ None | Some b ↦ g.clerks c b ] ≡ Some k → (b : ℕ) × (g.running c ≡ Some b) × (g.clerks c b ≡ Some k)
    go None e p = absurd (none_some p)
    go (Some b) e p = (b, e, p)

-- and none runs otherwise
idle-in : (w : World) (g : System) → Stands w g → AllAgree g → (c : ℕ) → at c w.clerks ≡ None → g.running c ≡ None
idle-in w g st all c q = go (g.running c) refl (sym (st.clerks c) ∙ q)
  where
    some : (o : Option Clerk) → o ≡ None → T (is_some o) → ⊥
    some None e t = t
    some (Some k) e t = some_not e

    go : (o : Option ℕ) → g.running c ≡ o → elim o as (λ z. Option Clerk) [ None ↦ None | Some b ↦ g.clerks c b ] ≡ None → o ≡ None
    go None e p = refl
    go (Some b) e p = absurd (some (g.clerks c b) p ((all.0).sessions.running c b e).1)

module _ (F : System → Type 0) (keep : StepsKeep F) where
  -- a running clerk's step, behind what its call shows
  done : (m : Moving) (g : System) → Stands m.world g → (c b : ℕ) → g.running c ≡ Some b → (d : Doing) → StepIsDone F g c b d → m.fault ≡ None → (clerk_does c d m).fault ≡ None → HoldsIn F (clerk_does c d m).world
  done m g st c b run d (inl s) ok f = absurd (spent d.spent refl s)
    where
      spent : (o : Option Counter) → d.spent ≡ o → T (is_some o) → ⊥
      spent None q t = t
      spent (Some n) q t = some_not (sym (ap (λ x. (elim x as (λ z. Moving) [ Some n ↦ fails (fault.Spent n) m.world | None ↦ world.come_out c d.outs (world.with_world (λ w. record w { clerks = put c d.clerk w.clerks }) m) ]).fault) q) ∙ f)
  done m g st c b run d (inr (γ, shown, h)) ok f = by d.spent refl
    where
      by : (o : Option Counter) → d.spent ≡ o → HoldsIn F (clerk_does c d m).world
      by None q = (doing_in c b d γ g, h, done-stands m g st c b run d γ q shown)
      by (Some n) q = absurd (some_not (sym (ap (λ x. (elim x as (λ z. Moving) [ Some n ↦ fails (fault.Spent n) m.world | None ↦ world.come_out c d.outs (world.with_world (λ w. record w { clerks = put c d.clerk w.clerks }) m) ]).fault) q) ∙ f))

  -- a server's step, by what the disk does
  serves : (fate : Fate) (w : World) (g : System) → F g → Stands w g → (v : Server) → g.server ≡ Some v → (t : Serving) → IsStep g v t → IsServed F g t → (served fate t w).fault ≡ None → HoldsIn F (served fate t w).world
  serves fate w g h st v up t s d f = by t.spent refl
    where
      by-record : (o : Option Record) → t.rec ≡ o → t.spent ≡ None → (φ : Fate) → HoldsIn F (served_record φ o t w).world
      by-record None q u φ = elim d [
        | inl x ↦ absurd (subst (λ y. T (is_some y)) u x)
        | inr x ↦ (
          serving_in t x.0 g,
          x.2,
          subst (λ y. Stands y.world (serving_in t x.0 g)) (ap (λ o. elim o as (λ z. Moving) [ Some n ↦ fails (fault.Spent n) w | None ↦ served_record runs t.rec t w ]) u ∙ ap (λ o. served_record runs o t w) q)
              (served-stands w g st (keep.agrees g h) v up t x.0 (x.1).0 u),
        )
      ]
      by-record (Some r) q u runs = elim d [
        | inl x ↦ absurd (subst (λ y. T (is_some y)) u x)
        | inr x ↦ (
          serving_in t x.0 g,
          x.2,
          subst (λ y. Stands y.world (serving_in t x.0 g)) (ap (λ o. elim o as (λ z. Moving) [ Some n ↦ fails (fault.Spent n) w | None ↦ served_record runs t.rec t w ]) u ∙ ap (λ o. served_record runs o t w) q)
              (served-stands w g st (keep.agrees g h) v up t x.0 (x.1).0 u),
        )
      ]
      by-record (Some r) q u stops_without = (keep.doubts w g h st v up t s r q u).0
      by-record (Some r) q u stops_with = (keep.doubts w g h st v up t s r q u).1

      by : (o : Option Counter) → t.spent ≡ o → HoldsIn F (served fate t w).world
      by None q = subst (λ o. HoldsIn F (elim o as (λ z. Moving) [ Some n ↦ fails (fault.Spent n) w | None ↦ served_record fate t.rec t w ]).world) (sym q) (by-record t.rec refl q fate)
      by (Some n) q = absurd (some_not (sym (ap (λ x. (elim x as (λ z. Moving) [ Some n ↦ fails (fault.Spent n) w | None ↦ served_record fate t.rec t w ]).fault) q) ∙ f))

  -- a line that nothing happened
  none-happens : (w : World) → HoldsIn F w → HoldsIn F (nothing w).world
  none-happens w (g, h, st) = (lined g show.Nothing, keep.nothing g h, nothing-stands w g st)

  -- Calls.

  -- what the system needs of the line
  new-in : (w : World) (g : System) → Stands w g → (l : ℕ) → IsNewIn w l → LineIsNew g l
  new-in w g st l n = record {
    unshown = subst (λ x. list_any (is_numbered l) x ≡ false) st.shown n.unshown;
    unused = subst (λ x. (c m k : ℕ) (cl : Call) → steps.call_of c m x ≡ Some (k, cl) → k < l) st.calls n.unused;
  }

  shown-waits : (c n l : ℕ) (cl : Call) (os : List Out) (w : World) (b : Bool) → (elim b as (λ z. Moving) [ true ↦ moving w | false ↦ world.show_line (show.Waits l c cl) (moving w) ]).fault ≡ None
  shown-waits c n l cl os w true = refl
  shown-waits c n l cl os w false = refl

  -- the step of a call, behind what came out of the clerk's start
  module _ (w : World) (g : System) (st : Stands w g) (c b l : ℕ) (cl : Call) (run : g.running c ≡ Some b) (before : List Out) (k : Clerk) where
    abbrev m : Moving
    m = show_waits c (k.calls + 1) l cl (begin cl k).outs (moving (add_call c (k.calls + 1) l cl w))

    in-call-runs : (z : Bool) → (waiting c l cl z (called c (k.calls + 1) l cl g)).running c ≡ Some b
    in-call-runs true = run
    in-call-runs false = run

    calls-on : StepIsDone F (in_call c l cl k g) c b (calling cl before k) → (call_on c l cl before k w).fault ≡ None → HoldsIn F (call_on c l cl before k w).world
    calls-on d f = by (begin cl k).spent refl
      where
        by : (o : Option Counter) → (begin cl k).spent ≡ o → HoldsIn F (call_on c l cl before k w).world
        by None q =
            let is = ap (λ x. elim x as (λ z. Moving) [ Some s ↦ fails (fault.Spent s) w | None ↦ clerk_does c (calling cl before k) m ]) q in
            subst (λ x. HoldsIn F x.world) (sym is) (done m (in_call c l cl k g) (called-stands w g st c (k.calls + 1) l cl (begin cl k).outs) c b
            (in-call-runs (list_any (is_answer_to (k.calls + 1)) (begin cl k).outs)) (calling cl before k) d
            (shown-waits c (k.calls + 1) l cl (begin cl k).outs (add_call c (k.calls + 1) l cl w) (list_any (is_answer_to (k.calls + 1)) (begin cl k).outs)) (sym (ap (λ x. x.fault) is) ∙ f))
        by (Some n) q = absurd (some_not (sym (ap (λ x. (elim x as (λ z. Moving) [ Some s ↦ fails (fault.Spent s) w | None ↦ clerk_does c (calling cl before k) m ]).fault) q) ∙ f))

  -- the next start of a clerk stands where it runs, before its first step
  begun-stands : (w : World) (g : System) → Stands w g → AllAgree g → (c : ℕ) → at c w.clerks ≡ None → Stands (record w { boots = put c (world.boot c w + 1) w.boots }) (clerk_begun c g)
  begun-stands w g st all c q = record {
    server = st.server;
    durable = st.durable;
    epoch = st.epoch;
    up = st.up;
    unshown = st.unshown;
    clerks = λ e. clerks e (e == c) refl;
    boots = λ e. ap (or_else 0) (at-put e c (world.boot c w + 1) w.boots) ∙ boots e (e == c) refl;
    calls = st.calls;
    pool = st.pool;
    shown = st.shown;
  }
    where
      none : (k : Option Clerk) → g.clerks c (g.boots c + 1) ≡ k → None ≡ k
      none None e = refl
      none (Some k) e = absurd (too-many (g.boots c) ((all.0).sessions.starts c (g.boots c + 1) k e).2)
        where
          too-many : (n : ℕ) → n + 1 ≤ n → ⊥
          too-many n p = omega (arith, p)

      clerks : (e : ℕ) (z : Bool) → (e == c) ≡ z → at e w.clerks ≡ elim (elim (e == c) as (λ y. Option ℕ) [ true ↦ Some (g.boots c + 1) | false ↦ g.running e ]) as (λ y. Option Clerk) [ None ↦ None | Some a ↦ g.clerks e a ]
      clerks e true p = ap (λ x. at x w.clerks) (equal e c p) ∙ q ∙ none (g.clerks c (g.boots c + 1)) refl ∙ ap (λ x. g.clerks x (g.boots c + 1)) (sym (equal e c p))
          ∙ ap (λ y. elim (elim y as (λ y. Option ℕ) [ true ↦ Some (g.boots c + 1) | false ↦ g.running e ]) as (λ y. Option Clerk) [ None ↦ None | Some a ↦ g.clerks e a ]) (sym p)
      clerks e false p = st.clerks e ∙ ap (λ y. elim (elim y as (λ y. Option ℕ) [ true ↦ Some (g.boots c + 1) | false ↦ g.running e ]) as (λ y. Option Clerk) [ None ↦ None | Some a ↦ g.clerks e a ]) (sym p)

      boots : (e : ℕ) (z : Bool) → (e == c) ≡ z → or_else 0 (cond (e == c) (Some (world.boot c w + 1)) (at e w.boots)) ≡ elim (e == c) as (λ y. ℕ) [ true ↦ g.boots c + 1 | false ↦ g.boots e ]
      boots e true p = ap (λ y. or_else 0 (cond y (Some (world.boot c w + 1)) (at e w.boots))) p ∙ ap (λ n. n + 1) (st.boots c) ∙ ap (λ y. elim y as (λ y. ℕ) [ true ↦ g.boots c + 1 | false ↦ g.boots e ]) (sym p)
      boots e false p = ap (λ y. or_else 0 (cond y (Some (world.boot c w + 1)) (at e w.boots))) p ∙ st.boots e ∙ ap (λ y. elim y as (λ y. ℕ) [ true ↦ g.boots c + 1 | false ↦ g.boots e ]) (sym p)

  call-holds : (w : World) → HoldsIn F w → (c l : ℕ) (cl : Call) → IsNewIn w l → c < 16 → T (is_bounded cl) → (world.call c l cl w).fault ≡ None → HoldsIn F (world.call c l cl w).world
  call-holds w (g, h, st) c l cl new within bounded f = by (at c w.clerks) refl
    where
      by-start : (o : Option Counter) → (start c (world.boot c w + 1)).spent ≡ o → at c w.clerks ≡ None → (start_and_call c l cl w).fault ≡ None → HoldsIn F (start_and_call c l cl w).world
      by-start (Some n) p q f = absurd (some_not (sym (ap (λ x. (elim x as (λ z. Moving) [ Some n ↦ fails (fault.Spent n) w | None ↦ call_on c l cl (start c (world.boot c w + 1)).outs (start c (world.boot c w + 1)).clerk (record w { boots = put c (world.boot c w + 1) w.boots }) ]).fault) p) ∙ f))
      by-start None p q f =
          let is = ap (λ x. elim x as (λ z. Moving) [ Some n ↦ fails (fault.Spent n) w | None ↦ call_on c l cl (start c (world.boot c w + 1)).outs (start c (world.boot c w + 1)).clerk (record w { boots = put c (world.boot c w + 1) w.boots }) ]) p in
          let same-boot : world.boot c w ≡ g.boots c = st.boots c in
          let d = keep.starts g c h (idle-in w g st (keep.agrees g h) c q) within l cl (new-in w g st l new) bounded (subst (λ b. (start c (b + 1)).spent ≡ None) same-boot p) in
          subst (λ x. HoldsIn F x.world) (sym is) (calls-on (record w { boots = put c (world.boot c w + 1) w.boots }) (clerk_begun c g) (begun-stands w g st (keep.agrees g h) c q) c (g.boots c + 1) l cl
          (ap (λ y. elim y as (λ y. Option ℕ) [ true ↦ Some (g.boots c + 1) | false ↦ g.running c ]) (same c)) (start c (world.boot c w + 1)).outs (start c (world.boot c w + 1)).clerk
          (subst (λ b. StepIsDone F (in_call c l cl (start c (b + 1)).clerk (clerk_begun c g)) c (g.boots c + 1) (calling cl (start c (b + 1)).outs (start c (b + 1)).clerk)) (sym same-boot) d) (sym (ap (λ x. x.fault) is) ∙ f))

      by : (o : Option Clerk) → at c w.clerks ≡ o → HoldsIn F (world.call c l cl w).world
      by (Some k) q =
          let r = runs-in w g st c k q in
          let is = ap (λ x. elim x as (λ z. Moving) [ Some k ↦ call_on c l cl [] k w | None ↦ start_and_call c l cl w ]) q in
          subst (λ x. HoldsIn F x.world) (sym is) (calls-on w g st c r.0 l cl r.1 [] k (keep.calls g c r.0 k h r.1 r.2 l cl (new-in w g st l new) bounded) (sym (ap (λ x. x.fault) is) ∙ f))
      by None q =
          let is = ap (λ x. elim x as (λ z. Moving) [ Some k ↦ call_on c l cl [] k w | None ↦ start_and_call c l cl w ]) q in
          subst (λ x. HoldsIn F x.world) (sym is) (by-start (start c (world.boot c w + 1)).spent refl q (sym (ap (λ x. x.fault) is) ∙ f))

  -- Messages.

  stands-settled : (n : ℕ) (w : World) → HoldsIn F w → HoldsIn F (settled n w)
  stands-settled n w (g, h, st) = (g, h, settled-stands w g st n)

  to-clerk : (w : World) (g : System) → F g → Stands w g → (c : ℕ) (m : Msg) → Contains g.pool (c, m) → (o : Option Clerk) → at c w.clerks ≡ o → (to_clerk c m o w).fault ≡ None → HoldsIn F (to_clerk c m o w).world
  to-clerk w g h st c m p None q f = (g, h, st)
  to-clerk w g h st c m p (Some k) q f = let r = runs-in w g st c k q in done (moving w) g st c r.0 r.1 (take_message m k) (keep.messages g c r.0 k h r.1 r.2 m p) refl f

  to-server : (fate : Fate) (n : ℕ) (w : World) (g : System) → F g → Stands w g → (s : Sent) → Contains g.pool (s.clerk, s.msg) → (o : Option Server) → w.server ≡ o → (to_server fate n s o w).fault ≡ None → HoldsIn F (to_server fate n s o w).world
  to-server fate n w g h st s p None q f = none-happens w (g, h, st)
  to-server fate n w g h st s p (Some v) q f =
      let up : g.server ≡ Some v = sym st.server ∙ q in
      serves fate (settled n w) g h (settled-stands w g st n) v up (take s.clerk s.msg v) (inl (s.clerk, s.msg, p, refl)) (keep.takes g v h up s.clerk s.msg p) f

  pub deliver-holds : (fate : Fate) (n : ℕ) (w : World) → HoldsIn F w → (world.deliver fate n w).fault ≡ None → HoldsIn F (world.deliver fate n w).world
  deliver-holds fate n w (g, h, st) f = by (at n w.pool) refl
    where
      to : (s : Sent) → Contains g.pool (s.clerk, s.msg) → (b : Bool) → (elim b as (λ z. Moving) [ true ↦ to_server fate n s w.server w | false ↦ to_clerk s.clerk s.msg (at s.clerk w.clerks) (settled n w) ]).fault ≡ None
          → HoldsIn F (elim b as (λ z. Moving) [ true ↦ to_server fate n s w.server w | false ↦ to_clerk s.clerk s.msg (at s.clerk w.clerks) (settled n w) ]).world
      to s p true f = to-server fate n w g h st s p w.server refl f
      to s p false f = to-clerk (settled n w) g h (settled-stands w g st n) s.clerk s.msg p (at s.clerk w.clerks) refl f

      by : (o : Option Sent) → at n w.pool ≡ o → HoldsIn F (world.deliver fate n w).world
      by None q = absurd (some_not (sym (ap (λ x. (delivered fate n w x).fault) q) ∙ f))
      by (Some s) q = subst (λ x. HoldsIn F (delivered fate n w x).world) (sym q) (to s (st.pool n s.clerk s.nth s.msg q) (is_for_server s) (sym (ap (λ x. (delivered fate n w x).fault) q) ∙ f))

  -- a message that is kept
  kept-holds : (n : ℕ) (m : Moving) (w : World) → HoldsIn F m.world → (kept_or n m w).fault ≡ None → HoldsIn F (kept_or n m w).world
  kept-holds n m w h f = by (at n w.pool) refl
    where
      by : (o : Option Sent) → at n w.pool ≡ o → HoldsIn F (kept_or n m w).world
      by None q = absurd (some_not (sym (ap (λ x. (elim x as (λ z. Moving) [ None ↦ fails fault.NoSuchMsg w | Some s ↦ m ]).fault) q) ∙ f))
      by (Some s) q = subst (λ x. HoldsIn F (elim x as (λ z. Moving) [ None ↦ fails fault.NoSuchMsg w | Some s ↦ m ]).world) (sym q) h

  -- one that may do nothing, by a test
  may-holds : (b : Bool) (m n : Moving) → HoldsIn F m.world → HoldsIn F n.world → HoldsIn F (elim b as (λ z. Moving) [ true ↦ m | false ↦ n ]).world
  may-holds true m n h k = h
  may-holds false m n h k = k

  same-holds : (w v : World) → HoldsIn F w → ((g : System) → Stands w g → Stands v g) → HoldsIn F v
  same-holds w v (g, h, st) k = (g, h, k g st)

  -- Each event.

  push-holds : (w : World) → HoldsIn F w → (c n : ℕ) (o : Option Clerk) → at c w.clerks ≡ o → (world.push c n o w).fault ≡ None → HoldsIn F (world.push c n o w).world
  push-holds w h c n None q f = absurd (some_not f)
  push-holds w (g, h, st) c n (Some k) q f = by (has_issued n k) refl
    where
      may : (b : Bool) → (pushed c n k w b).fault ≡ None → HoldsIn F (pushed c n k w b).world
      may false f = none-happens w (g, h, st)
      may true f = let r = runs-in w g st c k q in done (moving w) g st c r.0 r.1 (push n k) (keep.pushes g c r.0 k h r.1 r.2 n) refl f

      by : (b : Bool) → has_issued n k ≡ b → HoldsIn F (world.push c n (Some k) w).world
      by false p = absurd (some_not (sym (ap (λ x. (elim x as (λ z. Moving) [ false ↦ fails fault.NoSuchOp w | true ↦ pushed c n k w (is_undurable c n w) ]).fault) p) ∙ f))
      by true p = subst (λ x. HoldsIn F (elim x as (λ z. Moving) [ false ↦ fails fault.NoSuchOp w | true ↦ pushed c n k w (is_undurable c n w) ]).world) (sym p)
          (may (is_undurable c n w) (sym (ap (λ x. (elim x as (λ z. Moving) [ false ↦ fails fault.NoSuchOp w | true ↦ pushed c n k w (is_undurable c n w) ]).fault) p) ∙ f))

  resend-holds : (w : World) → HoldsIn F w → (c : ℕ) (o : Option Clerk) → at c w.clerks ≡ o → (world.resend c o w).fault ≡ None → HoldsIn F (world.resend c o w).world
  resend-holds w h c None q f = none-happens w h
  resend-holds w (g, h, st) c (Some k) q f = let r = runs-in w g st c k q in done (moving w) g st c r.0 r.1 (resend k) (keep.resends g c r.0 k h r.1 r.2) refl f

  crash-holds : (w : World) → HoldsIn F w → (c : ℕ) (o : Option Clerk) → at c w.clerks ≡ o → HoldsIn F (world.crash c o w).world
  crash-holds w h c None q = none-happens w h
  crash-holds w (g, h, st) c (Some k) q = (crashed g c, keep.crashes g h c, crashed-stands w g st c k q)

  end-holds : (fate : Fate) (w : World) → HoldsIn F w → (c : ℕ) (o : Option Server) → w.server ≡ o → (world.end fate c o w).fault ≡ None → HoldsIn F (world.end fate c o w).world
  end-holds fate w h c None q f = none-happens w h
  end-holds fate w (g, h, st) c (Some v) q f = by (is_open (slot v.durable c)) f
    where
      by : (b : Bool) → (elim b as (λ z. Moving) [ true ↦ served fate (end c v) w | false ↦ nothing w ]).fault ≡ None → HoldsIn F (elim b as (λ z. Moving) [ true ↦ served fate (end c v) w | false ↦ nothing w ]).world
      by false f = none-happens w (g, h, st)
      by true f = let up : g.server ≡ Some v = sym st.server ∙ q in serves fate w g h st v up (end c v) (inr (c, refl)) (keep.ends g v h up c) f

  stop-holds : (w : World) → HoldsIn F w → (o : Option Server) → w.server ≡ o → HoldsIn F (world.stop_server o w).world
  stop-holds w h None q = none-happens w h
  stop-holds w (g, h, st) (Some v) q = (stopped g, keep.stops g v h (sym st.server ∙ q), stopped-stands w g st v q)

  pub restart-holds : (fate : Fate) (w : World) → HoldsIn F w → w.server ≡ None → (restart fate w).fault ≡ None → HoldsIn F (restart fate w).world
  restart-holds fate w (g, h, st) q f = by (server.start w.durable).spent refl
    where
      by : (o : Option Counter) → (server.start w.durable).spent ≡ o → HoldsIn F (restart fate w).world
      by None p = keep.restarts w g h st q p fate
      by (Some n) p = absurd (some_not (sym (ap (λ x. (elim x as (λ z. Moving) [ Some n ↦ fails (fault.Spent n) w | None ↦ world.restarted fate (server.start w.durable) w ]).fault) p) ∙ f))

  up-holds : (fate : Fate) (w : World) → HoldsIn F w → (o : Option Server) → w.server ≡ o → (world.restart_server fate o w).fault ≡ None → HoldsIn F (world.restart_server fate o w).world
  up-holds fate w h (Some v) q f = none-happens w h
  up-holds fate w h None q f = restart-holds fate w h q f

  pub event-holds : (fate : Fate) (e : Event) (w : World) → HoldsIn F w → MayHappen w e → (happen fate e w).fault ≡ None → HoldsIn F (happen fate e w).world
  event-holds fate (event.Call c l cl) w h may f = call-holds w h c l cl may.0 may.1 may.2 f
  event-holds fate (event.Push c n) w h may f = push-holds w h c n (at c w.clerks) refl f
  event-holds fate (event.Resend c) w h may f = resend-holds w h c (at c w.clerks) refl f
  event-holds fate (event.Cut c) w h may f =
      may-holds (member c w.cut) (nothing w) (moving (record w { cut = c ∷ w.cut })) (none-happens w h) (same-holds w (record w { cut = c ∷ w.cut }) h (λ g st. same-stands w g st (record w { cut = c ∷ w.cut }) refl refl refl refl refl refl refl (λ n s q. q)))
  event-holds fate (event.Uncut c) w h may f =
      let v = record w { cut = filter (λ d. not (d == c)) w.cut } in
      may-holds (member c w.cut) (moving v) (nothing w) (same-holds w v h (λ g st. same-stands w g st v refl refl refl refl refl refl refl (λ n s q. q))) (none-happens w h)
  event-holds fate (event.Drop n) w h may f = kept-holds n (elim (is_pending n w) as (λ z. Moving) [ true ↦ moving (settled n w) | false ↦ nothing w ]) w (may-holds (is_pending n w) (moving (settled n w)) (nothing w) (stands-settled n w h) (none-happens w h)) f
  event-holds fate (event.Repeat n) w h may f =
      let v = record w { pending = elim (is_pending n w) as (λ z. List ℕ) [ true ↦ w.pending | false ↦ among n w.pending ] } in
      kept-holds n (moving v) w (same-holds w v h (λ g st. same-stands w g st v refl refl refl refl refl refl refl (λ n s q. q))) f
  event-holds fate (event.Deliver n) w h may f = deliver-holds fate n w h f
  event-holds fate (event.Crash c) w h may f = crash-holds w h c (at c w.clerks) refl
  event-holds fate (event.End c) w h may f = end-holds fate w h c w.server refl f
  event-holds fate event.Stop w h may f = stop-holds w h w.server refl
  event-holds fate (event.Arm n ch) w h may f = same-holds w (record w { choice = ch }) h (λ g st. same-stands w g st (record w { choice = ch }) refl refl refl refl refl refl refl (λ n s q. q))
  event-holds fate event.Restart w h may f = up-holds fate w h w.server refl f
