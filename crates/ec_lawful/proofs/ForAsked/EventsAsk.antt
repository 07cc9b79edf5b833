-- Behind each event no more ends of sessions are shown, or to be shown, than crashes and ends allow for.
use Rattle.std.proofs.Common.{◌≡◌, refl, sym, ap, subst, ◌∙◌, inl, inr, arith, ◌≤◌, ◌+◌, ◌-◌, ℕ, T, Bool, true, false, ◌==◌, cond, List, [], ◌∷◌, ◌++◌, Option, Some, None}
use Rattle.std.specs.Prelude.{Contains, is_some, not, Ok}
use Rattle.std.specs.List.{filter, list_any}
use Rattle.ec_base.specs.Tables.{at, put, without}
use Rattle.ec_base.specs.declared.counter.Counter.{Counter}
use Rattle.ec_volume.specs.Update.{member}
use Rattle.ec_plain.specs.declared.call.Call.{Call}
use Rattle.ec_history.specs.declared.shown.Shown.TheVariants as show
use Rattle.ec_sessions.specs.Slots.{is_open}
use Rattle.ec_durable.specs.Durable.{slot, step}
use Rattle.ec_durable.specs.declared.record.Record.{Record}
use Rattle.ec_durable.specs.declared.record.Record.TheVariants as record_of
use Rattle.ec_protocol.specs.Clerk.{Doing, begin, has_issued, push, resend, start, take as take_message}
use Rattle.ec_protocol.specs.Server.{Serving}
use Rattle.ec_protocol.specs.Server as server
use Rattle.ec_protocol.specs.World as world
use Rattle.ec_protocol.specs.World.{Fate, Moving, moving}
use Rattle.ec_protocol.specs.declared.clerk.Clerk.{Clerk}
use Rattle.ec_protocol.specs.declared.clerk.Out.{Out}
use Rattle.ec_protocol.specs.declared.server.Server.{Server}
use Rattle.ec_protocol.specs.declared.world.Event.{Event}
use Rattle.ec_protocol.specs.declared.world.Event.TheVariants as event
use Rattle.ec_protocol.specs.declared.world.Sent.{Sent}
use Rattle.ec_protocol.specs.declared.world.World.{World}
use Rattle.ec_protocol.specs.declared.world.WorldFault.TheVariants as fault
use Rattle.ec_coherence.specs.System.{System}
use Rattle.ec_coherence.specs.Steps.{Committed, Stands}
use Rattle.ec_coherence.proofs.ForCommits.Needs.{each-of}
use Rattle.ec_coherence.proofs.ForServer.Tables.{at-without}
use Rattle.ec_coherence.specs.CommitLaws.{AllAgree}
use Rattle.ec_lawful.specs.Doubts.{ComesFrom}
use Rattle.ec_lawful.proofs.ForWhole.From.{ends-from, takes-from}
use Rattle.ec_coherence.specs.Makes.{IsMade}
use Rattle.ec_coherence.proofs.TakesMaking.{end-stands, takes-any}
use Rattle.ec_lawful.specs.Steps.{HoldsIn}
use Rattle.ec_lawful.proofs.ForWhole.Frames.{settled-stands}
use Rattle.ec_lawful.specs.Asked.{AsksAgree, EndsAsked, IsNoBye, ended_by, passed, seat, to_end, top, with_event}
use Rattle.ec_lawful.specs.AskedLaws.{StandsAsked}
use Rattle.ec_lawful.proofs.ForAsked.Pays.{MayOpen, asks_for}
use Rattle.ec_lawful.proofs.ForAsked.LaterStarts.{may-open}
use Rattle.ec_lawful.proofs.ForAsked.Reading.{Begins, alike, alike-asks, done-alike, ended-line, running-tops, starting-tops}
use Rattle.ec_lawful.proofs.ForAsked.ServingAsks.{committed-asks, line-alike, quiet-serves, restart-asks, weaken}
use Rattle.ec_lawful.proofs.ForAsked.Unended.{EndsNone, EndsOne, end-ends-one, take-ends-none}
use Rattle.ec_base.specs.Bools.{one_if}
use Rattle.ec_base.proofs.Options.{none_some}

no-more : (n : ℕ) → n ≤ n + 0
no-more n = omega arith

-- A server's step.
module _ (first asked k : ℕ → ℕ) (w : World) (g : System) (st : Stands w g) (all : AllAgree g) (asks : AsksAgree first g) (a : EndsAsked first asked w) (v : Server) (up : g.server ≡ Some v) (t : Serving)
    (made : IsMade g v t) (from : (r : Record) → t.rec ≡ Some r → ComesFrom g r) (pay : (r : Record) → t.rec ≡ Some r → (c : ℕ) → asks_for r c ≤ k c) where
  same : w.durable ≡ g.durable
  same = st.up (subst (λ x. T (is_some x)) (sym up) tt)

  begun : (c : ℕ) → g.boots c ≤ top c w
  begun c = subst (λ n. n ≤ top c w) (st.boots c) (go (is_some (at c w.clerks)))
    where
      go : (z : Bool) → world.boot c w ≤ elim z as (λ y. ℕ) [ true ↦ world.boot c w | false ↦ world.boot c w + 1 ]
      go true = omega arith
      go false = omega arith

  may : (r : Record) → ComesFrom g r → step r g.durable ≡ Ok t.server.durable → MayOpen first (λ c. top c w) g.durable r
  may (record_of.Open c age s) f q = may-open first g all asks c age f s t.server.durable q (λ c. top c w) (begun c)
  may (record_of.Batch c s b ops) f q = tt
  may (record_of.End c s) f q = tt
  may (record_of.Ids c s got n) f q = tt
  may (record_of.Epoch e) f q = tt

  committed : t.spent ≡ None → Committed g.durable t.rec t.server.durable
  committed q = go made
    where
      go : IsMade g v t → Committed g.durable t.rec t.server.durable
      go (inl s) = absurd (subst (λ o. T (is_some o)) q s)
      go (inr (γ, s, m)) = (s.0).committed

  abbrev Done : World → Type 0
  Done x = EndsAsked first (λ c. asked c + k c) x

  by : (fate : Fate) (o : Option Record) → t.rec ≡ o → Committed g.durable o t.server.durable → Done (world.served_record fate o t w).world
  by fate None q e = quiet-serves first asked k w a t (λ c. ap (seat c) (e ∙ sym same))
  by fate (Some r) q e = committed-asks first asked k w a t r (subst (λ d. step r d ≡ Ok t.server.durable) (sym same) e) (subst (λ d. MayOpen first (λ c. top c w) d r) (sym same) (may r (from r q) e)) (pay r q) fate

  served-asks : (fate : Fate) → (world.served fate t w).fault ≡ None → Done (world.served fate t w).world
  served-asks fate f = go t.spent refl f
    where
      go : (o : Option Counter) → t.spent ≡ o → (elim o as (λ z. Moving) [ Some n ↦ world.fails (fault.Spent n) w | None ↦ world.served_record fate t.rec t w ]).fault ≡ None
          → Done (elim o as (λ z. Moving) [ Some n ↦ world.fails (fault.Spent n) w | None ↦ world.served_record fate t.rec t w ]).world
      go (Some n) q f = absurd (none_some (sym f))
      go None q f = by fate t.rec refl (committed q)

ends-nobody : (r : Record) → EndsNone (Some r) → (c : ℕ) → asks_for r c ≤ 0
ends-nobody (record_of.End d s) n c = absurd n
ends-nobody (record_of.Batch d s b ops) n c = omega arith
ends-nobody (record_of.Open d age s) n c = omega arith
ends-nobody (record_of.Ids d s got x) n c = omega arith
ends-nobody (record_of.Epoch e) n c = omega arith

ends-one : (d : ℕ) (r : Record) → EndsOne d (Some r) → (c : ℕ) → asks_for r c ≤ one_if (c == d)
ends-one d (record_of.End f s) n c = subst (λ x. one_if (c == x) ≤ one_if (c == d)) (sym n) (omega arith)
ends-one d (record_of.Batch f s b ops) n c = absurd n
ends-one d (record_of.Open f age s) n c = absurd n
ends-one d (record_of.Ids f s got x) n c = absurd n
ends-one d (record_of.Epoch e) n c = absurd n

-- Events that ask for no end.
module _ (first asked : ℕ → ℕ) where
  abbrev A : World → Type 0
  A w = EndsAsked first asked w

  same-asks : (w v : World) → A w → v.shown ≡ w.shown → v.unshown ≡ w.unshown → v.clerks ≡ w.clerks → v.boots ≡ w.boots → v.durable ≡ w.durable → A v
  same-asks w v a p q r s d = alike-asks first asked w v (alike w v p q r s d) a

  nothing-asks : (w : World) → A w → A (world.nothing w).world
  nothing-asks w a = alike-asks first asked w (world.nothing w).world (line-alike w (world.nothing w).world refl refl refl refl (λ c. ended-line c w.shown show.Nothing)) a

  -- a clerk's step
  done-asks : (w : World) (m : Moving) (c : ℕ) (d : Doing) → A w → Begins w m c → (world.clerk_does c d m).fault ≡ None → A (world.clerk_does c d m).world
  done-asks w m c d a b f = alike-asks first asked w (world.clerk_does c d m).world (done-alike w m c d b f) a

  runs-on : (w v : World) (c : ℕ) (k : Clerk) → at c w.clerks ≡ Some k → v.clerks ≡ w.clerks → v.boots ≡ w.boots → v.shown ≡ w.shown → v.unshown ≡ w.unshown → v.durable ≡ w.durable → Begins w (moving v) c
  runs-on w v c k q r s p u d = record { ended = λ e. ap (ended_by e) p; unshown = u; durable = d; tops = running-tops w v c k q r s }

  -- Calls.

  waits-begin : (w : World) (m : Moving) (c l : ℕ) (cl : Call) (b : Bool) → Begins w m c → Begins w (elim b as (λ z. Moving) [ true ↦ m | false ↦ world.show_line (show.Waits l c cl) m ]) c
  waits-begin w m c l cl true b = b
  waits-begin w m c l cl false b = record { ended = λ e. ended-line e m.world.shown (show.Waits l c cl) ∙ none (ended_by e m.world.shown) ∙ b.ended e; unshown = b.unshown; durable = b.durable; tops = b.tops }
    where
      none : (n : ℕ) → n + 0 ≡ n
      none n = omega arith

  call-on-asks : (w v : World) (c l : ℕ) (cl : Call) (before : List Out) (k : Clerk) → A w → Begins w (moving v) c → (world.call_on c l cl before k v).fault ≡ None → A (world.call_on c l cl before k v).world
  call-on-asks w v c l cl before k a b f = go (begin cl k).spent f
    where
      m : Moving
      m = world.show_waits c (k.calls + 1) l cl (begin cl k).outs (moving (world.add_call c (k.calls + 1) l cl v))

      begins : Begins w m c
      begins = waits-begin w (moving (world.add_call c (k.calls + 1) l cl v)) c l cl (list_any (world.is_answer_to (k.calls + 1)) (begin cl k).outs) (record { ended = b.ended; unshown = b.unshown; durable = b.durable; tops = b.tops })

      go : (o : Option Counter) → (elim o as (λ z. Moving) [ Some s ↦ world.fails (fault.Spent s) v | None ↦ world.clerk_does c (record (begin cl k) { outs = before ++ (begin cl k).outs }) m ]).fault ≡ None
          → A (elim o as (λ z. Moving) [ Some s ↦ world.fails (fault.Spent s) v | None ↦ world.clerk_does c (record (begin cl k) { outs = before ++ (begin cl k).outs }) m ]).world
      go (Some s) f = absurd (none_some (sym f))
      go None f = done-asks w m c (record (begin cl k) { outs = before ++ (begin cl k).outs }) a begins f

  call-asks : (w : World) → A w → (c l : ℕ) (cl : Call) → (world.call c l cl w).fault ≡ None → A (world.call c l cl w).world
  call-asks w a c l cl f = go (at c w.clerks) refl f
    where
      v : World
      v = record w { boots = put c (world.boot c w + 1) w.boots }

      starts : at c w.clerks ≡ None → (o : Option Counter) → (elim o as (λ z. Moving) [ Some n ↦ world.fails (fault.Spent n) w | None ↦ world.call_on c l cl (start c (world.boot c w + 1)).outs (start c (world.boot c w + 1)).clerk v ]).fault ≡ None
          → A (elim o as (λ z. Moving) [ Some n ↦ world.fails (fault.Spent n) w | None ↦ world.call_on c l cl (start c (world.boot c w + 1)).outs (start c (world.boot c w + 1)).clerk v ]).world
      starts q (Some n) f = absurd (none_some (sym f))
      starts q None f = call-on-asks w v c l cl (start c (world.boot c w + 1)).outs (start c (world.boot c w + 1)).clerk a (record { ended = λ e. refl; unshown = refl; durable = refl; tops = starting-tops w c q v refl refl }) f

      go : (o : Option Clerk) → at c w.clerks ≡ o → (elim o as (λ z. Moving) [ Some k ↦ world.call_on c l cl [] k w | None ↦ world.start_and_call c l cl w ]).fault ≡ None
          → A (elim o as (λ z. Moving) [ Some k ↦ world.call_on c l cl [] k w | None ↦ world.start_and_call c l cl w ]).world
      go (Some k) q f = call-on-asks w w c l cl [] k a (runs-on w w c k q refl refl refl refl refl) f
      go None q f = starts q (start c (world.boot c w + 1)).spent f

  -- Others.

  choose : (b : Bool) (m n : Moving) → A m.world → A n.world → A (elim b as (λ z. Moving) [ true ↦ m | false ↦ n ]).world
  choose true m n x y = x
  choose false m n x y = y

  kept-asks : (n : ℕ) (m : Moving) (w : World) → A m.world → (world.kept_or n m w).fault ≡ None → A (world.kept_or n m w).world
  kept-asks n m w a f = go (at n w.pool) f
    where
      go : (o : Option Sent) → (elim o as (λ z. Moving) [ None ↦ world.fails fault.NoSuchMsg w | Some s ↦ m ]).fault ≡ None → A (elim o as (λ z. Moving) [ None ↦ world.fails fault.NoSuchMsg w | Some s ↦ m ]).world
      go None f = absurd (none_some (sym f))
      go (Some s) f = a

  push-asks : (w : World) → A w → (c n : ℕ) (o : Option Clerk) → at c w.clerks ≡ o → (world.push c n o w).fault ≡ None → A (world.push c n o w).world
  push-asks w a c n None q f = absurd (none_some (sym f))
  push-asks w a c n (Some k) q f = go (has_issued n k) f
    where
      may-push : (b : Bool) → (elim b as (λ z. Moving) [ true ↦ world.clerk_does c (push n k) (moving w) | false ↦ world.nothing w ]).fault ≡ None → A (elim b as (λ z. Moving) [ true ↦ world.clerk_does c (push n k) (moving w) | false ↦ world.nothing w ]).world
      may-push true f = done-asks w (moving w) c (push n k) a (runs-on w w c k q refl refl refl refl refl) f
      may-push false f = nothing-asks w a

      go : (b : Bool) → (elim b as (λ z. Moving) [ false ↦ world.fails fault.NoSuchOp w | true ↦ elim (world.is_undurable c n w) as (λ z. Moving) [ true ↦ world.clerk_does c (push n k) (moving w) | false ↦ world.nothing w ] ]).fault ≡ None
          → A (elim b as (λ z. Moving) [ false ↦ world.fails fault.NoSuchOp w | true ↦ elim (world.is_undurable c n w) as (λ z. Moving) [ true ↦ world.clerk_does c (push n k) (moving w) | false ↦ world.nothing w ] ]).world
      go false f = absurd (none_some (sym f))
      go true f = may-push (world.is_undurable c n w) f

  resend-asks : (w : World) → A w → (c : ℕ) (o : Option Clerk) → at c w.clerks ≡ o → (world.resend c o w).fault ≡ None → A (world.resend c o w).world
  resend-asks w a c None q f = nothing-asks w a
  resend-asks w a c (Some k) q f = done-asks w (moving w) c (resend k) a (runs-on w w c k q refl refl refl refl refl) f

  stop-asks : (w : World) → A w → (o : Option Server) → A (world.stop_server o w).world
  stop-asks w a None = nothing-asks w a
  stop-asks w a (Some v) = alike-asks first asked w (world.stop_server (Some v) w).world (line-alike w (world.stop_server (Some v) w).world refl refl refl refl (λ c. ended-line c w.shown show.Stopped)) a

  up-asks : (fate : Fate) (w : World) → A w → (o : Option Server) → (world.restart_server fate o w).fault ≡ None → A (world.restart_server fate o w).world
  up-asks fate w a (Some v) f = nothing-asks w a
  up-asks fate w a None f = restart-asks first asked w a fate f

  -- Messages.

  less-zero : (w : World) → EndsAsked first (λ c. asked c + 0) w → A w
  less-zero w a = weaken first (λ c. asked c + 0) asked w (λ c. none (asked c)) a
    where
      none : (n : ℕ) → n + 0 ≤ n
      none n = omega arith

  pub deliver-asks : (fate : Fate) (n : ℕ) (w : World) → HoldsIn (StandsAsked first) w → A w → (world.deliver fate n w).fault ≡ None → A (world.deliver fate n w).world
  deliver-asks fate n w (g, h, st) a f = go (at n w.pool) refl f
    where
      settled : A (world.settled n w)
      settled = same-asks w (world.settled n w) a refl refl refl refl refl

      to-clerk : (s : Sent) (o : Option Clerk) → at s.clerk w.clerks ≡ o → (world.to_clerk s.clerk s.msg o (world.settled n w)).fault ≡ None → A (world.to_clerk s.clerk s.msg o (world.settled n w)).world
      to-clerk s None q f = settled
      to-clerk s (Some k) q f = done-asks w (moving (world.settled n w)) s.clerk (take_message s.msg k) a (runs-on w (world.settled n w) s.clerk k q refl refl refl refl refl) f

      to-server : (s : Sent) → Contains g.pool (s.clerk, s.msg) → (o : Option Server) → w.server ≡ o → (world.to_server fate n s o w).fault ≡ None → A (world.to_server fate n s o w).world
      to-server s p None q f = nothing-asks w a
      to-server s p (Some v) q f =
          let up : g.server ≡ Some v = sym st.server ∙ q in
          let t = server.take s.clerk s.msg v in
          let silent = each-of (λ z. IsNoBye z.1) g.pool (s.clerk, s.msg) (h.1).silent p in
          less-zero (world.served fate t (world.settled n w)).world
          (served-asks first asked (λ c. 0) (world.settled n w) g (settled-stands w g st n) h.0 h.1 settled v up t (takes-any g v h.0 up s.clerk s.msg p) (takes-from g v s.clerk s.msg p)
          (λ r e. ends-nobody r (subst EndsNone e (take-ends-none g v h.0 up s.clerk s.msg silent p))) fate f)

      to : (s : Sent) → Contains g.pool (s.clerk, s.msg) → (b : Bool) → (elim b as (λ z. Moving) [ true ↦ world.to_server fate n s w.server w | false ↦ world.to_clerk s.clerk s.msg (at s.clerk w.clerks) (world.settled n w) ]).fault ≡ None
          → A (elim b as (λ z. Moving) [ true ↦ world.to_server fate n s w.server w | false ↦ world.to_clerk s.clerk s.msg (at s.clerk w.clerks) (world.settled n w) ]).world
      to s p true f = to-server s p w.server refl f
      to s p false f = to-clerk s (at s.clerk w.clerks) refl f

      go : (o : Option Sent) → at n w.pool ≡ o → (elim o as (λ z. Moving) [ None ↦ world.fails fault.NoSuchMsg w | Some s ↦ world.deliver_to fate n s w ]).fault ≡ None → A (elim o as (λ z. Moving) [ None ↦ world.fails fault.NoSuchMsg w | Some s ↦ world.deliver_to fate n s w ]).world
      go None q f = absurd (none_some (sym f))
      go (Some s) q f = to s (st.pool n s.clerk s.nth s.msg q) (world.is_for_server s) f

-- A crash, and an end.

one-less : (z : Bool) (o : Option Clerk) (b : ℕ) → elim (is_some (cond z None o)) as (λ y. ℕ) [ true ↦ b | false ↦ b + 1 ] ≤ elim (is_some o) as (λ y. ℕ) [ true ↦ b | false ↦ b + 1 ] + one_if z
one-less true None b = omega arith
one-less true (Some k) b = omega arith
one-less false None b = omega arith
one-less false (Some k) b = omega arith

module _ (first asked : ℕ → ℕ) (c : ℕ) where
  abbrev more : ℕ → ℕ
  more e = asked e + one_if (e == c)

  asks-more : (w : World) → EndsAsked first asked w → EndsAsked first more w
  asks-more w a = weaken first asked more w (λ e. less (asked e) (one_if (e == c))) a
    where
      less : (a b : ℕ) → a ≤ a + b
      less a b = omega arith

  crash-asks : (w : World) → EndsAsked first asked w → (o : Option Clerk) → EndsAsked first more (world.crash c o w).world
  crash-asks w a None = nothing-asks first more w (asks-more w a)
  crash-asks w a (Some k) = record {
    within = λ e. one-more (ended_by e (world.crash c (Some k) w).world.shown) (ended_by e w.shown) (to_end e w.unshown) (top e v) (top e w) (passed (first e) (seat e w.durable)) (asked e) (one_if (e == c))
        (ended-line e w.shown (show.Crashed c)) (fewer e) (a.within e);
  }
    where
      v : World
      v = record w { clerks = without c w.clerks }

      fewer : (e : ℕ) → top e v ≤ top e w + one_if (e == c)
      fewer e = subst (λ o. elim (is_some o) as (λ y. ℕ) [ true ↦ world.boot e w | false ↦ world.boot e w + 1 ] ≤ top e w + one_if (e == c)) (sym (at-without e c w.clerks)) (one-less (e == c) (at e w.clerks) (world.boot e w))

      one-more : (x n u now was p a k : ℕ) → x ≡ n + 0 → now ≤ was + k → n + u + (was - p) ≤ a → x + u + (now - p) ≤ a + k
      one-more x n u now was p a k q l m = omega (arith, q, l, m)

  end-asks : (fate : Fate) (w : World) → HoldsIn (StandsAsked first) w → EndsAsked first asked w → (o : Option Server) → w.server ≡ o → (world.end fate c o w).fault ≡ None → EndsAsked first more (world.end fate c o w).world
  end-asks fate w h a None q f = nothing-asks first more w (asks-more w a)
  end-asks fate w (g, h, st) a (Some v) q f = go (is_open (slot v.durable c)) f
    where
      go : (b : Bool) → (elim b as (λ z. Moving) [ true ↦ world.served fate (server.end c v) w | false ↦ world.nothing w ]).fault ≡ None → EndsAsked first more (elim b as (λ z. Moving) [ true ↦ world.served fate (server.end c v) w | false ↦ world.nothing w ]).world
      go false f = nothing-asks first more w (asks-more w a)
      go true f =
          let up : g.server ≡ Some v = sym st.server ∙ q in
          served-asks first asked (λ e. one_if (e == c)) w g st h.0 h.1 a v up (server.end c v) (end-stands g v h.0 up c) (ends-from g v c) (λ r e. ends-one c r (subst (EndsOne c) e (end-ends-one c v))) fate f

-- Each event.

module _ (first asked : ℕ → ℕ) (fate : Fate) (w : World) (h : HoldsIn (StandsAsked first) w) (a : EndsAsked first asked w) where
  -- the same are asked for
  same-asked : (v : World) → EndsAsked first asked v → EndsAsked first (λ c. asked c + 0) v
  same-asked v b = weaken first asked (λ c. asked c + 0) v (λ c. no-more (asked c)) b

  pub event-asks : (e : Event) → (world.happen fate e w).fault ≡ None → EndsAsked first (with_event e asked) (world.happen fate e w).world
  event-asks (event.Call c l cl) f = same-asked (world.call c l cl w).world (call-asks first asked w a c l cl f)
  event-asks (event.Push c n) f = same-asked (world.push c n (at c w.clerks) w).world (push-asks first asked w a c n (at c w.clerks) refl f)
  event-asks (event.Resend c) f = same-asked (world.resend c (at c w.clerks) w).world (resend-asks first asked w a c (at c w.clerks) refl f)
  event-asks (event.Cut c) f =
      let v = record w { cut = c ∷ w.cut } in
      same-asked (world.cut c w).world (choose first asked (member c w.cut) (world.nothing w) (moving v) (nothing-asks first asked w a) (same-asks first asked w v a refl refl refl refl refl))
  event-asks (event.Uncut c) f =
      let v = record w { cut = filter (λ d. not (d == c)) w.cut } in
      same-asked (world.uncut c w).world (choose first asked (member c w.cut) (moving v) (world.nothing w) (same-asks first asked w v a refl refl refl refl refl) (nothing-asks first asked w a))
  event-asks (event.Drop n) f = same-asked (world.drop n w).world
      (kept-asks first asked n (elim (world.is_pending n w) as (λ z. Moving) [ true ↦ moving (world.settled n w) | false ↦ world.nothing w ]) w
      (choose first asked (world.is_pending n w) (moving (world.settled n w)) (world.nothing w) (same-asks first asked w (world.settled n w) a refl refl refl refl refl) (nothing-asks first asked w a)) f)
  event-asks (event.Repeat n) f =
      let v = record w { pending = elim (world.is_pending n w) as (λ z. List ℕ) [ true ↦ w.pending | false ↦ world.among n w.pending ] } in
      same-asked (world.repeat n w).world (kept-asks first asked n (moving v) w (same-asks first asked w v a refl refl refl refl refl) f)
  event-asks (event.Deliver n) f = same-asked (world.deliver fate n w).world (deliver-asks first asked fate n w h a f)
  event-asks (event.Crash c) f = crash-asks first asked c w a (at c w.clerks)
  event-asks (event.End c) f = end-asks first asked c fate w h a w.server refl f
  event-asks event.Stop f = same-asked (world.stop_server w.server w).world (stop-asks first asked w a w.server)
  event-asks (event.Arm n ch) f = same-asked (record w { choice = ch }) (same-asks first asked w (record w { choice = ch }) a refl refl refl refl refl)
  event-asks event.Restart f = same-asked (world.restart_server fate w.server w).world (up-asks first asked fate w a w.server f)
