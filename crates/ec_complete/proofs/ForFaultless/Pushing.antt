-- The first step of a push.
use Rattle.std.proofs.Common.{◌≡◌, refl, sym, ap, ◌∙◌, subst, arith, ◌≤◌, ◌+◌, ◌-◌, ◌++◌, ℕ, T, Bool, true, false, List, [], ◌∷◌, inl, inr, length}
use Rattle.std.specs.Prelude.{Option, None, Some, is_none, is_some, nat_le}
use Rattle.ec_base.specs.Tables.{at, once, put}
use Rattle.ec_base.specs.declared.counter.Counter.TheVariants as counter
use Rattle.ec_volume.specs.Update.{member}
use Rattle.ec_volume.specs.Volume.{Images}
use Rattle.ec_history.specs.History.{Each}
use Rattle.ec_sessions.specs.declared.slot.Slot.{Slot}
use Rattle.ec_durable.specs.Durable.{slot}
use Rattle.ec_log.specs.Log as log
use Rattle.ec_log.specs.declared.state.Asked.TheVariants.{Op}
use Rattle.ec_log.specs.declared.state.Pick.{Pick}
use Rattle.ec_log.specs.declared.state.Pick.TheVariants as pick_of
use Rattle.ec_protocol.specs.Clerk.{Doing, ask_for, doing, evict, has_issued, keep_push, push, send_batch, send_picked, settle, spend, with_log}
use Rattle.ec_protocol.specs.World as world
use Rattle.ec_protocol.specs.World.{Moving, clerk_does, come_out, fails, is_undurable, moving, nothing, with_world}
use Rattle.ec_protocol.specs.declared.clerk.Clerk.{Clerk}
use Rattle.ec_protocol.specs.declared.script.Line.TheVariants as line
use Rattle.ec_protocol.specs.declared.world.Event.TheVariants as event
use Rattle.ec_protocol.specs.declared.world.World.{World}
use Rattle.ec_protocol.specs.declared.world.WorldFault.TheVariants as fault
use Rattle.ec_coherence.specs.System.{System}
use Rattle.ec_coherence.proofs.ForServer.Tables.{same_some}
use Rattle.ec_lawful.specs.Steps as steps
use Rattle.ec_lawful.specs.Runs.{OfRun}
use Rattle.ec_quiet.specs.Facts.{WantIsAnswered, IsIdleBut}
use Rattle.ec_quiet.specs.Measure.{sum}
use Rattle.ec_quiet.specs.Scenes.{IsScene, Scene, done_by}
use Rattle.ec_quiet.specs.Works.{Pushes, Work}
use Rattle.ec_quiet.proofs.Delivering.{comes-out, shown-alike, with-clerks}
use Rattle.ec_quiet.specs.Tries.{push_tried, without_pushes}
use Rattle.ec_quiet.proofs.Beside.{own-at}
use Rattle.ec_quiet.proofs.Steps.{few-stay, prepared, push-alone, tries-none}
use Rattle.ec_complete.specs.OfAgreedLines.Counting as clerks
use Rattle.ec_complete.specs.OfAgreedLines.Counting.{sent_in}
use Rattle.ec_complete.specs.Lines.{IsOnLine}
use Rattle.ec_quiet.specs.First.{HasFirst, IsPush}
use Rattle.ec_quiet.proofs.Stepping.{nothing-fails}
use Rattle.ec_quiet.specs.SettlingCounts.{Counts}
use Rattle.ec_complete.specs.Worlds.{IsCounted, LineIsKnown, Outset}
use Rattle.ec_complete.specs.Goes.{IsStarted}
use Rattle.ec_complete.specs.Ready.{IsReady, calls_of}
use Rattle.ec_complete.proofs.ForFaultless.Counts.{calls-then, counted-then, more-made, own-made, unsent-most}
use Rattle.ec_complete.proofs.ForFaultless.First.{IsStepped, named-now}
use Rattle.ec_complete.proofs.ForFaultless.Idle as idle
use Rattle.ec_complete.proofs.ForFaultless.Laws.{events-hold, pushes-begin, pushes-count, pushes-send}
use Rattle.ec_complete.proofs.ForFaultless.Settles.{work-begins}
use Rattle.ec_base.proofs.Options.{none_some}

-- A push leaves the calls, the cache and the wants.

pub record Alike (k x : Clerk) : Type 0 where
  pub waiting : x.waiting ≡ k.waiting
  pub cache : x.cache ≡ k.cache
  pub wanted : x.wanted ≡ k.wanted

picked-alike : (p : Pick) (d : Doing) → Alike d.clerk (send_picked p d).clerk
picked-alike pick_of.Settled d = record { waiting = refl; cache = refl; wanted = refl }
picked-alike (pick_of.Behind b) d = record { waiting = refl; cache = refl; wanted = refl }
picked-alike (pick_of.Window b) d = record { waiting = refl; cache = refl; wanted = refl }
picked-alike (pick_of.Batch b ns) d = go (log.batches_are_spent d.clerk.log)
  where
    go : (z : Bool) → Alike d.clerk (elim z as (λ y. Doing) [ true ↦ spend counter.Batch d | false ↦ send_batch b (with_log (log.after_pick (pick_of.Batch b ns)) d) ]).clerk
    go true = record { waiting = refl; cache = refl; wanted = refl }
    go false = record { waiting = refl; cache = refl; wanted = refl }

module _ (k : Clerk) (n : ℕ) (inside : is_some k.session ≡ true) (waiting : k.waiting ≡ []) (recalls : k.recalls ≡ []) (pushes : k.pushes ≡ []) (few : length k.cache.held ≤ k.cache.capacity) where
  abbrev pushing-it : Doing
  pushing-it = doing (record k { pushes = n ∷ [] })

  tried : Alike k (push_tried n (without_pushes pushing-it)).clerk
  tried = go (is_none (log.first (Op n) k.log))
    where
      asked : Alike k (ask_for (Op n) (keep_push n (without_pushes pushing-it))).clerk
      asked = let a = picked-alike (log.pick (Op n) k.log) (keep_push n (without_pushes pushing-it)) in record { waiting = a.waiting; cache = a.cache; wanted = a.wanted }

      go : (z : Bool) → Alike k (elim z as (λ y. Doing) [ true ↦ without_pushes pushing-it | false ↦ ask_for (Op n) (keep_push n (without_pushes pushing-it)) ]).clerk
      go true = record { waiting = refl; cache = refl; wanted = refl }
      go false = asked

  stays : evict (push_tried n (without_pushes pushing-it)) ≡ push_tried n (without_pushes pushing-it)
  stays = few-stay (push_tried n (without_pushes pushing-it)) (subst (λ c. length c.held ≤ c.capacity) (sym tried.cache) few)

  kept-is : keep_push n (doing k) ≡ pushing-it
  kept-is = ap (λ ms. doing (record k { pushes = ms ++ n ∷ [] })) pushes

  pub push-alike : Alike k (push n k).clerk
  push-alike = go (nat_le k.log.first n)
    where
      go : (z : Bool) → Alike k (settle (elim z as (λ y. Doing) [ true ↦ keep_push n (doing k) | false ↦ doing k ])).clerk
      go true = subst (λ d. Alike k (settle d).clerk) (sym kept-is) (subst (λ d. Alike k d.clerk) (sym (push-alone pushing-it inside waiting n recalls refl ∙ stays)) tried)
      go false = subst (λ d. Alike k d.clerk) (sym (prepared (doing k) recalls pushes ∙ ap evict (tries-none (doing k) waiting) ∙ few-stay (doing k) few)) (record { waiting = refl; cache = refl; wanted = refl })

module _ (outset : Outset) (v : Images) (most : ℕ) (names : List ℕ) (number : ℕ) (w : World) (q : IsReady outset v most names number w) (few : number ≤ 65536) (first : 1 ≤ number) where
  abbrev sc : Scene
  sc = q.scene

  abbrev g : System
  g = q.system

  abbrev F : System → Type 0
  F = OfRun v most

  -- nothing was done
  idles : (c n : ℕ) (m : Moving) → m.fault ≡ None → IsScene m.world sc → m.world.clerks ≡ w.clerks → IsStepped outset v most names number (line.Push c n) w q m
  idles c n m fine i same = record {
    fine = fine;
    known = inr i;
    started = inr (sc, i, q.idle);
    calls = subst (λ cs. sum calls_of cs ≤ number) (sym (same ∙ q.stands.clerks)) (omega (arith, q.calls));
    named = λ a b e. q.named a b (ap (at a) (sym (same ∙ q.stands.clerks)) ∙ e);
  }

  -- The clerk is asked for a batch.
  module _ (c n : ℕ) (k : Clerk) (there : at c sc.clerks ≡ Some k) where
    abbrev sl : Slot
    sl = idle.slot-of outset v most names number w q few first c k there

    i : IsIdleBut [] sc.server c sl k
    i = idle.its-idle outset v most names number w q few first c k there

    abbrev j : Work
    j = record { clerk = c; session = sl.session; task = Pushes n; touched = []; number = sc.server.number }

    push-is : IsPush j sc sl k n
    push-is = record {
      clerk = idle.its-number outset v most names number w q few first c k there;
      there = there;
      slot = i.inside.there;
      session = refl;
      number = refl;
      task = refl;
      once = idle.once-each outset v most names number w q few first c k there;
      batches = (idle.its-counters outset v most names number w q few first c k there).batches;
    }

    abbrev d : Doing
    d = push n k

    abbrev now : Scene
    now = done_by c d sc.mail sc

    begins : HasFirst j now × (d.spent ≡ None)
    begins = pushes-begin j sc sl k n q.idle push-is

    abbrev behind : Moving
    behind = with_world (λ w. record w { clerks = put c d.clerk w.clerks }) (moving w)

    -- no counter is spent
    does-fine : (clerk_does c d (moving w)).fault ≡ None
    does-fine = ap (λ o. (elim o as (λ z. Moving) [ Some s ↦ fails (fault.Spent s) w | None ↦ come_out c d.outs behind ]).fault) begins.1 ∙ nothing-fails c d.outs behind

    pub issued-fine : has_issued n k ≡ true → (world.push c n (Some k) w).fault ≡ None
    issued-fine e =
        ap (λ a. (elim a as (λ z. Moving) [ false ↦ fails fault.NoSuchOp w | true ↦ elim (is_undurable c n w) as (λ z. Moving) [ true ↦ clerk_does c d (moving w) | false ↦ nothing w ] ]).fault) e ∙ go (is_undurable c n w)
      where
        go : (b : Bool) → (elim b as (λ z. Moving) [ true ↦ clerk_does c d (moving w) | false ↦ nothing w ]).fault ≡ None
        go true = does-fine
        go false = refl

    module _ (issued : has_issued n k ≡ true) (m : Moving) (m-is : m ≡ clerk_does c (push n k) (moving w)) (holds : steps.HoldsIn F m.world) (steady : Counts 0 w m.world) where
      comes : m ≡ come_out c d.outs behind
      comes = m-is ∙ ap (λ o. elim o as (λ z. Moving) [ Some s ↦ fails (fault.Spent s) w | None ↦ come_out c d.outs behind ]) begins.1

      fine : m.fault ≡ None
      fine = ap (λ (x : Moving). x.fault) comes ∙ nothing-fails c d.outs behind

      stands : IsScene m.world now
      stands = subst (λ (x : Moving). IsScene x.world now) (sym comes) (comes-out c d.outs behind (record sc { clerks = put c d.clerk sc.clerks }) (with-clerks w sc c d.clerk q.stands))

      alike : Alike k d.clerk
      alike = push-alike k n (ap is_some i.inside.session) i.waiting i.free.recalls i.pushes (omega (arith, i.inside.room, i.inside.capacity))

      is-it : (a : Clerk) → at c now.clerks ≡ Some a → d.clerk ≡ a
      is-it a e = same_some (sym (own-at c d.clerk sc.clerks) ∙ e)

      none-waits : {A : Type 0} (a : Clerk) → at c now.clerks ≡ Some a → (a.waiting ≡ [] → ⊥) → A
      none-waits a e f = absurd (f (ap (λ x. x.waiting) (sym (is-it a e)) ∙ alike.waiting ∙ i.waiting))

      answered : (a : Clerk) → at c now.clerks ≡ Some a → Each (WantIsAnswered a.cache) a.wanted
      answered a e = subst (λ x. Each (WantIsAnswered x.cache) x.wanted) (is-it a e) (subst (λ ws. Each (WantIsAnswered d.clerk.cache) ws) (sym alike.wanted) (subst (λ y. Each (WantIsAnswered y) k.wanted) (sym alike.cache) i.answered))

      on : (h : System) × IsOnLine j m.world now h
      on = (
        holds.0,
        record {
          whole = holds.1.whole;
          stands = holds.2;
          order = q.order;
          few = omega arith;
          about = λ a e f. none-waits a e f;
          id = λ a e f. none-waits a e f;
          answered = λ t p a e. answered a e;
        },
      )

      count : clerks.IsCounted (number - 1) w.sent k
      count = idle.its-count outset v most names number w q few first c k there

      counted : IsCounted outset number m.world now
      counted = counted-then w m.world sc q.stands q.idle.mail c d stands steady outset (number - 1) number (omega arith) q.counted
          (more-made (number - 1) number (w.sent + sent_in d.outs) (w.sent + sent_in d.outs) d.clerk (omega arith) (omega arith) (pushes-count (number - 1) w.sent n k count))

      abbrev known : LineIsKnown outset j number m
      known = record { scene = now; stands = stands; phase = begins.0.phase; comes = begins.0.comes; system = on.0; facts = on.1; counted = counted }

      made : sum calls_of now.clerks ≤ number - 1
      made = omega (arith, calls-then c d.clerk sc.clerks q.idle.orderly.rising k 0 there (omega (arith, (pushes-count k.calls w.sent n k (own-made (number - 1) w.sent k count)).made)), q.calls)

      named : (a : ℕ) (b : Clerk) → at a now.clerks ≡ Some b → T (member a names)
      named = named-now names sc c d.clerk (q.named c k there) q.named

      of-session : (t : Slot) → slot sc.server.durable c ≡ Some t → t.is_open ≡ true → t.session ≡ sl.session
      of-session t e f = ap (λ z. z.session) (same_some (sym e ∙ i.inside.there))

      begun : IsStarted outset (length (once names)) number m
      begun = work-begins outset names number j m now stands known on.1.few named begins.0.phase begins.0.first begins.0.comes begins.0.none_back (subst (λ o. T (is_some o)) (sym (own-at c d.clerk sc.clerks)) tt) of-session
          (omega (arith, unsent-most j number m.world.sent now.clerks begins.0.comes.orderly.rising (λ a x e. counted.clerks a x (ap (at a) stands.clerks ∙ e)), made, few))

      asks : IsStepped outset v most names number (line.Push c n) w q m
      asks = record {
        fine = fine;
        known = inl (j, (refl, refl, sl, k, push-is, issued), known, begins.0.first);
        started = begun;
        calls = subst (λ cs. sum calls_of cs ≤ number) (sym stands.clerks) (omega (arith, made));
        named = λ a b e. named a b (ap (at a) (sym stands.clerks) ∙ e);
      }

  no-fault : {A : Type 0} (f : Rattle.ec_protocol.specs.declared.world.WorldFault.WorldFault) → ◌≡◌ {A = Option Rattle.ec_protocol.specs.declared.world.WorldFault.WorldFault} (Some f) None → A
  no-fault f e = absurd (none_some (sym e))

  abbrev Steps : ℕ → ℕ → Moving → Type 0
  Steps c n m = m.fault ≡ None → steps.HoldsIn F m.world → Counts 0 w m.world → IsStepped outset v most names number (line.Push c n) w q m

  of-clerk : (c n : ℕ) (o : Option Clerk) → at c sc.clerks ≡ o → Steps c n (world.push c n o w)
  of-clerk c n None e = λ f h s. no-fault fault.NoSuchOp f
  of-clerk c n (Some k) e = go (has_issued n k) (is_undurable c n w) refl
    where
      go : (a b : Bool) → has_issued n k ≡ a → Steps c n (elim a as (λ z. Moving) [ false ↦ fails fault.NoSuchOp w | true ↦ elim b as (λ z. Moving) [ true ↦ clerk_does c (push n k) (moving w) | false ↦ nothing w ] ])
      go false b t = λ f h s. no-fault fault.NoSuchOp f
      go true true t = λ f h s. asks c n k e t (clerk_does c (push n k) (moving w)) refl h s
      go true false t = λ f h s. idles c n (nothing w) refl (shown-alike w sc _ q.stands) refl

  pub steps-on : (c n : ℕ) → (world.push c n (at c w.clerks) w).fault ≡ None → IsStepped outset v most names number (line.Push c n) w q (world.push c n (at c w.clerks) w)
  steps-on c n f = of-clerk c n (at c w.clerks) (ap (at c) (sym q.stands.clerks)) f
      (events-hold v most (event.Push c n) w (idle.holds outset v most names number w q) tt f) (counts (at c w.clerks))
    where
      counts : (o : Option Clerk) → Counts 0 w (world.push c n o w).world
      counts None = omega arith
      counts (Some k) = pushes-send w c n k
