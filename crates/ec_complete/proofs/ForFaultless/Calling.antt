-- The first step of a call of a clerk that runs.
use Rattle.std.proofs.Common.{◌≡◌, refl, sym, ap, ◌∙◌, subst, arith, ◌≤◌, ◌<◌, ◌+◌, ◌-◌, ℕ, T, true, List, [], ◌∷◌, inl, inr, length, length-append}
use Rattle.std.specs.Prelude.{None, Some, is_some}
use Rattle.ec_base.specs.Tables.{at, once}
use Rattle.ec_volume.specs.Update.{member}
use Rattle.ec_volume.specs.Volume.{Images}
use Rattle.ec_plain.specs.BoundedCalls.{is_bounded}
use Rattle.ec_plain.specs.declared.call.Call.{Call}
use Rattle.ec_sessions.specs.declared.slot.Slot.{Slot}
use Rattle.ec_durable.specs.Durable.{slot}
use Rattle.ec_protocol.specs.Clerk.{Doing, add_call, begin}
use Rattle.ec_protocol.specs.World.{Moving, call}
use Rattle.ec_protocol.specs.declared.clerk.Clerk.{Clerk}
use Rattle.ec_protocol.specs.declared.script.Line.TheVariants as line
use Rattle.ec_protocol.specs.declared.world.World.{World}
use Rattle.ec_coherence.specs.System.{System}
use Rattle.ec_coherence.proofs.ForServer.Tables.{same_some}
use Rattle.ec_quiet.specs.Facts.{IsIdleBut}
use Rattle.ec_quiet.specs.Measure.{sum}
use Rattle.ec_quiet.specs.Phases.{Phase, Greets, Opens, Claims, Wants, Recalls, Flushes, Keeps, Grants, Asks, Gives, Refuses, Saves, Saved, Ends, InPhase, backs}
use Rattle.ec_quiet.specs.Scenes.{IsScene, Mail, Scene, done_by, sends}
use Rattle.ec_quiet.specs.Works.{Calls, HasTask, Work}
use Rattle.ec_quiet.specs.Bounds.{IsFirstPhase}
use Rattle.ec_quiet.specs.Frames.{IsAsked}
use Rattle.ec_quiet.specs.Goes.{MayGo}
use Rattle.ec_complete.specs.OfAgreedLines.Counting as clerks
use Rattle.ec_complete.specs.OfAgreedLines.Counting.{sent_in}
use Rattle.ec_complete.specs.OfAgreedLines.Lines.{HasBegun, IsAt}
use Rattle.ec_complete.specs.WaitingCalls.{kept_volume, touched_by}
use Rattle.ec_complete.specs.Lines.{IsOnLine, next_object}
use Rattle.ec_complete.specs.FirstSteps.{IsTold}
use Rattle.ec_complete.specs.LineCalls.{IsCalled}
use Rattle.ec_complete.specs.Worlds.{IsCounted, LineIsKnown, Outset}
use Rattle.ec_complete.specs.Goes.{IsStarted}
use Rattle.ec_complete.specs.Ready.{IsReady, calls_of}
use Rattle.ec_complete.proofs.ForFaultless.Counts.{calls-then, counted-then, one-asked, own-made, sends-out, unsent-less}
use Rattle.ec_complete.proofs.ForFaultless.First.{IsStepped, named-now}
use Rattle.ec_complete.proofs.ForFaultless.Idle as idle
use Rattle.ec_complete.proofs.ForFaultless.Laws.{calls-begin, calls-come-on, calls-count, calls-may-begin, calls-send, carried-out, ends-idle, spend-nothing}
use Rattle.ec_complete.proofs.ForFaultless.Settles.{work-begins}
use Rattle.ec_quiet.proofs.Mail.{parts}

pub told : (p : Phase) → IsAsked p → IsTold p
told (Wants x h n) a = tt
told (Asks again got ask) a = tt
told (Saves b ops rest) a = tt
told Ends a = tt
told (Greets age) a = absurd a
told (Opens age) a = absurd a
told (Claims o) a = absurd a
told (Recalls x h rs bs) a = absurd a
told (Flushes x h r b ops rest) a = absurd a
told (Keeps x h r b rest) a = absurd a
told (Grants x h n) a = absurd a
told (Gives got n first) a = absurd a
told (Refuses again ask live reserved) a = absurd a
told (Saved b rest) a = absurd a

early : (p : Phase) → IsAsked p → IsFirstPhase p
early (Wants x h n) a = tt
early (Asks again got ask) a = tt
early (Saves b ops rest) a = tt
early Ends a = tt
early (Greets age) a = absurd a
early (Opens age) a = absurd a
early (Claims o) a = absurd a
early (Recalls x h rs bs) a = absurd a
early (Flushes x h r b ops rest) a = absurd a
early (Keeps x h r b rest) a = absurd a
early (Grants x h n) a = absurd a
early (Gives got n first) a = absurd a
early (Refuses again ask live reserved) a = absurd a
early (Saved b rest) a = absurd a

none-left : (ms : Mail) → length ms ≡ 0 → ms ≡ []
none-left [] e = refl
none-left (m ∷ ms) e = absurd (omega (arith, e))

one-waits : (cl : Call) (k : Clerk) → HasTask (Calls cl) k → 1 ≤ length k.waiting
one-waits cl k t = omega (arith, ap length t.1)

module _ (outset : Outset) (v : Images) (most : ℕ) (names : List ℕ) (number : ℕ) (w : World) (q : IsReady outset v most names number w) (few : number ≤ 65536) (first : 1 ≤ number) (c : ℕ) (cl : Call) (k : Clerk) (there : at c q.scene.clerks ≡ Some k)
    (small : c < 16) (bounded : T (is_bounded cl)) (name : T (member c names)) where
  abbrev sc : Scene
  sc = q.scene

  abbrev g : System
  g = q.system

  abbrev sl : Slot
  sl = idle.slot-of outset v most names number w q few first c k there

  i : IsIdleBut [] sc.server c sl k
  i = idle.its-idle outset v most names number w q few first c k there

  abbrev j : Work
  j = record { clerk = c; session = sl.session; task = Calls cl; touched = touched_by cl (kept_volume g) (next_object sc c k); number = sc.server.number }

  its : IsAt j sc sl k
  its = record { clerk = small; there = there; slot = i.inside.there; session = refl; number = refl; once = idle.once-each outset v most names number w q few first c k there }

  called : IsCalled j cl w sc g sl k
  called = record {
    whole = q.facts.whole;
    stands = q.in_system;
    scene = q.stands;
    idle = q.idle;
    order = q.order;
    its = its;
    task = refl;
    bounded = bounded;
    touched = refl;
    calls = idle.calls-left outset v most names number w q few first c k there;
    counters = idle.its-counters outset v most names number w q few first c k there;
    small = idle.not-full outset v most names number w q few first c k there;
  }

  may : MayGo j (add_call cl k)
  may = calls-may-begin j number cl w sc g sl k called (idle.is-new outset v most names number w q)

  abbrev d : Doing
  d = begin cl k

  abbrev now : Scene
  now = done_by c d sc.mail sc

  abbrev m : Moving
  m = call c number cl w

  begun : HasBegun j now
  begun = calls-begin j sc sl k cl q.idle its called.calls may

  count : clerks.IsCounted (number - 1) w.sent k
  count = idle.its-count outset v most names number w q few first c k there

  unspent-step : d.spent ≡ None
  unspent-step = spend-nothing cl k called.calls (record {
    messages = omega (arith, count.sends, q.sent, few, one-asked j now begun.phase begun.asked begun.comes begun.none_back, length-append sc.mail (sends c d.outs), sends-out c d.outs);
    calls = omega (arith, count.ops, count.made, few);
  })

  carried : (m.fault ≡ None) × IsScene m.world now
  carried = carried-out w sc c number cl k q.stands (ap (at c) q.stands.clerks ∙ there) unspent-step

  on : (h : System) × IsOnLine j m.world now h
  on = calls-come-on j number cl w sc g sl k begun.phase called (idle.is-new outset v most names number w q) carried.0 carried.1 begun.comes (told begun.phase begun.asked)

  next-number : (number - 1) + 1 ≡ number
  next-number = omega (arith, first)

  counted : IsCounted outset number m.world now
  counted = counted-then w m.world sc q.stands q.idle.mail c d carried.1 (calls-send w c number cl) outset (number - 1) number (omega arith) q.counted
      (subst (λ n. clerks.IsCounted n (w.sent + sent_in d.outs) d.clerk) next-number (calls-count (number - 1) w.sent cl k count called.calls))

  abbrev known : LineIsKnown outset j number m
  known = record { scene = now; stands = carried.1; phase = begun.phase; comes = begun.comes; system = on.0; facts = on.1; counted = counted }

  one-more : d.clerk.calls ≤ k.calls + 1
  one-more = (calls-count k.calls w.sent cl k (own-made (number - 1) w.sent k count) called.calls).made

  made : sum calls_of now.clerks ≤ number
  made = omega (arith, calls-then c d.clerk sc.clerks q.idle.orderly.rising k 1 there one-more, q.calls, next-number)

  named : (a : ℕ) (b : Clerk) → at a now.clerks ≡ Some b → T (member a names)
  named = named-now names sc c d.clerk name q.named

  of-session : (t : Slot) → slot sc.server.durable c ≡ Some t → t.is_open ≡ true → t.session ≡ sl.session
  of-session t e f = ap (λ z. z.session) (same_some (sym e ∙ i.inside.there))

  waits : (p : Phase) → IsFirstPhase p → InPhase j now p → backs j now.mail ≡ [] → (x : Clerk) → at c now.clerks ≡ Some x → 1 ≤ length x.waiting → IsStarted outset (length (once names)) number m
  waits p f comes none x e one = work-begins outset names number j m now carried.1 known on.1.few named p f comes none (subst (λ o. T (is_some o)) (sym e) tt) of-session
      (omega (arith, unsent-less j number m.world.sent c x now.clerks comes.orderly.rising e one (λ a y f. counted.clerks a y (ap (at a) carried.1.clerks ∙ f)), made, few))

  starts : (p : Phase) → IsAsked p → InPhase j now p → backs j now.mail ≡ [] → IsStarted outset (length (once names)) number m
  starts (Wants x h n) a comes none = let f = comes.facts.1 in waits (Wants x h n) tt comes none f.clerk f.working.there (one-waits cl f.clerk f.task)
  starts (Asks again got ask) a comes none = let f = comes.facts.1 in waits (Asks again got ask) tt comes none f.clerk f.working.there (one-waits cl f.clerk f.task)
  starts (Saves b ops rest) a comes none = let f = comes.facts.1 in waits (Saves b ops rest) tt comes none f.clerk f.working.there (one-waits cl f.clerk f.task)
  starts Ends a comes none = inr (now, carried.1, ends-idle j now Ends comes (none-left now.mail (omega (arith, parts j now.mail, ap length comes.main_is, ap length none))))
  starts (Greets age) a comes none = absurd a
  starts (Opens age) a comes none = absurd a
  starts (Claims o) a comes none = absurd a
  starts (Recalls x h rs bs) a comes none = absurd a
  starts (Flushes x h r b ops rest) a comes none = absurd a
  starts (Keeps x h r b rest) a comes none = absurd a
  starts (Grants x h n) a comes none = absurd a
  starts (Gives got n first) a comes none = absurd a
  starts (Refuses again ask live reserved) a comes none = absurd a
  starts (Saved b rest) a comes none = absurd a

  pub steps : IsStepped outset v most names number (line.Call c cl) w q m
  steps = record {
    fine = carried.0;
    known = inl (j, (refl, inl (sl, k, called)), known, early begun.phase begun.asked);
    started = starts begun.phase begun.asked begun.comes begun.none_back;
    calls = subst (λ cs. sum calls_of cs ≤ number) (sym carried.1.clerks) made;
    named = λ a b e. named a b (ap (at a) (sym carried.1.clerks) ∙ e);
  }
