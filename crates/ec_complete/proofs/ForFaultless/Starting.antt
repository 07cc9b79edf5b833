-- The first step of a call whose clerk starts with it.
use Rattle.std.proofs.Common.{◌≡◌, refl, sym, ap, ◌∙◌, subst, arith, ◌≤◌, ◌<◌, ◌+◌, ◌-◌, ◌==◌, ◌&&◌, ◌++◌, not, ℕ, T, Bool, true, false, List, [], ◌∷◌, inl, inr, length}
use Rattle.std.specs.Prelude.{None, Some, is_some, nat_le, nat_lt}
use Rattle.ec_base.specs.Limits.{last_counter}
use Rattle.ec_base.specs.Tables.{at, once, put}
use Rattle.ec_base.specs.declared.counter.Counter.TheVariants as counter
use Rattle.ec_base.specs.declared.ids.Age.{Age}
use Rattle.ec_base.specs.declared.ids.Hold.{Hold}
use Rattle.ec_volume.specs.Update.{member}
use Rattle.ec_volume.specs.Volume.{Images}
use Rattle.ec_plain.specs.BoundedCalls.{is_bounded}
use Rattle.ec_plain.specs.Plain.{plain}
use Rattle.ec_plain.specs.declared.call.Call.{Call}
use Rattle.ec_sessions.specs.declared.slot.Slot.{Slot}
use Rattle.ec_durable.specs.Durable.{slot}
use Rattle.ec_cache.specs.Cache.{empty}
use Rattle.ec_log.specs.Log as log
use Rattle.ec_cache.specs.OfResolve.Agreement.{Shows}
use Rattle.ec_cache.specs.declared.resolve.verdict.Verdict.TheVariants.{Need}
use Rattle.ec_protocol.specs.Clerk.{Doing, add_call, begin, doing, hello, max_tokens, new_clerk, spend, start, verdict}
use Rattle.ec_protocol.specs.World.{Moving, boot, call, call_on, fails, start_and_call}
use Rattle.ec_protocol.specs.declared.clerk.Clerk.{Clerk}
use Rattle.ec_protocol.specs.declared.clerk.Out.{Out}
use Rattle.ec_protocol.specs.declared.clerk.Out.TheVariants as out
use Rattle.ec_protocol.specs.declared.script.Line.TheVariants as line
use Rattle.ec_protocol.specs.declared.world.World.{World}
use Rattle.ec_protocol.specs.declared.world.WorldFault.TheVariants as fault
use Rattle.ec_coherence.specs.System.{System}
use Rattle.ec_coherence.proofs.ForBatches.Ids.{in-front}
use Rattle.ec_coherence.proofs.ForServer.Tables.{same_some}
use Rattle.ec_quiet.specs.Measure.{sum, unsent, unsent_by}
use Rattle.ec_quiet.specs.Phases.{Phase, Greets, Opens, Claims, Wants, Recalls, Flushes, Keeps, Grants, Asks, Gives, Refuses, Saves, Saved, Ends, InPhase, IsWorking}
use Rattle.ec_quiet.specs.Quiet.{IsQuiet}
use Rattle.ec_quiet.specs.Scenes.{IsScene, Scene, done_by}
use Rattle.ec_quiet.specs.Works.{Calls, Work, is_saving}
use Rattle.ec_quiet.specs.Bounds.{IsFirstPhase}
use Rattle.ec_quiet.proofs.Beside.{other-at, own-at}
use Rattle.ec_complete.specs.OfAgreedLines.Counting as clerks
use Rattle.ec_complete.specs.OfAgreedLines.Counting.{sent_in}
use Rattle.ec_complete.specs.WaitingCalls.{kept_volume, touched_by}
use Rattle.ec_complete.specs.Lines.{IsOnLine}
use Rattle.ec_complete.specs.LineCalls.{IsCalledFirst}
use Rattle.ec_quiet.specs.First.{HasFirst, IsStart, start_calling}
use Rattle.ec_quiet.proofs.Stepping.{carried}
use Rattle.ec_complete.specs.Worlds.{IsCounted, LineIsKnown, Outset}
use Rattle.ec_complete.specs.Goes.{IsStarted}
use Rattle.ec_complete.specs.Ready.{IsReady, calls_of}
use Rattle.ec_complete.proofs.ForFaultless.Counts.{calls-first, counted-then, more-made, unsent-first, unsent-most}
use Rattle.ec_complete.proofs.ForFaultless.First.{IsStepped, named-now}
use Rattle.ec_complete.proofs.ForFaultless.Idle as idle
use Rattle.ec_complete.proofs.ForFaultless.Laws.{calls-count, calls-send, needs-touched, starts-come-on, starts-greet}
use Rattle.ec_complete.proofs.ForFaultless.Settles.{work-begins}
use Rattle.ec_base.proofs.Options.{none_some}

-- Where a clerk starts without a fault its next start may be counted.
pub may-start : (c number : ℕ) (cl : Call) (w : World) → at c w.clerks ≡ None → (call c number cl w).fault ≡ None → nat_lt last_counter (boot c w + 1) ≡ false
may-start c number cl w none fine = go (nat_lt last_counter (boot c w + 1)) refl
  where
    faulty : (start c (boot c w + 1)).spent ≡ Some counter.Boot → (call c number cl w).fault ≡ Some (fault.Spent counter.Boot)
    faulty e = ap (λ o. (elim o as (λ z. Moving) [ Some k ↦ call_on c number cl [] k w | None ↦ start_and_call c number cl w ]).fault) none
        ∙ ap (λ o. (elim o as (λ z. Moving) [ Some n ↦ fails (fault.Spent n) w | None ↦ call_on c number cl (start c (boot c w + 1)).outs (start c (boot c w + 1)).clerk (record w { boots = put c (boot c w + 1) w.boots }) ]).fault) e

    go : (z : Bool) → nat_lt last_counter (boot c w + 1) ≡ z → nat_lt last_counter (boot c w + 1) ≡ false
    go false e = e
    go true e = absurd (none_some (sym fine ∙ faulty (ap (λ z. (elim z as (λ y. Doing) [ true ↦ spend counter.Boot (doing (new_clerk c (boot c w + 1))) | false ↦ hello (doing (new_clerk c (boot c w + 1))) ]).spent) e)))

-- The clerk in the world.

module _ (w : World) (sc : Scene) (c line : ℕ) (cl : Call) (i : IsScene w sc) (none : at c w.clerks ≡ None) where
  abbrev b : ℕ
  b = boot c w + 1

  abbrev d : Doing
  d = start c b

  abbrev booted : World
  booted = record w { boots = put c b w.boots }

  booted-scene : IsScene booted sc
  booted-scene = record { server = i.server; durable = i.durable; sure = i.sure; linked = i.linked; clerks = i.clerks; mail = i.mail; kept = i.kept; rising = i.rising; pending = i.pending; pool = i.pool }

  calls-first-on : d.spent ≡ None → call c line cl w ≡ call_on c line cl d.outs d.clerk booted
  calls-first-on e = ap (λ o. elim o as (λ z. Moving) [ Some k ↦ call_on c line cl [] k w | None ↦ start_and_call c line cl w ]) none
      ∙ ap (λ o. elim o as (λ z. Moving) [ Some n ↦ fails (fault.Spent n) w | None ↦ call_on c line cl d.outs d.clerk booted ]) e

  starts-in : d.spent ≡ None → (begin cl d.clerk).spent ≡ None → ((call c line cl w).fault ≡ None) × IsScene (call c line cl w).world (done_by c (start_calling c b cl) sc.mail sc)
  starts-in e f = subst (λ (m : Moving). (m.fault ≡ None) × IsScene m.world (done_by c (start_calling c b cl) sc.mail sc)) (sym (calls-first-on e)) (carried booted sc booted-scene c line cl d.outs d.clerk f)

sent-both : (os ps : List Out) → sent_in (os ++ ps) ≡ sent_in os + sent_in ps
sent-both [] ps = omega arith
sent-both (out.Send m ∷ os) ps = omega (arith, sent-both os ps)
sent-both (out.Told ns ∷ os) ps = sent-both os ps
sent-both (out.Answer n a op ∷ os) ps = sent-both os ps
sent-both (out.OldBoot a ∷ os) ps = sent-both os ps

-- a start is a new clerk, whatever it spends
start-new : (c b : ℕ) → (start c b).clerk ≡ new_clerk c b
start-new c b = go (nat_lt last_counter b)
  where
    go : (z : Bool) → (elim z as (λ y. Doing) [ true ↦ spend counter.Boot (doing (new_clerk c b)) | false ↦ hello (doing (new_clerk c b)) ]).clerk ≡ new_clerk c b
    go true = refl
    go false = refl

new-counted : (c b s : ℕ) → clerks.IsCounted 0 s (new_clerk c b)
new-counted c b s = record { made = omega arith; ops = omega arith; undurable = omega arith; ids = omega arith; batch = omega arith; sends = omega arith }

-- an empty cache shows nothing
shows-none : (v : Images) → Shows (empty max_tokens) None v
shows-none v = record { images = λ o t. absurd t; unmade = λ o t. absurd t }

same-scene : (w : World) (a b : Scene) → IsScene w a → IsScene w b → a.server ≡ b.server
same-scene w a b i k = same_some (sym i.server ∙ k.server)

empty-unsent : (j : Work) (c : ℕ) (x : Clerk) → x.log ≡ log.empty → unsent_by j (c, x) ≡ 0
empty-unsent j c x e = ap (λ l. elim ((c == j.clerk) && not (is_saving j.task)) as (λ z. ℕ) [ true ↦ 0 | false ↦ unsent l ]) e ∙ go ((c == j.clerk) && not (is_saving j.task))
  where
    go : (b : Bool) → elim b as (λ z. ℕ) [ true ↦ 0 | false ↦ unsent log.empty ] ≡ 0
    go true = refl
    go false = refl

module _ (outset : Outset) (v : Images) (most : ℕ) (names : List ℕ) (number : ℕ) (w : World) (q : IsReady outset v most names number w) (few : number ≤ 65536) (first : 1 ≤ number) (c : ℕ) (cl : Call) (none : at c q.scene.clerks ≡ None)
    (small : c < 16) (bounded : T (is_bounded cl)) (name : T (member c names)) (left : nat_lt last_counter (boot c w + 1) ≡ false) where
  abbrev sc : Scene
  sc = q.scene

  abbrev g : System
  g = q.system

  abbrev next : ℕ
  next = boot c w + 1

  abbrev j : Work
  j = record { clerk = c; session = sc.server.durable.next_session; task = Calls cl; touched = touched_by cl (kept_volume g) sc.server.durable.next_id; number = sc.server.number }

  quiet : IsQuiet w
  quiet = (idle.its-quiet outset v most names number w q).0

  later : (sl : Slot) → slot sc.server.durable c ≡ Some sl → (sl.age).boot < next
  later sl e = omega (arith, quiet.boots c sl (ap (λ s. slot s.durable c) (same-scene w quiet.scene sc quiet.stands q.stands) ∙ e))

  touches : (x : ℕ) (h : Hold) → verdict cl (add_call cl (new_clerk c next)) ≡ Need x h → T (member x j.touched)
  touches x h e = in-front x (plain (kept_volume g) cl 0).touched (sc.server.durable.next_id ∷ []) (needs-touched (empty max_tokens) [] cl None x h e (kept_volume g) (shows-none (kept_volume g)) 0 (λ y n. absurd (none_some n)))

  start-is : IsStart j sc next cl
  start-is = record { clerk = small; none = none; boot_is = left; later = later; session = refl; number = refl; task = refl; bounded = bounded; touches = touches }

  abbrev e : Doing
  e = start_calling c next cl

  abbrev now : Scene
  now = done_by c e sc.mail sc

  abbrev m : Moving
  m = call c number cl w

  greets : HasFirst j now × ((start c next).spent ≡ None) × ((begin cl (start c next).clerk).spent ≡ None)
  greets = starts-greet j sc next cl q.idle start-is

  come : (m.fault ≡ None) × IsScene m.world now
  come = starts-in w sc c number cl q.stands (ap (at c) q.stands.clerks ∙ none) greets.1 greets.2

  -- its slot isn't open, and so it greets
  not-open : (sl : Slot) → slot sc.server.durable c ≡ Some sl → sl.is_open ≡ true → ⊥
  not-open sl p f = subst (λ o. T (is_some o)) none (q.idle.orderly.run c sl p f)

  not-working : {A : Type 0} (xs : List ℕ) (sl : Slot) (k : Clerk) → IsWorking xs j now sl k → A
  not-working xs sl k i = absurd (not-open sl i.inside.there i.inside.is_open)

  as-greets : (p : Phase) → IsFirstPhase p → InPhase j now p → (age : Age) × InPhase j now (Greets age)
  as-greets (Greets age) f i = (age, i)
  as-greets (Wants x h n) f i = let p = i.facts.1 in not-working [] p.slot p.clerk p.working
  as-greets (Asks again got ask) f i = let p = i.facts.1 in not-working [] p.slot p.clerk p.working
  as-greets (Saves b ops rest) f i = let p = i.facts.1 in not-working [] p.slot p.clerk p.working
  as-greets Ends f i = let p = i.facts.1 in not-working [] p.slot p.clerk p.working
  as-greets (Opens age) f i = absurd f
  as-greets (Claims o) f i = absurd f
  as-greets (Recalls x h rs bs) f i = absurd f
  as-greets (Flushes x h r b ops rest) f i = absurd f
  as-greets (Keeps x h r b rest) f i = absurd f
  as-greets (Grants x h n) f i = absurd f
  as-greets (Gives got n x) f i = absurd f
  as-greets (Refuses again ask live reserved) f i = absurd f
  as-greets (Saved b rest) f i = absurd f

  pub phase : (age : Age) × InPhase j now (Greets age)
  phase = as-greets greets.0.phase greets.0.first greets.0.comes

  called : IsCalledFirst j cl w sc g
  called = record { whole = q.facts.whole; stands = q.in_system; scene = q.stands; idle = q.idle; order = q.order; clerk = small; none = none; task = refl; bounded = bounded; touched = refl }

  on : (h : System) × IsOnLine j m.world now h
  on = starts-come-on j number cl w sc now g phase.0 called (idle.is-new outset v most names number w q) come.0 come.1 refl (λ a p. other-at c e.clerk sc.clerks a p) phase.1

  own : clerks.IsCounted 1 (w.sent + sent_in (begin cl (start c next).clerk).outs) (begin cl (start c next).clerk).clerk
  own = calls-count 0 w.sent cl (start c next).clerk (subst (clerks.IsCounted 0 w.sent) (sym (start-new c next)) (new-counted c next w.sent)) (subst (λ (k : Clerk). nat_le last_counter k.calls ≡ false) (sym (start-new c next)) refl)

  counted : IsCounted outset number m.world now
  counted = counted-then w m.world sc q.stands q.idle.mail c e come.1 (calls-send w c number cl) outset (number - 1) number (omega arith) q.counted
      (more-made 1 number (w.sent + sent_in (begin cl (start c next).clerk).outs) (w.sent + sent_in e.outs) e.clerk first (omega (arith, sent-both (start c next).outs (begin cl (start c next).clerk).outs)) own)

  abbrev known : LineIsKnown outset j number m
  known = record { scene = now; stands = come.1; phase = Greets phase.0; comes = phase.1; system = on.0; facts = on.1; counted = counted }

  made : sum calls_of now.clerks ≤ number
  made = omega (arith, calls-first c e.clerk sc.clerks q.idle.orderly.rising none, own.made, q.calls, first)

  named : (a : ℕ) (b : Clerk) → at a now.clerks ≡ Some b → T (member a names)
  named = named-now names sc c e.clerk name q.named

  few-unsent : sum (unsent_by j) now.clerks ≤ 65535
  few-unsent =
      let s = phase.1.facts.1 in
      let log-is : e.clerk.log ≡ log.empty = ap (λ (k : Clerk). k.log) (same_some (sym (own-at c e.clerk sc.clerks) ∙ s.there)) ∙ s.new.log in
      omega (
        arith,
        unsent-first c e.clerk sc.clerks q.idle.orderly.rising j none (empty-unsent j c e.clerk log-is),
        unsent-most j (number - 1) w.sent sc.clerks q.idle.orderly.rising (λ a x p. q.counted.clerks a x (ap (at a) q.stands.clerks ∙ p)),
        q.calls,
        few,
      )

  begun : IsStarted outset (length (once names)) number m
  begun = work-begins outset names number j m now come.1 known on.1.few named (Greets phase.0) tt phase.1 greets.0.none_back (subst (λ o. T (is_some o)) (sym (own-at c e.clerk sc.clerks)) tt) (λ sl p f. absurd (not-open sl p f)) few-unsent

  pub steps : IsStepped outset v most names number (line.Call c cl) w q m
  steps = record {
    fine = come.0;
    known = inl (j, (refl, inr called), known, tt);
    started = begun;
    calls = subst (λ cs. sum calls_of cs ≤ number) (sym come.1.clerks) made;
    named = λ a b p. named a b (ap (at a) (sym come.1.clerks) ∙ p);
  }
