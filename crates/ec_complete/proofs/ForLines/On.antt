-- A line's world behind the first step of its call.
use Rattle.std.proofs.Common.{◌≡◌, refl, sym, ap, subst, ◌∙◌, inl, inr, ◌+◌, ◌-◌, ◌++◌, ◌==◌, ◌&&◌, ◌≤◌, ℕ, length, T, true, false, [], ◌∷◌, Option, Some, None}
use Rattle.std.specs.Prelude.{is_some}
use Rattle.ec_base.specs.Tables.{at, or_else}
use Rattle.ec_base.specs.declared.counter.Counter.TheVariants as counter
use Rattle.ec_volume.specs.Update.{member}
use Rattle.ec_plain.specs.declared.call.Call.{Call}
use Rattle.ec_sessions.specs.declared.slot.Slot.{Slot}
use Rattle.ec_durable.specs.Durable.{slot}
use Rattle.ec_protocol.specs.Clerk.{Doing, add_call, begin, doing, first_id, settle, spend}
use Rattle.ec_protocol.specs.World.{call, runs}
use Rattle.ec_protocol.specs.declared.clerk.Clerk.{Clerk}
use Rattle.ec_protocol.specs.declared.clerk.Waiting.{Waiting}
use Rattle.ec_protocol.specs.declared.world.Event.TheVariants as event
use Rattle.ec_protocol.specs.declared.world.World.{World}
use Rattle.ec_coherence.specs.Steps.{Stands}
use Rattle.ec_coherence.specs.System.{System}
use Rattle.ec_coherence.proofs.ForServer.Tables.{same_some}
use Rattle.ec_lawful.specs.OfClerkSteps.Moves.{IsStill}
use Rattle.ec_lawful.specs.Steps as steps
use Rattle.ec_lawful.specs.Steps.{IsNewIn}
use Rattle.ec_lawful.proofs.Events.{event-holds}
use Rattle.ec_lawful.specs.Runs.{OfRun}
use Rattle.ec_lawful.proofs.Runs.{keep}
use Rattle.ec_lawful.proofs.Clerks.{clerks-keep-all}
use Rattle.ec_quiet.specs.Facts.{IsIdleBut}
use Rattle.ec_quiet.specs.Phases.{InPhase, Phase}
use Rattle.ec_quiet.specs.Scenes.{IsScene, Scene, done_by}
use Rattle.ec_quiet.specs.Works.{Calls, Pushes, Task, Work}
use Rattle.ec_quiet.proofs.Beside.{other-at, own-at}
use Rattle.ec_complete.specs.WaitingCalls.{IsAbout, kept_volume, max_about, touched_by}
use Rattle.ec_complete.proofs.ForLines.About.{lines-about}
use Rattle.ec_complete.specs.Lines.{IsOnLine, next_given, next_object}
use Rattle.ec_complete.proofs.ForLines.Stepping.{settle-still}
use Rattle.ec_complete.specs.FirstSteps.{IsStepOf, IsTold}
use Rattle.ec_complete.proofs.ForLines.Begun.{begins-are-steps}
use Rattle.ec_complete.proofs.ForLines.Kept.{first-steps-leave}
use Rattle.ec_complete.specs.LineCalls.{IsCalled, LeavesVolume}
use Rattle.ec_complete.proofs.ForLines.May.{idle-own, object-there}

still-given : (next : ℕ) (k now : Clerk) (o : Option Slot) → IsStill k now → next_given next now o ≡ next_given next k o
still-given next k now None s = refl
still-given next k now (Some sl) s =
    ap (λ z. elim (is_some z && (sl.grants == now.got + 1)) as (λ b. ℕ) [ true ↦ or_else 0 sl.last_first | false ↦ next ]) s.0
    ∙ ap (λ z. elim (is_some k.session && (sl.grants == z + 1)) as (λ b. ℕ) [ true ↦ or_else 0 sl.last_first | false ↦ next ]) s.1

pub not-pushed : {A : Type 0} (n : ℕ) (cl : Call) → ◌≡◌ {A = Task} (Pushes n) (Calls cl) → A
not-pushed {A} n cl e = absurd (apart e)
  where
    apart : ◌≡◌ {A = Task} (Pushes n) (Calls cl) → ⊥
    apart q = cc

module _ (j : Work) (l : ℕ) (cl : Call) (w : World) (sc : Scene) (g : System) (sl : Slot) (k : Clerk) (is : IsCalled j cl w sc g sl k) where
  abbrev i : IsIdleBut [] sc.server j.clerk sl k
  i = idle-own j l cl w sc g sl k is

  abbrev d : Doing
  d = begin cl k

  abbrev now : Scene
  now = done_by j.clerk d sc.mail sc

  abbrev wait : Waiting
  wait = record { no = k.calls + 1; call = cl; begun = k.log.next - 1 }

  abbrev u : World
  u = (call j.clerk l cl w).world

  abbrev F : System → Type 0
  F = OfRun g.origin g.durable.max_objects

  holds : IsNewIn w l → (call j.clerk l cl w).fault ≡ None → steps.HoldsIn F u
  holds new f =
      event-holds F (keep clerks-keep-all g.origin g.durable.max_objects) runs (event.Call j.clerk l cl) w (g, record { whole = is.whole; origin = refl; most_is = refl }, is.stands) (new, is.its.clerk, is.bounded) f

  its-clerk : at j.clerk now.clerks ≡ Some d.clerk
  its-clerk = own-at j.clerk d.clerk sc.clerks

  is-it : (a : Clerk) → at j.clerk now.clerks ≡ Some a → d.clerk ≡ a
  is-it a e = same_some (sym its-clerk ∙ e)

  step : (d.clerk.waiting ≡ [] → ⊥) → IsStepOf j.clerk sc.clerks now.clerks
  step waits = record {
    others = λ a e. other-at j.clerk d.clerk sc.clerks a e;
    own = inr (k, d.clerk, is.its.there, its-clerk, begins-are-steps cl k i.waiting i.pushes i.free.recalls is.calls waits);
  }

  -- it has the session and the ids that it had
  same-object : (d.clerk.waiting ≡ [] → ⊥) → next_object now j.clerk d.clerk ≡ next_object sc j.clerk k
  same-object waits = elim (settle-still wait (doing (add_call cl k)) (ap (λ z. z ++ wait ∷ []) i.waiting)) [
    | inr none ↦ absurd (waits (ap (λ z. z.clerk.waiting) begun ∙ none))
    | inl t ↦ ap (λ z. next_object now j.clerk z.clerk) begun ∙ ap (λ z. or_else z (first_id (settle (doing (add_call cl k))).clerk.ids)) (still-given sc.server.durable.next_id k (settle (doing (add_call cl k))).clerk (slot sc.server.durable j.clerk) t)
        ∙ ap (λ z. or_else (next_given sc.server.durable.next_id k (slot sc.server.durable j.clerk)) (first_id z)) t.2
  ]
    where
      begun : begin cl k ≡ settle (doing (add_call cl k))
      begun = ap (λ z. elim z as (λ y. Doing) [ true ↦ spend counter.CallNo (doing k) | false ↦ settle (doing (add_call cl k)) ]) is.calls

  -- behind the step, in this system
  module _ (q : Phase) (h : System) (fh : F h) (sh : Stands u h) (then : IsScene u now) (iq : InPhase j now q) (told : IsTold q) where
    about-it : IsAbout j (kept_volume g) × (length j.touched ≤ max_about)
    about-it = lines-about j cl (kept_volume g) (next_object sc j.clerk k) is.task is.touched is.bounded

    -- the call waits
    module _ (a : Clerk) (here : at j.clerk now.clerks ≡ Some a) (waits : a.waiting ≡ [] → ⊥) where
      waits-own : d.clerk.waiting ≡ [] → ⊥
      waits-own = subst (λ z. z.waiting ≡ [] → ⊥) (sym (is-it a here)) waits

      kept-same : kept_volume h ≡ kept_volume g
      kept-same = first-steps-leave j w u sc now g h q is.whole is.stands is.scene is.idle fh.whole sh then fh.origin refl (step waits-own) iq told

      object-same : next_object now j.clerk a ≡ next_object sc j.clerk k
      object-same = ap (next_object now j.clerk) (sym (is-it a here)) ∙ same-object waits-own

      touches : j.touched ≡ touched_by cl (kept_volume h) (next_object now j.clerk a)
      touches = is.touched ∙ ap (λ v. touched_by cl v (next_object sc j.clerk k)) (sym kept-same) ∙ ap (touched_by cl (kept_volume h)) (sym object-same)

    on-line : IsOnLine j u now h
    on-line = record {
      whole = fh.whole;
      stands = sh;
      order = is.order;
      few = about-it.1;
      about = λ a here waits. subst (IsAbout j) (sym (kept-same a here waits)) about-it.0;
      id = λ a here waits. subst (λ z. T (member z j.touched)) (sym (object-same a here waits)) (object-there j l cl w sc g sl k is);
      answered = λ n task a here. not-pushed n cl (sym task ∙ is.task);
    }

    leaves : LeavesVolume j now g h
    leaves = record { origin = fh.origin; kept = kept-same }

  -- what the line touches on the volume that is kept, with the id of its next object
  abbrev pub Touches : System → Type 0
  Touches h = (a : Clerk) → at j.clerk now.clerks ≡ Some a → (a.waiting ≡ [] → ⊥) → j.touched ≡ touched_by cl (kept_volume h) (next_object now j.clerk a)

  pub come-on : (q : Phase) → IsNewIn w l → (call j.clerk l cl w).fault ≡ None → IsScene u now → InPhase j now q → IsTold q → (h : System) × IsOnLine j u now h × LeavesVolume j now g h × Touches h
  come-on q new f then iq told = go (holds new f)
    where
      go : steps.HoldsIn F u → (h : System) × IsOnLine j u now h × LeavesVolume j now g h × Touches h
      go (h, fh, sh) = (h, on-line q h fh sh then iq told, leaves q h fh sh then iq told, touches q h fh sh then iq told)

pub calls-leave-kept : (j : Work) (l : ℕ) (cl : Call) (w : World) (sc : Scene) (g : System) (sl : Slot) (k : Clerk) (q : Phase) → IsCalled j cl w sc g sl k → IsNewIn w l → (call j.clerk l cl w).fault ≡ None
    → IsScene (call j.clerk l cl w).world (done_by j.clerk (begin cl k) sc.mail sc) → InPhase j (done_by j.clerk (begin cl k) sc.mail sc) q → IsTold q
    → (h : System) × IsOnLine j (call j.clerk l cl w).world (done_by j.clerk (begin cl k) sc.mail sc) h × LeavesVolume j (done_by j.clerk (begin cl k) sc.mail sc) g h
    × ((a : Clerk) → at j.clerk (done_by j.clerk (begin cl k) sc.mail sc).clerks ≡ Some a → (a.waiting ≡ [] → ⊥) → j.touched ≡ touched_by cl (kept_volume h) (next_object (done_by j.clerk (begin cl k) sc.mail sc) j.clerk a))
calls-leave-kept j l cl w sc g sl k q is new f then iq told = come-on j l cl w sc g sl k is q new f then iq told

pub calls-come-on : (j : Work) (l : ℕ) (cl : Call) (w : World) (sc : Scene) (g : System) (sl : Slot) (k : Clerk) (q : Phase) → IsCalled j cl w sc g sl k → IsNewIn w l → (call j.clerk l cl w).fault ≡ None
    → IsScene (call j.clerk l cl w).world (done_by j.clerk (begin cl k) sc.mail sc) → InPhase j (done_by j.clerk (begin cl k) sc.mail sc) q → IsTold q → (h : System) × IsOnLine j (call j.clerk l cl w).world (done_by j.clerk (begin cl k) sc.mail sc) h
calls-come-on j l cl w sc g sl k q is new f then iq told = let t = come-on j l cl w sc g sl k is q new f then iq told in (t.0, t.1)
