-- A line's world behind the first step of a call of a clerk that didn't run.
use Rattle.std.proofs.Common.{◌≡◌, refl, sym, ap, subst, ◌∙◌, inl, ◌≤◌, ◌+◌, ◌==◌, ◌&&◌, ℕ, length, T, true, false, [], Option, Some, None}
use Rattle.std.specs.Prelude.{is_some}
use Rattle.ec_base.specs.Tables.{at, or_else}
use Rattle.ec_volume.specs.Update.{member}
use Rattle.ec_base.specs.declared.ids.Age.{Age}
use Rattle.ec_plain.specs.Plain.{plain}
use Rattle.ec_plain.specs.declared.call.Call.{Call}
use Rattle.ec_sessions.specs.declared.slot.Slot.{Slot}
use Rattle.ec_durable.specs.Durable.{slot}
use Rattle.ec_durable.specs.WellFormed.{IsInOrder}
use Rattle.ec_protocol.specs.Clerk.{first_id}
use Rattle.ec_protocol.specs.World.{call, runs}
use Rattle.ec_protocol.specs.declared.clerk.Clerk.{Clerk}
use Rattle.ec_protocol.specs.declared.world.Event.TheVariants as event
use Rattle.ec_protocol.specs.declared.world.World.{World}
use Rattle.ec_coherence.specs.Steps.{Stands}
use Rattle.ec_coherence.specs.System.{System}
use Rattle.ec_coherence.proofs.ForServer.Tables.{same_some}
use Rattle.ec_lawful.specs.Steps as steps
use Rattle.ec_lawful.proofs.Events.{event-holds}
use Rattle.ec_lawful.specs.Runs.{OfRun}
use Rattle.ec_lawful.proofs.Runs.{keep}
use Rattle.ec_lawful.proofs.Clerks.{clerks-keep-all}
use Rattle.ec_quiet.specs.Phases.{Greets, InPhase, IsStarting}
use Rattle.ec_quiet.specs.Scenes.{IsScene, Scene}
use Rattle.ec_quiet.specs.Works.{Work}
use Rattle.ec_complete.specs.WaitingCalls.{IsAbout, kept_volume, max_about, touched_by}
use Rattle.ec_complete.proofs.ForLines.About.{lines-about}
use Rattle.ec_complete.specs.Lines.{IsOnLine, next_given, next_object}
use Rattle.ec_complete.specs.FirstSteps.{IsStepOf}
use Rattle.ec_complete.proofs.ForLines.Kept.{first-steps-leave}
use Rattle.ec_complete.specs.LineCalls.{IsCalledFirst, LeavesVolume}
use Rattle.ec_complete.proofs.ForLines.May.{last-there}
use Rattle.ec_complete.proofs.ForLines.On.{not-pushed}

-- a new start gets the server's next id
new-given : (next : ℕ) (a : Clerk) (o : Option Slot) → a.session ≡ None → next_given next a o ≡ next
new-given next a None s = refl
new-given next a (Some sl) s = ap (λ z. elim (is_some z && (sl.grants == a.got + 1)) as (λ b. ℕ) [ true ↦ or_else 0 sl.last_first | false ↦ next ]) s

new-object : (next : ℕ) (a : Clerk) (o : Option Slot) → a.session ≡ None → a.ids ≡ [] → or_else (next_given next a o) (first_id a.ids) ≡ next
new-object next a o s i = ap (λ z. or_else (next_given next a o) (first_id z)) i ∙ new-given next a o s

module _ (j : Work) (l : ℕ) (cl : Call) (w : World) (sc now : Scene) (g : System) (age : Age) (is : IsCalledFirst j cl w sc g) (new : steps.IsNewIn w l) (f : (call j.clerk l cl w).fault ≡ None) (then : IsScene (call j.clerk l cl w).world now)
    (server : now.server ≡ sc.server) (others : (a : ℕ) → (a == j.clerk) ≡ false → at a now.clerks ≡ at a sc.clerks) (iq : InPhase j now (Greets age)) where
  abbrev u : World
  u = (call j.clerk l cl w).world

  abbrev F : System → Type 0
  F = OfRun g.origin g.durable.max_objects

  holds : steps.HoldsIn F u
  holds = event-holds F (keep clerks-keep-all g.origin g.durable.max_objects) runs (event.Call j.clerk l cl) w (g, record { whole = is.whole; origin = refl; most_is = refl }, is.stands) (new, is.clerk, is.bounded) f

  starting : IsStarting j now age
  starting = iq.facts.1

  step : IsStepOf j.clerk sc.clerks now.clerks
  step = record { others = others; own = inl (is.none, starting.clerk, starting.there, ap (λ z. z.held) starting.new.cache) }

  same-object : (a : Clerk) → at j.clerk now.clerks ≡ Some a → next_object now j.clerk a ≡ sc.server.durable.next_id
  same-object a here =
      let it : starting.clerk ≡ a = same_some (sym starting.there ∙ here) in
      new-object now.server.durable.next_id a (slot now.server.durable j.clerk) (ap (λ z. z.session) (sym it) ∙ starting.new.session) (ap (λ z. z.ids) (sym it) ∙ starting.new.ids) ∙ ap (λ v. v.durable.next_id) server

  object-there : T (member sc.server.durable.next_id j.touched)
  object-there = subst (λ z. T (member sc.server.durable.next_id z)) (sym is.touched) (last-there sc.server.durable.next_id (plain (kept_volume g) cl 0).touched)

  about-it : IsAbout j (kept_volume g) × (length j.touched ≤ max_about)
  about-it = lines-about j cl (kept_volume g) sc.server.durable.next_id is.task is.touched is.bounded

  -- what the line touches on the volume that is kept, with the id of its next object
  abbrev pub Touches : System → Type 0
  Touches h = (a : Clerk) → at j.clerk now.clerks ≡ Some a → (a.waiting ≡ [] → ⊥) → j.touched ≡ touched_by cl (kept_volume h) (next_object now j.clerk a)

  pub start-on : (h : System) × IsOnLine j u now h × LeavesVolume j now g h × Touches h
  start-on = go holds
    where
      kept-same : (h : System) → F h → Stands u h → kept_volume h ≡ kept_volume g
      kept-same h fh sh = first-steps-leave j w u sc now g h (Greets age) is.whole is.stands is.scene is.idle fh.whole sh then fh.origin server step iq tt

      go : steps.HoldsIn F u → (h : System) × IsOnLine j u now h × LeavesVolume j now g h × Touches h
      go (h, fh, sh) = (
        h,
        record {
          whole = fh.whole;
          stands = sh;
          order = subst (λ v. IsInOrder v.durable) (sym server) is.order;
          few = about-it.1;
          about = λ a here waits. subst (IsAbout j) (sym (kept-same h fh sh)) about-it.0;
          id = λ a here waits. subst (λ z. T (member z j.touched)) (sym (same-object a here)) object-there;
          answered = λ n task a here. not-pushed n cl (sym task ∙ is.task);
        },
        record { origin = fh.origin; kept = λ a here waits. kept-same h fh sh },
        λ a here waits. is.touched ∙ ap (λ v. touched_by cl v sc.server.durable.next_id) (sym (kept-same h fh sh)) ∙ ap (touched_by cl (kept_volume h)) (sym (same-object a here)),
      )

pub starts-leave-kept : (j : Work) (l : ℕ) (cl : Call) (w : World) (sc now : Scene) (g : System) (age : Age) → IsCalledFirst j cl w sc g → steps.IsNewIn w l → (call j.clerk l cl w).fault ≡ None → IsScene (call j.clerk l cl w).world now
    → now.server ≡ sc.server → ((a : ℕ) → (a == j.clerk) ≡ false → at a now.clerks ≡ at a sc.clerks) → InPhase j now (Greets age)
    → (h : System) × IsOnLine j (call j.clerk l cl w).world now h × LeavesVolume j now g h
    × ((a : Clerk) → at j.clerk now.clerks ≡ Some a → (a.waiting ≡ [] → ⊥) → j.touched ≡ touched_by cl (kept_volume h) (next_object now j.clerk a))
starts-leave-kept j l cl w sc now g age is new f then server others iq = start-on j l cl w sc now g age is new f then server others iq

pub starts-come-on : (j : Work) (l : ℕ) (cl : Call) (w : World) (sc now : Scene) (g : System) (age : Age) → IsCalledFirst j cl w sc g → steps.IsNewIn w l → (call j.clerk l cl w).fault ≡ None → IsScene (call j.clerk l cl w).world now
    → now.server ≡ sc.server → ((a : ℕ) → (a == j.clerk) ≡ false → at a now.clerks ≡ at a sc.clerks) → InPhase j now (Greets age) → (h : System) × IsOnLine j (call j.clerk l cl w).world now h
starts-come-on j l cl w sc now g age is new f then server others iq = let t = start-on j l cl w sc now g age is new f then server others iq in (t.0, t.1)
