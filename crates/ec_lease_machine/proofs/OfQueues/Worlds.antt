-- All facts hold of each world of a run in which calls may wait before they begin.
use Rattle.std.proofs.Common.{◌≡◌, refl, sym, ap, subst, ◌∙◌, ℕ, length, None, Some}
use Rattle.std.specs.Prelude.{Ok}
use Rattle.ec_volume.specs.Volume.{Images, images}
use Rattle.ec_volume.specs.declared.image.Image.TheVariants.{Gone}
use Rattle.ec_history.specs.Placing.{EachLine}
use Rattle.ec_history.specs.declared.shown.Shown.TheVariants.{Stopped, Unsettled}
use Rattle.ec_durable.specs.WellFormed.{WellFormed}
use Rattle.ec_durable.specs.declared.record.Record.{Record}
use Rattle.ec_durable.specs.declared.state.Durable.{Durable}
use Rattle.ec_protocol.specs.World.{happen, moving, open_world, show_line, stepped}
use Rattle.ec_protocol.specs.declared.world.Event.{Event}
use Rattle.ec_protocol.specs.declared.world.Event.TheVariants as event
use Rattle.ec_protocol.specs.declared.world.World.{World}
use Rattle.ec_coherence.specs.System.{System}
use Rattle.ec_coherence.specs.Steps.{call_of}
use Rattle.ec_coherence.specs.StandLaws.{lined}
use Rattle.ec_lawful.proofs.OfClerkSteps.ForJoins.Steps.{step-most}
use Rattle.ec_lawful.specs.Asked.{AsksAgree}
use Rattle.ec_lawful.specs.AskedLaws.{RestsKeep}
use Rattle.ec_lawful.specs.Calls.{AreOf, IsOf}
use Rattle.ec_lawful.specs.Doubts.{doubted}
use Rattle.ec_lawful.specs.Olds.{opened_in}
use Rattle.ec_lawful.specs.Reached.{IsInOrder}
use Rattle.ec_lawful.specs.ReachedWorlds.{Reached}
use Rattle.ec_lawful.specs.ReachedWorlds as plain
use Rattle.ec_lawful.specs.Runs.{OfRun}
use Rattle.ec_lawful.specs.Steps as steps
use Rattle.ec_lawful.specs.Steps.{MayHappen, StepsKeep}
use Rattle.ec_lawful.specs.Whole.{Whole}
use Rattle.ec_lawful.proofs.ForAsked.Agreeing.{asks-keep}
use Rattle.ec_lawful.proofs.Events.{event-holds}
use Rattle.ec_lawful.proofs.ForWhole.Founds.{steps-so}
use Rattle.ec_lawful.proofs.ForWhole.Frames.{forgotten-stands, lined-stands}
use Rattle.ec_lawful.proofs.ForWhole.Halts.{doubted-whole, found-whole, start-leaves, stopped-line-whole, up-whole}
use Rattle.ec_lawful.proofs.ForAsked.Opened.{opened-agrees}
use Rattle.ec_lawful.proofs.ForWhole.Opens.{world-stands}
use Rattle.ec_lawful.proofs.ForWhole.OpensWhole.{opened-whole}
use Rattle.ec_lawful.proofs.Worlds.{in-order-of, kept-by, no-calls, no-lines, opened-holds}
use Rattle.ec_protocol.specs.Resumes.{resume, wait}
use Rattle.ec_lease_machine.specs.OfQueues.Adds.{MayBe}
use Rattle.ec_lease_machine.specs.OfQueues.Queued.{QueuesKeep}
use Rattle.ec_lease_machine.specs.OfQueues.Reached.{QueuedReached, opens, happens, forgets, unsettles, waits, resumes}
use Rattle.ec_lease_machine.proofs.OfQueues.Adds.{adds-of, event-adds, line-adds, quiet-adds, resume-adds, wait-adds}
use Rattle.ec_lease_machine.proofs.OfQueues.QueuedHold.{resumes-hold, waits-hold}
use Rattle.ec_lease_machine.proofs.OfQueues.QueuedKeep.{asks-queue, queued-in-run}
use Rattle.ec_base.proofs.Options.{none_some}
use Rattle.ec_lawful.proofs.Bounded.{IsBounded}

-- every world without queues is one
pub plain-reached : (d : Durable) (w : World) → Reached d w → QueuedReached d w
plain-reached d _ (plain.opens w q) = opens w q
plain-reached d _ (plain.happens w r fate e may ok) = happens w (plain-reached d w r) fate e may ok
plain-reached d _ (plain.forgets w r) = forgets w (plain-reached d w r)
plain-reached d _ (plain.unsettles w r) = unsettles w (plain-reached d w r)

may-be : (w : World) (e : Event) → MayHappen w e → MayBe IsBounded e
may-be w (event.Call c l cl) may = may.2
may-be w (event.Push c n) may = tt
may-be w (event.Resend c) may = tt
may-be w (event.Cut c) may = tt
may-be w (event.Uncut c) may = tt
may-be w (event.Drop n) may = tt
may-be w (event.Repeat n) may = tt
may-be w (event.Deliver n) may = tt
may-be w (event.Crash c) may = tt
may-be w (event.End c) may = tt
may-be w event.Stop may = tt
may-be w (event.Arm n ch) may = tt
may-be w event.Restart may = tt

-- Facts that the steps of nodes and queued calls keep hold of each world that is reached.
module _ (d : Durable) (F : System → Type 0) (keep-all : StepsKeep F) (queues : QueuesKeep F) (opened : (w : World) → open_world d ≡ Ok w → steps.HoldsIn F w) where
  pub reached-holds : (w : World) → QueuedReached d w → steps.HoldsIn F w
  reached-holds _ (opens w q) = opened w q
  reached-holds _ (happens w r fate e may ok) = event-holds F keep-all fate e w (reached-holds w r) may ok
  reached-holds _ (forgets w r) = let h = reached-holds w r in (h.0, h.1, forgotten-stands w h.0 h.2)
  reached-holds _ (unsettles w r) = let h = reached-holds w r in (lined h.0 Unsettled, keep-all.unsettled h.0 h.1, lined-stands w h.0 h.2 Unsettled)
  reached-holds _ (waits w r c l cl may) = waits-hold F queues w (reached-holds w r) c l cl may
  reached-holds _ (resumes w r c l cl may ok) = resumes-hold F queues w (reached-holds w r) c l cl may ok

-- What a run over a volume keeps at a stop with a record in doubt, and at a restart.
module _ (v : Images) (most : ℕ) where
  abbrev F : System → Type 0
  F = OfRun v most

  fixed : (g h : System) → h.origin ≡ g.origin → h.durable.max_objects ≡ g.durable.max_objects → F g → Whole h → F h
  fixed g h q r f w = record { whole = w; origin = q ∙ f.origin; most_is = r ∙ f.most_is }

  found-most : (h : System) → F h → h.server ≡ None → (r : Record) → h.unshown ≡ Some r → (stepped r h.durable).max_objects ≡ h.durable.max_objects
  found-most h x d r p = step-most r h.durable (stepped r h.durable) (steps-so h (x.whole).all (x.whole).doubts d r p)

  pub rest : RestsKeep F
  rest = record {
    in_doubt = λ h x. (x.whole).doubts;
    doubts = λ h y x p s from now. fixed h (doubted h s) refl refl x (doubted-whole h x.whole y p s from now);
    lines = λ h x. fixed h (lined h Stopped) refl refl x (stopped-line-whole h x.whole);
    finds = λ h x d r p m now. fixed h _ refl (found-most h x d r p) x (found-whole h x.whole d r p now);
    starts = λ h x d s e now. fixed h _ refl (ap (λ y. y.max_objects) (start-leaves (record (h.durable) { epoch = e }))) x (up-whole h x.whole d s e now);
  }

module _ (d : Durable) (wf : WellFormed d) (sixteen : length d.sessions ≡ 16) (zero : images d.volume 0 ≡ Gone) where
  abbrev G : System → Type 0
  G = OfRun (images d.volume) d.max_objects

  queues-by : QueuesKeep G
  queues-by = queued-in-run (images d.volume) d.max_objects

  pub queued-stands : (w : World) → QueuedReached d w → steps.HoldsIn G w
  queued-stands = reached-holds d G (kept-by d wf sixteen zero) queues-by (opened-holds d wf sixteen zero)

  -- its calls are within their bounds
  bounded-of : (w : World) → QueuedReached d w → AreOf IsBounded w
  bounded-of _ (opens w q) = record {
    calls = λ c n l cl x. absurd (none_some (sym (ap (λ t. call_of c n t) (no-calls d wf sixteen zero w q)) ∙ x));
    shown = subst (EachLine (IsOf IsBounded)) (sym (no-lines d wf sixteen zero w q)) tt;
  }
  bounded-of _ (happens w r fate e may ok) = let k = bounded-of w r in adds-of IsBounded w (happen fate e w) k (event-adds IsBounded fate e w k.calls (may-be w e may) ok)
  bounded-of _ (forgets w r) = let k = bounded-of w r in record { calls = k.calls; shown = k.shown }
  bounded-of _ (unsettles w r) =
      let k = bounded-of w r in
      adds-of IsBounded w (show_line Unsettled (moving w)) k (line-adds IsBounded w (moving w) (quiet-adds IsBounded w k.calls w refl refl) Unsettled tt)
  bounded-of _ (waits w r c l cl may) = let k = bounded-of w r in adds-of IsBounded w (wait c l cl w) k (wait-adds IsBounded w k.calls c l cl may.bounded)
  bounded-of _ (resumes w r c l cl may ok) = let k = bounded-of w r in adds-of IsBounded w (resume c l cl w) k (resume-adds IsBounded w k.calls c l cl may.bounded ok)

  pub queued-in-order : (w : World) → QueuedReached d w → IsInOrder (images d.volume) d.max_objects w
  queued-in-order w r = in-order-of d wf sixteen zero w (queued-stands w r) (bounded-of w r).shown

  -- and nobody said goodbye
  abbrev first : ℕ → ℕ
  first = (opened_in d).first_boot

  abbrev Both : System → Type 0
  Both g = G g × AsksAgree first g

  opened-both : (w : World) → open_world d ≡ Ok w → steps.HoldsIn Both w
  opened-both w q =
      let st = world-stands d sixteen w q in (
        opened_in d,
        (record { whole = opened-whole d wf sixteen zero; origin = refl; most_is = refl }, opened-agrees w (opened_in d) st (record { idle = λ c. refl; boots = λ c. refl; pool = refl; unshown = refl; shown = refl })),
        st,
      )

  both-hold : (w : World) → QueuedReached d w → steps.HoldsIn Both w
  both-hold = reached-holds d Both (asks-keep first G (kept-by d wf sixteen zero) (rest (images d.volume) d.max_objects)) (asks-queue first G queues-by) opened-both

  pub queued-hold : (w : World) → QueuedReached d w → steps.HoldsIn (λ g. Whole g × AsksAgree first g) w
  queued-hold w r = let k = both-hold w r in (k.0, (k.1.0.whole, k.1.1), k.2)
