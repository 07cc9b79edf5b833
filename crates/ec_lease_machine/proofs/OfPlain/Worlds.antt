-- The worlds of runs over scripts of comments, calls and pushes, while the disk runs: each clerk in a session is in the one that the server has open.
use Rattle.std.proofs.Common.{◌≡◌, refl, sym, ap, subst, ◌∙◌, arith, ◌<◌, ◌≤◌, ◌+◌, ℕ, true, length, None, Some}
use Rattle.std.specs.Prelude.{Ok, ⊤}
use Rattle.ec_base.specs.Tables.{at}
use Rattle.ec_plain.specs.declared.call.Call.{Call}
use Rattle.ec_volume.specs.Update.{member}
use Rattle.ec_volume.specs.Volume.{images}
use Rattle.ec_volume.specs.declared.image.Image.TheVariants.{Gone}
use Rattle.ec_history.specs.Placing.{EachLine}
use Rattle.ec_history.specs.declared.shown.Shown.{Shown}
use Rattle.ec_history.specs.declared.shown.Shown.TheVariants as show
use Rattle.ec_history.proofs.PlacingLemmas.{each-turn}
use Rattle.ec_durable.specs.WellFormed.{WellFormed}
use Rattle.ec_durable.specs.declared.state.Durable.{Durable}
use Rattle.ec_protocol.specs.World.{runs, clerks, forget, happen, moving, open_world, show_line}
use Rattle.ec_protocol.specs.Resumes.{session}
use Rattle.ec_protocol.specs.declared.world.Event.{Event}
use Rattle.ec_protocol.specs.declared.world.Event.TheVariants as event
use Rattle.ec_protocol.specs.declared.world.World.{World}
use Rattle.ec_coherence.specs.Steps.{call_of}
use Rattle.ec_lawful.specs.Asked.{AsksAgree, EndsAsked, ended_by, with_event}
use Rattle.ec_lawful.specs.Calls.{AreOf, IsOf}
use Rattle.ec_lawful.specs.Olds.{opened_in}
use Rattle.ec_lawful.specs.Steps.{HoldsIn, IsNewIn, MayHappen}
use Rattle.ec_lawful.specs.Whole.{Whole}
use Rattle.ec_lawful.proofs.ForAsked.EventsAsk.{event-asks}
use Rattle.ec_lawful.proofs.ForAsked.Opened.{opened-asks}
use Rattle.ec_lawful.proofs.ForAsked.Reading.{alike-asks, ended-line}
use Rattle.ec_lawful.proofs.ForAsked.ServingAsks.{line-alike}
use Rattle.ec_lawful.proofs.ForAsked.Shown.{asked-show}
use Rattle.ec_lawful.proofs.ForWhole.Opens.{world-stands}
use Rattle.ec_lawful.proofs.Worlds.{no-calls, no-lines}
use Rattle.ec_lease_machine.specs.OfQueues.Adds.{MayBe}
use Rattle.ec_lease_machine.specs.OfQueues.Reached.{QueuedReached}
use Rattle.ec_lease_machine.specs.OfQueues.Reached as ways
use Rattle.ec_lease_machine.proofs.OfLeaseWorlds.Reaching.{in-run}
use Rattle.ec_lease_machine.proofs.OfLeaseWorlds.Runs.{Below, unshown}
use Rattle.ec_lease_machine.proofs.OfQueues.Adds.{adds-of, event-adds, line-adds, quiet-adds}
use Rattle.ec_lease_machine.proofs.OfQueues.Worlds.{queued-hold}
use Rattle.ec_lease_machine.proofs.OfPlain.Linked.{IsLinked, call-linked, deliver-linked, opened-linked, push-linked}
use Rattle.ec_lease_machine.proofs.OfPlain.Opened.{in-sixteen, sessions-open}
use Rattle.ec_lease_machine.proofs.OfPlain.Renewed.{IsServed}
use Rattle.ec_base.proofs.Options.{none_some}

-- an event of such a run
abbrev pub IsPlain : Event → Type 0
IsPlain (event.Call c l cl) = ⊤
IsPlain (event.Push c n) = ⊤
IsPlain (event.Deliver n) = ⊤
IsPlain _ = ⊥

one-later : (n : ℕ) (s : Shown) → IsOf (Below n) s → IsOf (Below (n + 1)) s
one-later n (show.Waits k d dl) p = omega (arith, p)
one-later n (show.Answered k d dl a op) p = omega (arith, p)
one-later n s p = tt

module _ (d : Durable) (wf : WellFormed d) (sixteen : length d.sessions ≡ 16) (unmade : images d.volume 0 ≡ Gone) where
  abbrev first : ℕ → ℕ
  first = (opened_in d).first_boot

  -- no session ended
  abbrev NoneEnded : World → Type 0
  NoneEnded w = EndsAsked first (λ c. 0) w

  -- the world before the line of this number
  pub record IsGood (n : ℕ) (w : World) : Type 0 where
    pub reached : QueuedReached d w
    pub asked : NoneEnded w
    pub linked : IsLinked w
    pub of : AreOf (Below n) w

  holds : (w : World) → QueuedReached d w → HoldsIn (λ g. Whole g × AsksAgree first g) w
  holds = queued-hold d wf sixteen unmade

  untold : (w : World) → NoneEnded w → (c : ℕ) → ended_by c w.shown ≤ 0
  untold w a c = asked-show first (λ e. 0) w a c

  pub is-served : (n : ℕ) (w : World) → IsGood n w → IsServed w
  is-served n w a = let h = holds w a.reached in record { opens = sessions-open w h.0 h.1.0.all h.2 (untold w a.asked) a.linked.up; uncut = a.linked.uncut }

  pub is-one : (n : ℕ) (w : World) → IsGood n w → (c s : ℕ) → session c w ≡ Some s → member c clerks ≡ true
  is-one n w a c s q = let h = holds w a.reached in in-run 0 16 c (omega arith) (in-sixteen w h.0 h.1.0.all h.2 (untold w a.asked) c s q)

  -- a line of this number is new
  pub is-new : (n : ℕ) (w : World) → IsGood n w → IsNewIn w n
  is-new n w a = record { unshown = unshown n w.shown a.of.shown; unused = λ c m k cl q. a.of.calls c m k cl q }

  pub good-later : (n : ℕ) (w : World) → IsGood n w → IsGood (n + 1) w
  good-later n w a = record {
    reached = a.reached;
    asked = a.asked;
    linked = a.linked;
    of = record { calls = λ c m k cl q. more k n (a.of.calls c m k cl q); shown = each-turn (IsOf (Below n)) (IsOf (Below (n + 1))) (one-later n) w.shown a.of.shown };
  }
    where
      more : (k m : ℕ) → k < m → k < m + 1
      more k m p = omega (arith, p)

  -- Steps.

  happens-linked : (e : Event) (w : World) → IsPlain e → IsLinked w → IsLinked (happen runs e w).world
  happens-linked (event.Call c l cl) w p i = call-linked c l cl w i
  happens-linked (event.Push c n) w p i = push-linked c n (at c w.clerks) w i
  happens-linked (event.Deliver n) w p i = deliver-linked n w i
  happens-linked _ w p i = absurd p

  happens-asked : (e : Event) (w : World) → IsPlain e → QueuedReached d w → NoneEnded w → (happen runs e w).fault ≡ None → NoneEnded (happen runs e w).world
  happens-asked e w p r a f = by e p (event-asks first (λ c. 0) runs w (h.0, (h.1.0.all, h.1.1), h.2) a e f)
    where
      h : HoldsIn (λ g. Whole g × AsksAgree first g) w
      h = holds w r

      by : (e : Event) → IsPlain e → EndsAsked first (with_event e (λ c. 0)) (happen runs e w).world → NoneEnded (happen runs e w).world
      by (event.Call c l cl) p k = record { within = k.within }
      by (event.Push c n) p k = record { within = k.within }
      by (event.Deliver n) p k = record { within = k.within }
      by _ p k = absurd p

  pub happens-good : (n : ℕ) (e : Event) (w : World) → IsPlain e → IsGood n w → MayHappen w e → MayBe (Below n) e → (happen runs e w).fault ≡ None → IsGood n (happen runs e w).world
  happens-good n e w p a may be f = record {
    reached = ways.happens w a.reached runs e may f;
    asked = happens-asked e w p a.reached a.asked f;
    linked = happens-linked e w p a.linked;
    of = adds-of (Below n) w (happen runs e w) a.of (event-adds (Below n) runs e w a.of.calls be f);
  }

  pub forgets-good : (n : ℕ) (w : World) → IsGood n w → IsGood n (forget w)
  forgets-good n w a = record {
    reached = ways.forgets w a.reached;
    asked = record { within = a.asked.within };
    linked = record { up = a.linked.up; uncut = a.linked.uncut };
    of = record { calls = a.of.calls; shown = a.of.shown };
  }

  pub unsettles-good : (n : ℕ) (w : World) → IsGood n w → IsGood n (show_line show.Unsettled (moving w)).world
  unsettles-good n w a =
      let m = show_line show.Unsettled (moving w) in
      record {
        reached = ways.unsettles w a.reached;
        asked = alike-asks first (λ c. 0) w m.world (line-alike w m.world refl refl refl refl (λ c. ended-line c w.shown show.Unsettled)) a.asked;
        linked = record { up = a.linked.up; uncut = a.linked.uncut };
        of = adds-of (Below n) w m a.of (line-adds (Below n) w (moving w) (quiet-adds (Below n) w a.of.calls w refl refl) show.Unsettled tt);
      }

  -- A world that is opened.
  pub opens-good : (w : World) → open_world d ≡ Ok w → IsGood 1 w
  opens-good w q = record {
    reached = ways.opens w q;
    asked = opened-asks w (opened_in d) (world-stands d sixteen w q) (record { idle = λ c. refl; boots = λ c. refl; pool = refl; unshown = refl; shown = refl });
    linked = opened-linked d w q;
    of = record {
      calls = λ c n l cl x. absurd (none_some (sym (ap (λ t. call_of c n t) (no-calls d wf sixteen unmade w q)) ∙ x));
      shown = subst (EachLine (IsOf (Below 1))) (sym (no-lines d wf sixteen unmade w q)) tt;
    };
  }
