-- One line of a script without faults, which settles: its call is answered, and nothing else is.
use Rattle.std.proofs.Common.{◌≡◌, refl, sym, ap, ◌∙◌, subst, arith, ◌+◌, ℕ, [], ◌∷◌, ◌++◌, inl, inr, ◌⊎◌, length}
use Rattle.std.specs.Prelude.{Option, None, Some, ◌==◌, ◌&&◌, cond}
use Rattle.std.proofs.lemmas.Bool.{eq-eqb}
use Rattle.ec_base.specs.Tables.{at}
use Rattle.ec_plain.specs.declared.call.Call.{Call}
use Rattle.ec_volume.specs.Volume.{images}
use Rattle.ec_volume.specs.declared.image.Image.TheVariants.{Gone}
use Rattle.ec_history.specs.Placing.{EachLine}
use Rattle.ec_durable.specs.WellFormed.{WellFormed}
use Rattle.ec_durable.specs.declared.state.Durable.{Durable}
use Rattle.ec_protocol.specs.Drill.{carry_out, line_happens, onward, settle}
use Rattle.ec_protocol.specs.World as world
use Rattle.ec_protocol.specs.World.{Moving, call, call_of, deliver, due, forget, happen, moving, pending, runs}
use Rattle.ec_protocol.specs.declared.clerk.Clerk.{Clerk}
use Rattle.ec_protocol.specs.declared.script.Line.{Line}
use Rattle.ec_protocol.specs.declared.script.Line.TheVariants as line
use Rattle.ec_protocol.specs.declared.world.Event.TheVariants as event
use Rattle.ec_protocol.specs.declared.world.World.{World}
use Rattle.ec_coherence.specs.System.{System}
use Rattle.ec_lawful.specs.Calls.{AreOf, IsOf}
use Rattle.ec_lawful.specs.DrillRuns.{IsFit}
use Rattle.ec_protocol.specs.Drill.{reads}
use Rattle.ec_lawful.specs.Steps.{HoldsIn, IsNewIn, StepsKeep}
use Rattle.ec_lawful.proofs.CallsShown.{deliver-tells, event-tells}
use Rattle.ec_lawful.proofs.Events.{deliver-holds, event-holds}
use Rattle.ec_lawful.proofs.Worlds.{F, kept-by}
use Rattle.ec_quiet.specs.SettlingScenes.{Reaches, here, on}
use Rattle.ec_quiet.specs.Quiet.{IsIdle}
use Rattle.ec_quiet.specs.Scenes.{IsScene, Scene}
use Rattle.ec_complete.proofs.ForLines.Quieting.{quiets}
use Rattle.ec_machine_laws.specs.Answers.{asking_in}
use Rattle.ec_machine_laws.specs.PlainLines.{asked_in}
use Rattle.ec_complete.specs.OfAgreedLines.Answered.{LineIsAnswered, IsCalled, NoneCalls}
use Rattle.ec_complete.proofs.OfAgreedLines.Reaching.{calls-once, others-none}
use Rattle.ec_quiet.specs.OfDeliveries.Runs.{HasSettled}
use Rattle.ec_complete.specs.Complete.{IsFaultless}
use Rattle.ec_complete.proofs.ForLines.Numbers.{Below, later, unshown}
use Rattle.ec_base.proofs.Lists.{regroup, no-more}
use Rattle.ec_base.proofs.Options.{none_some}

module _ (d : Durable) (formed : WellFormed d) (sixteen : length d.sessions ≡ 16) (gone : images d.volume 0 ≡ Gone) where
  abbrev pub G : System → Type 0
  G = F d formed sixteen gone

  keeps : StepsKeep G
  keeps = kept-by d formed sixteen gone

  -- no call is under way where all is idle
  none-calls : (w : World) (sc : Scene) → HoldsIn G w → IsScene w sc → IsIdle sc → NoneCalls w
  none-calls w sc holds i idle = (quiets w holds.0 sc ((holds.1.whole).all.0).sessions (holds.1.whole).calls holds.2 i idle).1

  -- the facts, and the lines, of a world that a line comes to
  pub record Along (n : ℕ) (w : World) (m : Moving) : Type 0 where
    pub holds : HoldsIn G m.world
    pub of : AreOf (Below (n + 1)) m.world
    pub lines : m.world.shown ≡ w.shown ++ m.shown

  along-on : (n : ℕ) (w : World) (r e : Moving) → e.fault ≡ None → Along n w r → HoldsIn G e.world → AreOf (Below (n + 1)) e.world → e.world.shown ≡ r.world.shown ++ e.shown → Along n w (onward r e)
  along-on n w r e f a holds of lines = subst (Along n w) (sym (ap (λ o. elim o as (λ z. Moving) [ Some g ↦ record r { fault = Some g } | None ↦ record { world = e.world; shown = r.shown ++ e.shown; fault = None } ]) f))
      (record { holds = holds; of = of; lines = lines ∙ ap (λ ss. ss ++ e.shown) a.lines ∙ regroup w.shown r.shown e.shown })

  along : (n : ℕ) (w : World) (m r : Moving) → Along n w m → Reaches m r → Along n w r
  along n w m r a here = a
  along n w m _ a (on r i reached is-due fine) =
      let b = along n w m r a reached in
      let t = deliver-tells (Below (n + 1)) runs i r.world b.of fine in
      along-on n w r (deliver runs i r.world) fine b (deliver-holds G keeps runs i r.world b.holds fine) t.of t.lines

  -- Before the line of this number all is idle.
  pub record Before (n : ℕ) (w : World) : Type 0 where
    pub holds : HoldsIn G w
    pub shown : EachLine (IsOf (Below n)) w.shown
    pub scene : Scene
    pub stands : IsScene w scene
    pub idle : IsIdle scene

  module _ (n : ℕ) (w : World) (q : Before n w) where
    none : NoneCalls w
    none = none-calls w q.scene q.holds q.stands q.idle

    of-all : AreOf (Below (n + 1)) w
    of-all = record { calls = λ c k l cl e. absurd (none_some (sym (none c k) ∙ e)); shown = later n w.shown q.shown }

    new : IsNewIn w n
    new = record { unshown = unshown n w.shown q.shown; unused = λ c k l cl e. absurd (none_some (sym (none c k) ∙ e)) }

    -- behind the first step, and behind the line, where its calls are these
    module _ (l : Line) (fine : (line_happens runs n l w).fault ≡ None) (k : ℕ) (settled : HasSettled k (line_happens runs n l w) (settle k [] (line_happens runs n l w))) (column : ℕ) where
      abbrev m : Moving
      m = line_happens runs n l w

      abbrev r : Moving
      r = settle k [] m

      pub carries : carry_out k [] n l w ≡ r
      carries = ap (λ (x : Moving). elim x.fault as (λ z. Moving) [ Some f ↦ x | None ↦ settle k [] x ])
          (ap (λ o. elim o as (λ z. Moving) [ Some f ↦ record (moving w) { fault = Some f } | None ↦ record { world = m.world; shown = [] ++ m.shown; fault = None } ]) fine ∙ ap (λ o. record m { fault = o }) (sym fine))
          ∙ ap (λ o. elim o as (λ z. Moving) [ Some f ↦ m | None ↦ r ]) fine

      first : IsFaultless l → IsFit (reads l column) → Along n w m
      first = go l fine
        where
          quiet : Along n w (moving w)
          quiet = record { holds = q.holds; of = of-all; lines = sym (no-more w.shown) }

          go : (l : Line) → (line_happens runs n l w).fault ≡ None → IsFaultless l → IsFit (reads l column) → Along n w (line_happens runs n l w)
          go line.Comment f a b = quiet
          go (line.Call c cl) f a b =
              let t = event-tells (Below (n + 1)) runs (event.Call c n cl) w of-all (omega arith) f in
              record { holds = event-holds G keeps runs (event.Call c n cl) w q.holds (new, b.0, b.1) f; of = t.of; lines = t.lines }
          go (line.Push c i) f a b =
              let t = event-tells (Below (n + 1)) runs (event.Push c i) w of-all tt f in
              record { holds = event-holds G keeps runs (event.Push c i) w q.holds tt f; of = t.of; lines = t.lines }
          go (line.Cut c) f a b = absurd a
          go (line.Uncut c) f a b = absurd a
          go (line.Drop c i j) f a b = absurd a
          go (line.Repeat c i j) f a b = absurd a
          go (line.Deliver c i j) f a b = absurd a
          go (line.Resend c) f a b = absurd a
          go (line.Crash c) f a b = absurd a
          go (line.End c) f a b = absurd a
          go line.Stop f a b = absurd a
          go (line.Arm i ch) f a b = absurd a
          go line.Restart f a b = absurd a

      module _ (faultless : IsFaultless l) (fit : IsFit (reads l column)) where
        pub behind : Along n w r
        behind = along n w m r (first faultless fit) settled.reached

        none-then : NoneCalls r.world
        none-then = none-calls r.world settled.scene behind.holds settled.stands settled.idle

        pub answered : asked_in r.shown ≡ asking_in n l
        answered = go l fine faultless settled.reached
          where
            once : (c : ℕ) (cl : Call) → IsCalled n c cl r ⊎ LineIsAnswered n c cl r → asked_in r.shown ≡ (n, c, cl) ∷ []
            once c cl (inr a) = a.1
            once c cl (inl a) = absurd (open-still c cl a)
              where
                open-still : (c : ℕ) (cl : Call) → IsCalled n c cl r → ⊥
                open-still c cl a = none_some (sym (none-then c a.number) ∙ a.calls c a.number ∙ own c a.number n cl)
                  where
                    own : (c k n : ℕ) (cl : Call) → cond {A = Option (ℕ × Call)} ((c == c) && (k == k)) (Some (n, cl)) None ≡ Some (n, cl)
                    own c k n cl = (λ z. cond {A = Option (ℕ × Call)} (eq-eqb c c refl z && eq-eqb k k refl z) (Some (n, cl)) None)

            push : (c i : ℕ) (o : Option Clerk) → (world.push c i o w).fault ≡ None → Reaches (world.push c i o w) r → asked_in r.shown ≡ []
            push c i None f reached = absurd (none_some (sym f))
            push c i (Some k) f reached = ((others-none w r none).0 c i k reached).1

            go : (l : Line) → (line_happens runs n l w).fault ≡ None → IsFaultless l → Reaches (line_happens runs n l w) r → asked_in r.shown ≡ asking_in n l
            go line.Comment f a reached = ((others-none w r none).1 reached).1
            go (line.Call c cl) f a reached = once c cl (calls-once n c cl w r none f reached)
            go (line.Push c i) f a reached = push c i (at c w.clerks) f reached
            go (line.Cut c) f a reached = absurd a
            go (line.Uncut c) f a reached = absurd a
            go (line.Drop c i j) f a reached = absurd a
            go (line.Repeat c i j) f a reached = absurd a
            go (line.Deliver c i j) f a reached = absurd a
            go (line.Resend c) f a reached = absurd a
            go (line.Crash c) f a reached = absurd a
            go (line.End c) f a reached = absurd a
            go line.Stop f a reached = absurd a
            go (line.Arm i ch) f a reached = absurd a
            go line.Restart f a reached = absurd a
