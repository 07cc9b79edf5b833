-- What a step with leases asks for no end of a session in: deliveries, and queued calls that begin.
use Rattle.std.proofs.Common.{◌≡◌, refl, sym, ap, ◌∙◌, ◌≤◌, ◌+◌, ℕ, [], ◌∷◌, Option, Some, None, arith}
use Rattle.ec_base.specs.Bools.{one_if}
use Rattle.ec_base.specs.Tables.{at}
use Rattle.ec_base.specs.declared.counter.Counter.{Counter}
use Rattle.ec_base.proofs.Options.{none_some}
use Rattle.ec_plain.specs.declared.call.Call.{Call}
use Rattle.ec_history.specs.declared.shown.Shown.{Shown}
use Rattle.ec_history.specs.declared.shown.Shown.TheVariants as show
use Rattle.ec_protocol.specs.Clerk.{begin}
use Rattle.ec_protocol.specs.World as world
use Rattle.ec_protocol.specs.World.{Fate, Moving, happen, moving, show_line}
use Rattle.ec_protocol.specs.Resumes.{resume, resume_on, wait}
use Rattle.ec_protocol.specs.declared.clerk.Clerk.{Clerk}
use Rattle.ec_protocol.specs.declared.script.Line.{Line as Scripted}
use Rattle.ec_protocol.specs.declared.world.Event.{Event}
use Rattle.ec_protocol.specs.declared.world.World.{World}
use Rattle.ec_protocol.specs.declared.world.WorldFault.TheVariants as world_fault
use Rattle.ec_lawful.specs.Asked.{EndsAsked, allows, ended_by}
use Rattle.ec_lawful.specs.AskedLaws.{StandsAsked}
use Rattle.ec_lawful.specs.Headline.{may_end}
use Rattle.ec_lawful.specs.Steps.{HoldsIn}
use Rattle.ec_lawful.proofs.ForAsked.EventsAsk.{event-asks}
use Rattle.ec_lawful.proofs.ForAsked.Reading.{alike-asks, done-alike, ended-more, running-tops}
use Rattle.ec_lawful.proofs.ForAsked.ServingAsks.{line-alike, weaken}

-- an event asks for what its line does
abbrev pub AsksAs : Scripted → Event → Type 0
AsksAs l e = (c : ℕ) → allows e c ≡ one_if (may_end c l)

module _ (first asked : ℕ → ℕ) where
  abbrev A : World → Type 0
  A w = EndsAsked first asked w

  -- a line that ends nothing
  shown-asks : (s : Shown) → ((c : ℕ) → ended_by c (s ∷ []) ≡ 0) → (w : World) → A w → A (show_line s (moving w)).world
  shown-asks s none w a = alike-asks first asked w (show_line s (moving w)).world
      (line-alike w (show_line s (moving w)).world refl refl refl refl (λ c. ended-more c w.shown (s ∷ []) ∙ ap (λ n. ended_by c w.shown + n) (none c))) a

  pub nothing-asks : (w : World) → A w → A (world.nothing w).world
  nothing-asks = shown-asks show.Nothing (λ c. refl)

  pub unsettled-asks : (w : World) → A w → A (show_line show.Unsettled (moving w)).world
  unsettled-asks = shown-asks show.Unsettled (λ c. refl)

  pub wait-asks : (c l : ℕ) (cl : Call) (w : World) → A w → A (wait c l cl w).world
  wait-asks c l cl = shown-asks (show.Waits l c cl) (λ e. refl)

  pub resume-asks : (c l : ℕ) (cl : Call) (w : World) → A w → (resume c l cl w).fault ≡ None → A (resume c l cl w).world
  resume-asks c l cl w a f = by (at c w.clerks) refl f
    where
      begins : (k : Clerk) → at c w.clerks ≡ Some k → (o : Option Counter)
          → (elim o as (λ z. Moving) [ Some n ↦ world.fails (world_fault.Spent n) w | None ↦ world.clerk_does c (begin cl k) (moving (world.add_call c (k.calls + 1) l cl w)) ]).fault ≡ None
          → A (elim o as (λ z. Moving) [ Some n ↦ world.fails (world_fault.Spent n) w | None ↦ world.clerk_does c (begin cl k) (moving (world.add_call c (k.calls + 1) l cl w)) ]).world
      begins k p (Some n) f = absurd (none_some (sym f))
      begins k p None f =
          let v = world.add_call c (k.calls + 1) l cl w in
          alike-asks first asked w (world.clerk_does c (begin cl k) (moving v)).world
          (done-alike w (moving v) c (begin cl k) (record { ended = λ e. refl; unshown = refl; durable = refl; tops = running-tops w v c k p refl refl }) f) a

      by : (o : Option Clerk) → at c w.clerks ≡ o → (resume_on c l cl o w).fault ≡ None → A (resume_on c l cl o w).world
      by None p f = a
      by (Some k) p f = begins k p (begin cl k).spent f

-- behind an event of a line no more sessions ended than the line allows for
pub line-asks : (first asked : ℕ → ℕ) (fate : Fate) (l : Scripted) (e : Event) → AsksAs l e → (w : World) → HoldsIn (StandsAsked first) w → EndsAsked first asked w → (happen fate e w).fault ≡ None
    → EndsAsked first (λ c. asked c + one_if (may_end c l)) (happen fate e w).world
line-asks first asked fate l e same_as w h a f = weaken first (λ c. asked c + allows e c) (λ c. asked c + one_if (may_end c l)) (happen fate e w).world (λ c. same (asked c) (allows e c) (one_if (may_end c l)) (same_as c)) (event-asks first asked fate w h a e f)
  where
    same : (a b d : ℕ) → b ≡ d → a + b ≤ a + d
    same a b d p = omega (arith, p)
