-- Queued calls: each may begin behind its line. And the worlds that steps with leases reach.
use Rattle.std.specs.Prelude.{◌≡◌, ◌==◌, ℕ, false, List, [], ◌∷◌, Contains, None, Ok, length, ⊤}
use Rattle.ec_base.specs.Tables.{at_or}
use Rattle.ec_plain.specs.declared.call.Call.{Call}
use Rattle.ec_volume.specs.Volume.{images}
use Rattle.ec_volume.specs.declared.image.Image.TheVariants.{Gone}
use Rattle.ec_history.specs.History.{Each}
use Rattle.ec_history.specs.declared.shown.Shown.TheVariants.{Unsettled}
use Rattle.ec_durable.specs.WellFormed.{WellFormed}
use Rattle.ec_durable.specs.declared.state.Durable.{Durable}
use Rattle.ec_protocol.specs.World.{Fate, forget, moving, open_world, show_line}
use Rattle.ec_protocol.specs.declared.world.World.{World}
use Rattle.ec_lease_machine.specs.OfQueues.Adds.{MayBe}
use Rattle.ec_lease_machine.specs.OfQueues.Queued.{MayResume}
use Rattle.ec_lease_machine.specs.OfQueues.Reached.{QueuedReached}
use Rattle.ec_lawful.specs.Steps.{MayHappen}
use Rattle.ec_lease_machine.specs.Leases.{in_world, opened_leases, step}
use Rattle.ec_lease_machine.specs.declared.world.LeaseEvent.{LeaseEvent}
use Rattle.ec_lease_machine.specs.declared.world.LeaseEvent.TheVariants as event
use Rattle.ec_lease_machine.specs.declared.world.LeaseWorld.{LeaseWorld}
use Rattle.ec_lease_machine.specs.OfLeaseLaws.Agrees.{LeasesAgree}
use Rattle.ec_history.specs.OfLaws.OfPrinted.Timely.{AreTimely}

-- the lines of a queue's calls differ
abbrev pub CallsAreApart : List (ℕ × Call) → Type 0
CallsAreApart [] = ⊤
CallsAreApart (q ∷ qs) = Each (λ r. (r.0 == q.0) ≡ false) qs × CallsAreApart qs

-- each call of these queues may begin
pub record QueuesAgree (queue : ℕ → List (ℕ × Call)) (w : World) : Type 0 where
  pub may : (c l : ℕ) (cl : Call) → Contains (queue c) (l, cl) → MayResume w c l cl
  pub apart : (c : ℕ) → CallsAreApart (queue c)

abbrev pub queues : LeaseWorld → ℕ → List (ℕ × Call)
queues x c = at_or [] c x.queued

-- what is asked of an event: the line of a call is new, and the call is within its bounds
abbrev pub MayStep : LeaseWorld → LeaseEvent → Type 0
MayStep x (event.World e) = MayHappen x.world e
MayStep x _ = ⊤

-- P holds of the call of an event, if it's one
abbrev pub MayAsk : (ℕ → ℕ → Call → Type 0) → LeaseEvent → Type 0
MayAsk P (event.World e) = MayBe P e
MayAsk P _ = ⊤

-- A world with leases over this state: it was opened, and then events happened that may, whatever the disk did in them and whatever clocks showed.
pub data LeaseReached (d : Durable) : LeaseWorld → Type 0 where
  opens : (l e : ℕ) (w : World) → open_world d ≡ Ok w → LeaseReached d (opened_leases l e w)
  steps : (x : LeaseWorld) → LeaseReached d x → (fate : Fate) (e : LeaseEvent) → MayStep x e → (step fate e x).fault ≡ None → LeaseReached d (step fate e x).world
  forgets : (x : LeaseWorld) → LeaseReached d x → LeaseReached d (in_world (forget x.world) x)
  unsettles : (x : LeaseWorld) → LeaseReached d x → LeaseReached d (in_world (show_line Unsettled (moving x.world)).world x)

-- its world is one that runs reach in which calls wait before they begin, so that all that is proved of these holds of it; what was issued agrees with
-- its sessions, each queued call may begin, and no answer but one that needed nothing stands behind the end of its session
pub record LeasesReach (d : Durable) (x : LeaseWorld) : Type 0 where
  pub reached : QueuedReached d x.world
  pub leases : LeasesAgree x
  pub queued : QueuesAgree (queues x) x.world
  pub timely : AreTimely [] x.world.shown

abbrev pub LeaseWorldsAreReached : Type 0
LeaseWorldsAreReached = (d : Durable) → WellFormed d → length d.sessions ≡ 16 → images d.volume 0 ≡ Gone → (x : LeaseWorld) → LeaseReached d x → LeasesReach d x
