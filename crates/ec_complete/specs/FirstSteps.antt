-- What the first step of a line leaves, as contracts name it.
use Rattle.std.specs.Prelude.{◌≡◌, ◌⊎◌, ◌==◌, ℕ, T, false, nat_le, [], None, Some, ⊤}
use Rattle.ec_base.specs.Limits.{last_counter}
use Rattle.ec_base.specs.Tables.{Table, at}
use Rattle.ec_volume.specs.Update.{member}
use Rattle.ec_plain.specs.declared.call.Call.{Call}
use Rattle.ec_cache.specs.declared.state.Held.{Held}
use Rattle.ec_protocol.specs.Clerk.{begin, on_objects}
use Rattle.ec_protocol.specs.declared.clerk.Clerk.{Clerk}
use Rattle.ec_protocol.specs.declared.world.World.{World}
use Rattle.ec_coherence.specs.Steps.{Stands}
use Rattle.ec_coherence.specs.System.{System}
use Rattle.ec_lawful.specs.Whole.{Whole}
use Rattle.ec_quiet.specs.Phases.{Phase, Greets, Opens, Claims, Wants, Recalls, Flushes, Keeps, Grants, Asks, Gives, Refuses, Saves, Saved, Ends, InPhase}
use Rattle.ec_quiet.specs.Quiet.{IsIdle}
use Rattle.ec_quiet.specs.Scenes.{IsScene, Scene}
use Rattle.ec_quiet.specs.Works.{Work}
use Rattle.ec_complete.specs.WaitingCalls.{kept_volume}

-- The clerk goes on in its session: it has no image that it didn't have, and what it had on objects with undurable operations.
pub record KeepsHeld (k now : Clerk) : Type 0 where
  pub session : now.session ≡ k.session
  pub less : (x : ℕ) (t : Held) → at x now.cache.held ≡ Some t → at x k.cache.held ≡ Some t
  pub pinned : (x : ℕ) → T (member x (on_objects k.log.undurable)) → at x now.cache.held ≡ at x k.cache.held

-- so one of the clerks does; or it starts, and holds nothing
pub record IsStepOf (c : ℕ) (before now : Table Clerk) : Type 0 where
  pub others : (a : ℕ) → (a == c) ≡ false → at a now ≡ at a before
  pub own : ((at c before ≡ None) × (k : Clerk) × (at c now ≡ Some k) × (k.cache.held ≡ [])) ⊎ ((k : Clerk) × (a : Clerk) × (at c before ≡ Some k) × (at c now ≡ Some a) × KeepsHeld k a)

-- no session was opened that its clerk didn't take
abbrev pub IsTold : Phase → Type 0
IsTold (Opens age) = ⊥
IsTold (Greets age) = ⊤
IsTold (Claims o) = ⊤
IsTold (Wants x h n) = ⊤
IsTold (Recalls x h rs bs) = ⊤
IsTold (Flushes x h r b ops more) = ⊤
IsTold (Keeps x h r b more) = ⊤
IsTold (Grants x h n) = ⊤
IsTold (Asks again got ask) = ⊤
IsTold (Gives got n first) = ⊤
IsTold (Refuses again ask live reserved) = ⊤
IsTold (Saves b ops more) = ⊤
IsTold (Saved b more) = ⊤
IsTold Ends = ⊤

abbrev pub FirstStepsLeaveKept : Type 0
FirstStepsLeaveKept = (j : Work) (w u : World) (sc now : Scene) (g h : System) (q : Phase) → Whole g → Stands w g → IsScene w sc → IsIdle sc → Whole h → Stands u h → IsScene u now
    → h.origin ≡ g.origin → now.server ≡ sc.server → IsStepOf j.clerk sc.clerks now.clerks → InPhase j now q → IsTold q → kept_volume h ≡ kept_volume g

abbrev pub BeginsAreSteps : Type 0
BeginsAreSteps = (cl : Call) (k : Clerk) → k.waiting ≡ [] → k.pushes ≡ [] → k.recalls ≡ [] → nat_le last_counter k.calls ≡ false → ((begin cl k).clerk.waiting ≡ [] → ⊥) → KeepsHeld k (begin cl k).clerk
