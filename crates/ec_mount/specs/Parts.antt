-- No public clause cites this module: it says what who links again and who makes the calls do at the same time.
use Rattle.std.specs.Prelude.{◌≡◌, ◌≤◌, ℕ, List, [], Option, Some, None, Result, OnOk, Vec}
use Rattle.std.specs.declared.alloc.Global.{Global}
use Rattle.ec_base.specs.declared.list.NoMemory.{NoMemory}
use Rattle.ec_plain.specs.declared.call.Call.{Call}
use Rattle.ec_lock.specs.PassViews.{first, front, IsPassOf}
use Rattle.ec_lock.specs.declared.types.Pass.{Pass}
use Rattle.ec_lock.specs.declared.types.TracedLock.{TracedLock}
use Rattle.ec_link.specs.Links.{Heard}
use Rattle.ec_clerknode.specs.declared.state.Node.{Node}
use Rattle.ec_clerknode.specs.declared.step.Step.{Step}
use Rattle.ec_clerknode.specs.LaneRuns.{lists_of}
use Rattle.ec_clerknode.specs.Turns.{calls_by}
use Rattle.ec_mount.specs.Run.{NetSeen}
use Rattle.ec_mount.specs.Calls.{Called}
use Rattle.ec_mount.specs.Linking.{Linked, LinkedMore}
use Rattle.ec_mount.specs.declared.linked.Did.{Did}
use Rattle.ec_mount.specs.declared.linked.Did.TheVariants as did

module _ {L : Type 0} (lock : TracedLock (Node L) Step) where
  -- it made the calls, or did nothing
  abbrev pub CallerDid : Pass (Node L) Step → List (List Call) → Pass (Node L) Step → Option Did → Type 0
  CallerDid old lanes new None = Unit {0}
  CallerDid old lanes new (Some (did.Linked r)) = ⊥
  CallerDid old lanes new (Some (did.Called made)) = Called lock old lanes new (lists_of made.lanes) made.last

  module _ {M : Type 0} where
    -- a pass of the lock, which has begun no call where it's to make them
    abbrev pub IsReady : Pass (Node L) Step → Option M → Type 0
    IsReady pass lent = IsPassOf lock pass × (lent ≡ None → calls_by pass.number (front pass) ≡ [])

    module _ (name : M → ℕ) (seen : M → NetSeen) (counts : L → ℕ) (given : L → Option (List Heard)) (got : L → Option (List (List ℕ))) where
      -- it linked again, or did nothing
      abbrev pub LinkerDid : M → Pass (Node L) Step → M → Pass (Node L) Step → Option Did → Type 0
      LinkerDid before old after new None = Unit {0}
      LinkerDid before old after new (Some (did.Linked r)) = Linked lock old new × OnOk r (LinkedMore counts given got (first lock) old new (seen before) (seen after))
      LinkerDid before old after new (Some (did.Called made)) = ⊥

      -- a part has run: who links again still has the net that was lent
      abbrev pub PartRan : Option M → Pass (Node L) Step → List (List Call) → Option M → Pass (Node L) Step → Option Did → Type 0
      PartRan (Some before) old lanes (Some after) new met = (name after ≡ name before) × ((seen before).faults ≤ (seen after).faults) × LinkerDid before old after new met
      PartRan (Some before) old lanes None new met = ⊥
      PartRan None old lanes (Some after) new met = ⊥
      PartRan None old lanes None new met = CallerDid old lanes new met
