-- Room for the objects of a script, and lines in which no call is refused for want of it, as contracts name it.
use Rattle.std.specs.Prelude.{◌≡◌, ◌≤◌, ◌+◌, ◌*◌, ℕ, zero, suc, T, Bool, false, List, ◌∷◌, length, None, Some, is_some}
use Rattle.ec_base.specs.Tables.{at, once}
use Rattle.ec_history.specs.History.{Each}
use Rattle.ec_history.specs.Placing.{EachLine}
use Rattle.ec_plain.specs.declared.call.Call.{Call}
use Rattle.ec_volume.specs.Update.{member}
use Rattle.ec_volume.specs.Volume.{Images}
use Rattle.ec_wire.specs.declared.msg.Msg.{Msg}
use Rattle.ec_durable.specs.Durable.{is_full}
use Rattle.ec_durable.specs.WellFormed.{IsInOrder}
use Rattle.ec_protocol.specs.World as world
use Rattle.ec_protocol.specs.World.{Moving, call}
use Rattle.ec_protocol.specs.declared.clerk.Clerk.{Clerk}
use Rattle.ec_protocol.specs.declared.world.World.{World}
use Rattle.ec_lawful.specs.Creates.{creates}
use Rattle.ec_lawful.specs.Steps.{HoldsIn}
use Rattle.ec_lawful.specs.Runs.{OfRun}
use Rattle.ec_quiet.specs.Phases.{InPhase, Asks}
use Rattle.ec_quiet.specs.Quiet.{IsIdle}
use Rattle.ec_quiet.specs.Scenes.{IsScene, Scene}
use Rattle.ec_quiet.specs.Works.{Work}
use Rattle.ec_quiet.specs.SettlingScenes.{Reaches}
use Rattle.ec_complete.specs.Spare.{AreGiven, max_calls}
use Rattle.ec_complete.specs.Begins.{most_sent}
use Rattle.ec_complete.specs.SettledRuns.{HasRoom}
use Rattle.ec_complete.specs.Worlds.{LineIsKnown, new_outset}
use Rattle.ec_complete.specs.Rooms.{GrantsRoom, IsStocked}
use Rattle.ec_base.specs.Bools.{one_if}

-- the sum over the numbers below this one
abbrev pub sum_below : ℕ → (ℕ → ℕ) → ℕ
sum_below zero f = 0
sum_below (suc c) f = f c + sum_below c f

-- There is room for clerks of these names, each of whom was asked for so many objects: each may have sixteen ids in store, and the root is one object more.
abbrev pub IsRoomFor : List ℕ → (ℕ → ℕ) → ℕ → Type 0
IsRoomFor names makes most = sum_below 16 makes + 16 * length (once names) + 1 ≤ most

-- What clerks have in store, and what is under way. The clerks that run have these names, and those of the second list run.
pub record HasStock (names callers : List ℕ) (makes : ℕ → ℕ) (sc : Scene) : Type 0 where
  pub clerks : (c : ℕ) (k : Clerk) → at c sc.clerks ≡ Some k → IsStocked (makes c) k
  pub named : (c : ℕ) (k : Clerk) → at c sc.clerks ≡ Some k → T (member c names)
  pub run : (c : ℕ) → T (member c callers) → T (is_some (at c sc.clerks))
  pub mail : Each {A = ℕ × Msg} (λ m. GrantsRoom m.1) sc.mail

-- Where a clerk asks for ids the volume isn't full.
abbrev pub AskingsFindRoom : Type 0
AskingsFindRoom = (names callers : List ℕ) (makes : ℕ → ℕ) (j : Work) (sc : Scene) (again : Bool) (got ask : ℕ) → InPhase j sc (Asks again got ask) → HasStock names callers makes sc → IsInOrder sc.server.durable → AreGiven 2 sc.server.durable
    → IsRoomFor names makes sc.server.durable.max_objects → is_full sc.server.durable ≡ false

-- A line so far: what is in store, and that no call was refused.
pub record KeepsRoom (names callers : List ℕ) (makes : ℕ → ℕ) (m : Moving) : Type 0 where
  pub scene : Scene
  pub stands : IsScene m.world scene
  pub stock : HasStock names callers makes scene
  pub shown : EachLine HasRoom m.shown

-- behind deliveries, in a run on a new disk
abbrev pub LinesKeepRoom : Type 0
LinesKeepRoom = (v : Images) (most : ℕ) (names callers : List ℕ) (makes : ℕ → ℕ) (j : Work) (calls : ℕ) (m r : Moving) → LineIsKnown new_outset j calls m → calls ≤ max_calls → HoldsIn (OfRun v most) m.world → IsRoomFor names makes most
    → KeepsRoom names callers makes m → Reaches m r → r.world.sent ≤ most_sent → KeepsRoom names callers makes r

-- Behind the first step of a call, where all was idle: its clerk was asked for one more, if the call makes an object.
abbrev pub CallsKeepRoom : Type 0
CallsKeepRoom = (names callers : List ℕ) (makes more : ℕ → ℕ) (w : World) (sc : Scene) (c line : ℕ) (cl : Call) → IsScene w sc → IsIdle sc → HasStock names callers makes sc → T (member c names)
    → ((d : ℕ) → makes d ≤ more d) → makes c + one_if (creates cl) ≤ more c → (call c line cl w).fault ≡ None → KeepsRoom names (c ∷ callers) more (call c line cl w)

-- and of a push
abbrev pub PushesKeepRoom : Type 0
PushesKeepRoom = (names callers : List ℕ) (makes : ℕ → ℕ) (w : World) (sc : Scene) (c n : ℕ) → IsScene w sc → HasStock names callers makes sc → (world.push c n (at c w.clerks) w).fault ≡ None
    → KeepsRoom names callers makes (world.push c n (at c w.clerks) w)
