-- The quiet of a world: what holds behind each line of a script without faults, and before the first one.
use Rattle.std.specs.Prelude.{◌≡◌, ◌<◌, ◌≤◌, ℕ, T, List, [], Option, None, Some}
use Rattle.ec_base.specs.Tables.{Table, at, at_or}
use Rattle.ec_sessions.specs.declared.slot.Slot.{Slot}
use Rattle.ec_durable.specs.Durable.{slot}
use Rattle.ec_protocol.specs.World.{boot}
use Rattle.ec_protocol.specs.declared.clerk.Clerk.{Clerk}
use Rattle.ec_protocol.specs.declared.world.World.{World}
use Rattle.ec_quiet.specs.Facts.{IsIdleBut, IsOrderly}
use Rattle.ec_quiet.specs.Scenes.{IsScene, Scene}

-- No message is under way, no want is noted, and each clerk is idle.
pub record IsIdle (sc : Scene) : Type 0 where
  pub mail : sc.mail ≡ []
  pub wants : sc.server.recalls ≡ []
  pub orderly : IsOrderly sc.server sc.clerks
  pub clerks : (c : ℕ) (k : Clerk) → at c sc.clerks ≡ Some k → (sl : Slot) × IsIdleBut [] sc.server c sl k

pub record IsQuiet (w : World) : Type 0 where
  pub scene : Scene
  pub stands : IsScene w scene
  pub idle : IsIdle scene
  -- no call is under way
  pub calls : (c : ℕ) → at_or [] c w.calls ≡ []
  -- each session was opened by a start that is the clerk's last one, or an earlier one, and a clerk that runs is its last start
  pub boots : (c : ℕ) (sl : Slot) → slot scene.server.durable c ≡ Some sl → (sl.age).boot ≤ boot c w
