-- What holds before each line of a script without faults, as contracts name it.
use Rattle.std.specs.Prelude.{◌≡◌, ◌≤◌, ◌<◌, ◌+◌, ◌-◌, ◌*◌, ℕ, T, List, length, Some, Ok}
use Rattle.ec_base.specs.Tables.{at}
use Rattle.ec_volume.specs.Update.{member}
use Rattle.ec_volume.specs.Volume.{Images, images}
use Rattle.ec_volume.specs.declared.image.Image.TheVariants.{Gone}
use Rattle.ec_history.specs.Placing.{EachLine}
use Rattle.ec_durable.specs.Durable.{formatted}
use Rattle.ec_durable.specs.WellFormed.{IsInOrder, WellFormed}
use Rattle.ec_durable.specs.declared.state.Durable.{Durable}
use Rattle.ec_protocol.specs.World.{boot, open_world}
use Rattle.ec_protocol.specs.declared.clerk.Clerk.{Clerk}
use Rattle.ec_protocol.specs.declared.world.World.{World}
use Rattle.ec_coherence.specs.Steps.{Stands}
use Rattle.ec_coherence.specs.System.{System}
use Rattle.ec_lawful.specs.Calls.{IsOf}
use Rattle.ec_lawful.specs.Runs.{OfRun}
use Rattle.ec_quiet.specs.Measure.{sum}
use Rattle.ec_quiet.specs.Quiet.{IsIdle}
use Rattle.ec_quiet.specs.Scenes.{IsScene, Scene}
use Rattle.ec_complete.specs.Worlds.{IsCounted, Outset, new_outset, outset_of}

-- how many calls a clerk made
abbrev pub calls_of : ℕ × Clerk → ℕ
calls_of e = (e.1).calls

-- so many messages are sent for a line at most
abbrev pub line_sends : ℕ
line_sends = 139266

-- Before the line of this number all is idle, in a world of which all facts hold, in a run over this volume with at most so many objects. The clerks that
-- run have these names, and made no more calls, and starts since the outset, than there were lines.
pub record IsReady (outset : Outset) (v : Images) (most : ℕ) (names : List ℕ) (number : ℕ) (w : World) : Type 0 where
  pub scene : Scene
  pub stands : IsScene w scene
  pub idle : IsIdle scene
  pub system : System
  pub facts : OfRun v most system
  pub in_system : Stands w system
  pub order : IsInOrder scene.server.durable
  pub counted : IsCounted outset (number - 1) w scene
  -- the calls that lines show are of earlier lines
  pub shown : EachLine (IsOf (λ l c cl. l < number)) w.shown
  pub sent : w.sent ≤ line_sends * number
  pub calls : sum calls_of scene.clerks ≤ number - 1
  pub named : (c : ℕ) (k : Clerk) → at c scene.clerks ≡ Some k → T (member c names)
  pub boots : (c : ℕ) → boot c w < outset.boots c + number

-- So is each world that is opened on a well-formed state, with the counters that it has.
abbrev pub OpeningsAreReady : Type 0
OpeningsAreReady = (d : Durable) → WellFormed d → length d.sessions ≡ 16 → images d.volume 0 ≡ Gone → (names : List ℕ) (w : World) → open_world d ≡ Ok w → IsReady (outset_of w) (images d.volume) d.max_objects names 1 w

-- and on a disk that was formatted
abbrev pub NewDisksAreReady : Type 0
NewDisksAreReady = (most : ℕ) → WellFormed (formatted most) → (names : List ℕ) (w : World) → open_world (formatted most) ≡ Ok w → IsReady new_outset (images (formatted most).volume) most names 1 w
