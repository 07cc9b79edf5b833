-- Scripts without faults whose lines settle.
use Rattle.std.specs.Prelude.{◌≡◌, ◌+◌, ℕ, List, [], ◌∷◌, length, None, Ok, ⊤}
use Rattle.ec_history.specs.History.{Each}
use Rattle.ec_history.specs.Placing.{EachLine}
use Rattle.ec_history.specs.declared.entry.Answer.TheVariants as answer
use Rattle.ec_history.specs.declared.shown.Shown.{Shown}
use Rattle.ec_history.specs.declared.shown.Shown.TheVariants as show
use Rattle.ec_volume.specs.Volume.{images}
use Rattle.ec_volume.specs.declared.image.Image.TheVariants.{Gone}
use Rattle.ec_durable.specs.WellFormed.{WellFormed}
use Rattle.ec_durable.specs.declared.state.Durable.{Durable}
use Rattle.ec_protocol.specs.Drill.{Fates, Read, bound, drill, line_happens, reads, settle, unfit}
use Rattle.ec_protocol.specs.World.{forget, open_world, runs}
use Rattle.ec_protocol.specs.declared.world.World.{World}
use Rattle.ec_lawful.specs.Drills.{lines_in}
use Rattle.ec_lawful.specs.DrillRuns.{AreFit}
use Rattle.ec_quiet.specs.Quiet.{IsIdle}
use Rattle.ec_quiet.specs.Scenes.{IsScene, Scene}
use Rattle.ec_quiet.specs.OfDeliveries.Runs.{AllRun, HasSettled}
use Rattle.ec_complete.specs.Complete.{IsFaultlessRead, IsComplete}

-- Each line from this number on meets no fault in its first step, and settles within so many deliveries.
abbrev pub EachSettles : ℕ → ℕ → List Read → World → Type 0
EachSettles k number [] w = ⊤
EachSettles k number (unfit column ∷ ls) w = ⊥
EachSettles k number (reads l column ∷ ls) w =
    ((line_happens runs number l w).fault ≡ None) × HasSettled k (line_happens runs number l w) (settle k [] (line_happens runs number l w)) × EachSettles k (number + 1) ls (forget (settle k [] (line_happens runs number l w)).world)

-- no call is refused for want of room
abbrev pub HasRoom : Shown → Type 0
HasRoom (show.Answered l c cl (answer.NoRoom live reserved) op) = ⊥
HasRoom _ = ⊤

-- So is a script without faults whose lines settle, while no call is refused for want of room, on a disk that stands for a well-formed state without sessions
-- under way.
abbrev pub RunsThatSettleArePlain : Type 0
RunsThatSettleArePlain = (d : Durable) → WellFormed d → length d.sessions ≡ 16 → images d.volume 0 ≡ Gone → (w : World) (sc : Scene) → open_world d ≡ Ok w → IsScene w sc → IsIdle sc
    → (ls : List Read) (fs : List Fates) → AreFit ls → Each IsFaultlessRead ls → Each AllRun fs → EachSettles (bound ls) 1 ls w → EachLine HasRoom (drill ls fs d).0
    → IsComplete (images d.volume) (lines_in ls) (drill ls fs d).0 (drill ls fs d).1
