-- The room that a drill's lines tell.
use Rattle.std.specs.Prelude.{◌≡◌, ℕ, List, length}
use Rattle.ec_base.specs.Limits.{clerk_count}
use Rattle.ec_volume.specs.Volume.{images}
use Rattle.ec_volume.specs.declared.image.Image.TheVariants.{Gone}
use Rattle.ec_history.specs.Placing.{EachLine}
use Rattle.ec_history.specs.declared.shown.Shown.{Shown}
use Rattle.ec_durable.specs.WellFormed.{WellFormed}
use Rattle.ec_durable.specs.declared.state.Durable.{Durable}
use Rattle.ec_protocol.specs.Drill.{Fates, Read, drill}
use Rattle.ec_lawful.specs.DrillRuns.{AreFit}
use Rattle.ec_drill.specs.OfPromise.OfRooms.Rooms.{IsWithinRoom}

-- each line is
abbrev pub AreWithinRoom : ℕ → List Shown → Type 0
AreWithinRoom most shown = EachLine (IsWithinRoom most) shown

-- So are all lines of the machine's drills, on a disk that stands for a well-formed state with a slot for each clerk, whose objects have ids from 1.
abbrev pub DrillsTellRoom : Type 0
DrillsTellRoom = (reads : List Read) (fates : List Fates) (d : Durable) → WellFormed d → length d.sessions ≡ clerk_count → images d.volume 0 ≡ Gone → AreFit reads → AreWithinRoom d.max_objects (drill reads fates d).0
