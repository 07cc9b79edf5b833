-- What whole runs show, as contracts name it.
use Rattle.std.specs.Prelude.{◌≡◌, ℕ, List, length, Ok}
use Rattle.ec_volume.specs.Volume.{images}
use Rattle.ec_volume.specs.declared.image.Image.TheVariants.{Gone}
use Rattle.ec_durable.specs.WellFormed.{WellFormed}
use Rattle.ec_durable.specs.declared.state.Durable.{Durable}
use Rattle.ec_protocol.specs.Drill.{Fates, Read, bound, close, run_from}
use Rattle.ec_protocol.specs.World.{open_world}
use Rattle.ec_protocol.specs.declared.world.World.{World}
use Rattle.ec_lawful.specs.Headline.{IsGreatest}
use Rattle.ec_lawful.specs.DrillRuns.{AreFit}
use Rattle.ec_lawful.specs.Runs.{RunShows}

-- Each run of a script, over any well-formed state with a slot for each clerk and no object of the id 0, whatever the disk does: where the calls are within
-- their bounds, its lines are lawful, with places above the greatest id of its volume as the ids of new objects.
abbrev pub RunsShow : Type 0
RunsShow = (d : Durable) → WellFormed d → length d.sessions ≡ 16 → images d.volume 0 ≡ Gone → (w : World) → open_world d ≡ Ok w → (ls : List Read) (fs : List Fates) → AreFit ls
    → (top : ℕ) → IsGreatest (images d.volume) top → let ran = run_from (bound ls) 1 ls fs w in RunShows (images d.volume) top d.max_objects ls (close ran.ending ran)
