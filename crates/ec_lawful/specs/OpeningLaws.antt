-- What is proved of the opening of a disk, as contracts name it.
use Rattle.std.specs.Prelude.{◌≡◌, length, Ok}
use Rattle.ec_volume.specs.Volume.{images}
use Rattle.ec_volume.specs.declared.image.Image.TheVariants.{Gone}
use Rattle.ec_durable.specs.WellFormed.{WellFormed}
use Rattle.ec_durable.specs.declared.state.Durable.{Durable}
use Rattle.ec_protocol.specs.World.{open_world}
use Rattle.ec_protocol.specs.declared.world.World.{World}
use Rattle.ec_coherence.specs.Steps.{Stands}
use Rattle.ec_lawful.specs.Olds.{opened_in}
use Rattle.ec_lawful.specs.Whole.{Whole}

-- Of a well-formed state with a slot for each clerk, and without an object of the id 0, that opens: all facts hold together, and the world stands in
-- the system.
abbrev pub OpensWhole : Type 0
OpensWhole = (d : Durable) → WellFormed d → length d.sessions ≡ 16 → images d.volume 0 ≡ Gone → (w : World) → open_world d ≡ Ok w → Whole (opened_in d) × Stands w (opened_in d)
