-- What a drill promises of the lines that it wrote: they stand in one legal history of one uncached volume. It's told by the lines, the script and the
-- volumes of the disk alone.
use Rattle.std.specs.Prelude.{◌≡◌, ℕ, List, take, Ok}
use Rattle.ec_volume.specs.Volume.{images}
use Rattle.ec_durable.specs.declared.state.Durable.{Durable}
use Rattle.ec_protocol.specs.Drill.{Read, Fates, bound, run_from}
use Rattle.ec_protocol.specs.World.{open_world}
use Rattle.ec_protocol.specs.declared.world.World.{World}
use Rattle.ec_lawful.specs.Reached.{IsInOrder}
use Rattle.ec_drill.specs.Drill.{end_of}

-- On the way the world of the run was in order behind each of the first lines, and so between any two, and it is behind the restart at the end: coherent, with
-- lawful lines, and with what is kept fitting.
abbrev pub AreInOrder : List Read → List Fates → Durable → Type 0
AreInOrder reads fates state =
    (w : World) → open_world state ≡ Ok w
    → ((n : ℕ) → IsInOrder (images state.volume) state.max_objects (run_from (bound reads) 1 (take n reads) fates w).world) × IsInOrder (images state.volume) state.max_objects (end_of reads fates w)
