-- What holds of each world that is reached, as contracts name it.
use Rattle.std.specs.Prelude.{◌≡◌, ℕ, T, List, length, take, Ok}
use Rattle.std.specs.List.{list_all}
use Rattle.ec_volume.specs.Volume.{images}
use Rattle.ec_volume.specs.declared.image.Image.TheVariants.{Gone}
use Rattle.ec_history.specs.History.{Base}
use Rattle.ec_history.specs.Legal.{IsLegal}
use Rattle.ec_history.specs.Placing.{place}
use Rattle.ec_history.specs.declared.shown.Shown.{Shown}
use Rattle.ec_history.specs.OfLaws.Bases.{IsBase, is_bounded_entry}
use Rattle.ec_durable.specs.WellFormed.{WellFormed}
use Rattle.ec_durable.specs.declared.state.Durable.{Durable}
use Rattle.ec_protocol.specs.Drill.{Fates, Read, bound, run_from}
use Rattle.ec_protocol.specs.World.{open_world}
use Rattle.ec_protocol.specs.declared.world.World.{World}
use Rattle.ec_lawful.specs.DrillRuns.{AreFit}
use Rattle.ec_lawful.specs.Coherent.{AreFitting}
use Rattle.ec_lawful.specs.Reached.{IsInOrder}
use Rattle.ec_lawful.specs.ReachedWorlds.{Reached}

-- over a well-formed state with a slot for each clerk, and without an object of the id 0
abbrev pub ReachedAreInOrder : Type 0
ReachedAreInOrder = (d : Durable) → WellFormed d → length d.sessions ≡ 16 → images d.volume 0 ≡ Gone → (w : World) → Reached d w → IsInOrder (images d.volume) d.max_objects w

-- and behind each of the first lines of a script whose calls are within their bounds, whatever the disk does
abbrev pub RunsStayInOrder : Type 0
RunsStayInOrder = (d : Durable) → WellFormed d → length d.sessions ≡ 16 → images d.volume 0 ≡ Gone → (w : World) → open_world d ≡ Ok w → (ls : List Read) (fs : List Fates) → AreFit ls
    → (n : ℕ) → IsInOrder (images d.volume) d.max_objects (run_from (bound ls) 1 (take n ls) fs w).world

-- where each place has a fresh id of its own, and calls are within their bounds
abbrev pub LegalAreFitting : Type 0
LegalAreFitting = (base : Base) (most : ℕ) (ss : List Shown) → IsBase base → T (list_all (λ e. is_bounded_entry e.1) (place ss)) → IsLegal base most (place ss) → AreFitting base (place ss)
