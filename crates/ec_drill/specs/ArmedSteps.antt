-- How the disk is armed where an event's step begins.
use Rattle.std.specs.Prelude.{◌≡◌, if◌then◌else◌, ℕ, Bool, true, false, Option, None, Some}
use Rattle.ec_disk.specs.Disk.{Counts}
use Rattle.ec_world.specs.StepEnds.{armed_by}
use Rattle.ec_protocol.specs.declared.world.Event.{Event}
use Rattle.ec_protocol.specs.declared.world.Event.TheVariants as event

-- Of the private steps of a run.

-- how the disk is armed where the step of an event begins
abbrev pub armed_for : Option Event → Option ℕ → Option ℕ
armed_for None armed = armed
armed_for (Some e) armed = armed_by e armed

abbrev pub is_arming : Event → Bool
is_arming (event.Arm n choice) = true
is_arming _ = false

abbrev pub arms : Option Event → Bool
arms None = false
arms (Some e) = is_arming e

-- a disk that may not stop isn't armed, and the lines ahead don't arm it
abbrev pub IsCalm : Bool → Bool → Counts → Type 0
IsCalm may_stop arming c = may_stop ≡ false → (arming ≡ false) × (c.armed ≡ None)

-- its counts, in which there is no stop then
abbrev pub heard : Bool → Counts → Counts
heard may_stop c = record c { stops = if may_stop then c.stops else 0 }
