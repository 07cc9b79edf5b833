-- What a drill left of the volume on its disk, where it ended early: it's told by the lines that the world had shown at a moment of the run.
use Rattle.std.specs.Prelude.{◌≡◌, ◌≤◌, ℕ, List, ◌++◌, length, Result, Ok, Err, ⊤}
use Rattle.ec_base.specs.declared.counter.Counter.{Counter}
use Rattle.ec_disk.specs.Disk.{View}
use Rattle.ec_volume.specs.Volume.{WellFormed, images}
use Rattle.ec_history.specs.Lines.{IsStored}
use Rattle.ec_history.specs.Placing.{EachLine}
use Rattle.ec_history.specs.declared.shown.Shown.{Shown}
use Rattle.ec_history.specs.declared.shown.Shown.TheVariants.{Bad, Limit, Spent}
use Rattle.ec_durable.specs.declared.state.Durable.{Durable}
use Rattle.ec_stands.specs.Stands.{StandsFor}
use Rattle.ec_protocol.specs.Drill.{Fates, Read, bound}
use Rattle.ec_protocol.specs.World.{moving, open_world, show_noted}
use Rattle.ec_protocol.specs.declared.world.World.{World}
use Rattle.ec_lawful.specs.Headline.{FrontsAreLawful, IsGreatest, placed_on}
use Rattle.ec_drill.specs.Drill.{end_of}
use Rattle.ec_drill.specs.Left.{EachLeft, IsOfMoment}

-- the line says why a run ended early
abbrev pub SaysWhy : Shown → Type 0
SaysWhy (Bad number column) = ⊤
SaysWhy (Limit name n) = ⊤
SaysWhy (Spent n) = ⊤
SaysWhy _ = ⊥

-- A record is in doubt where the server stopped with it: it's on the disk, and no line tells it yet. This is the line of it that a restart shows first, if it has one.
abbrev pub in_doubt : World → List Shown
in_doubt w = (show_noted w.unshown (moving w)).shown

-- A world to which a run over this state came, by which these lines had been shown: the volume in store is well formed, and has the shape that the operations
-- leave which durable lines name, in the history's order. The line of a record in doubt counts behind the others.
pub record IsStoredIn (state : Durable) (w : World) (shown : List Shown) : Type 0 where
  -- all but the last one, where that says why the run ended early, are those of the world
  pub last : List Shown
  pub told : shown ≡ w.shown ++ last
  pub at_most_one : length last ≤ 1
  pub why : EachLine SaysWhy last
  -- a new object has the id that is the greatest one of the volume at the beginning plus the place of its call's line
  pub top : ℕ
  pub greatest : IsGreatest (images state.volume) top
  -- each front of these lines is lawful, with that line too
  pub fronts : FrontsAreLawful (placed_on (images state.volume) top) state.max_objects (w.shown ++ in_doubt w)
  pub formed : WellFormed (images w.durable.volume)
  pub stored : IsStored (placed_on (images state.volume) top) (w.shown ++ in_doubt w) (images w.durable.volume)

-- Each image that a crash may leave behind a run that was cut off stands for the durable state at a moment at which that is so, and by which all these lines had
-- been shown. Where the opening would have spent a counter, it's the state that was opened, with its volume as it was.
abbrev pub LeavesStored : View → List Read → List Fates → Durable → Result World Counter → List Shown → Type 0
LeavesStored now all fates d (Err n) written = WellFormed (images d.volume) × EachLeft now (λ image. StandsFor image d)
LeavesStored now all fates d (Ok start) written = EachLeft now (λ image. (is : IsOfMoment (bound all) all fates start written image) × IsStoredIn d is.world is.shown)

-- The same of the end of a run that ended by itself.
abbrev pub EndsStored : List Read → List Fates → Durable → List Shown → Type 0
EndsStored all fates d shown = WellFormed (images d.volume) × ((start : World) → open_world d ≡ Ok start → IsStoredIn d (end_of all fates start) shown)
