-- What a keeper that marks its records makes of one.
use Rattle.std.specs.Prelude.{◌≡◌, ◌⊎◌, List, length, Option}
use Rattle.ec_base.specs.Outside.{Rose}
use Rattle.ec_disk.specs.Disk.{Counts}
use Rattle.ec_disk.specs.Effects.{Counted}
use Rattle.ec_durable.specs.declared.state.Durable.{Durable}
use Rattle.ec_durable.specs.declared.record.Record.{Record}
use Rattle.ec_marking.specs.Marks.{RecordIsMarked}
use Rattle.ec_marking.specs.declared.marks.Mark.{Mark}

-- The record was committed, and has its mark.
pub record HasMarked (mark : Option Mark) (r : Record) (d : Durable) (before : List Record) (old new : Counts) : Type 0 where
  pub marked : RecordIsMarked mark r d before
  pub counted : Counted old new ⊥ ⊥

-- The disk stopped in the record, which has its mark.
pub record HasStopped (Broke Stops : Type 0) (mark : Option Mark) (r : Record) (d : Durable) (before : List Record) (old new : Counts) : Type 0 where
  pub broke : Broke
  pub stops : Stops
  pub marked : RecordIsMarked mark r d before
  pub counted : Counted old new ⊥ (Unit {0})

-- Nothing was done, or the record may have been committed. It isn't marked, and no record more was stopped in.
pub record IsUnmarked (Same Broke : Type 0) (stopped more : List Record) (old new : Counts) : Type 0 where
  pub broke : Same ⊎ Broke
  pub stopped_are : length more ≡ length stopped
  pub counted : Counted old new ⊥ ⊥

abbrev pub MayHaveMarked : Type 0 → Type 0 → Type 0 → List Record → List Record → Option Mark → Record → Durable → List Record → Counts → Counts → Type 0
MayHaveMarked Same Broke Stops stopped more mark r d before old new = IsUnmarked Same Broke stopped more old new ⊎ HasStopped Broke Stops mark r d before old new
