-- How a drill over a plain script ends on a new disk, whatever its status.
use Rattle.std.specs.Prelude.{ℕ, ⊤}
use Rattle.ec_volume.specs.Volume.{images}
use Rattle.ec_lawful.specs.Drills.{lines_in}
use Rattle.ec_complete.specs.Complete.{IsComplete}
use Rattle.ec_drill.specs.Drill.{Outside, Drilled}
use Rattle.ec_drill.specs.declared.status.Status.{Status}
use Rattle.ec_drill.specs.declared.status.Status.TheVariants as status
use Rattle.ec_drill.specs.OfPromise.LawfulEnds.{HasNewDisk}
use Rattle.ec_drill.specs.OfPromise.Completes.{GivesPlainScript}

-- It ended well: no line says that messages didn't settle, and its answers are those of one plain volume to all calls of the script, so that none waits. Else the
-- source, the sink or the disk failed, or there was no memory.
abbrev pub EndsPlainly : (most : ℕ) (end : Status) (w : Outside) → Drilled most end w → Type 0
EndsPlainly most status.Done w d = ∥ IsComplete (images d.state.volume) (lines_in d.reads) d.shown 0 ∥₁
EndsPlainly most status.SourceFault w d = ⊤
EndsPlainly most status.SinkFault w d = ⊤
EndsPlainly most status.DiskFault w d = ⊤
EndsPlainly most status.NoMemory w d = ⊤
EndsPlainly most _ w d = ⊥

-- So ends a drill over such a script on a disk that tells its content, of which it had none.
abbrev pub Completes : (most : ℕ) (end : Status) (w : Outside) → Drilled most end w → Type 0
Completes most end w d = HasNewDisk w → GivesPlainScript most w.source.bytes → EndsPlainly most end w d
