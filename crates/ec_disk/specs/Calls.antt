-- Calls of a disk: what each was given, and what came of it.
use Rattle.std.specs.Prelude.{ℕ, List}
use Rattle.ec_disk.specs.declared.disk.DiskAnswer.{DiskAnswer}
use Rattle.ec_disk.specs.declared.disk.DiskLen.{DiskLen}
use Rattle.ec_disk.specs.declared.disk.Choice.{Choice}

pub data Call : Type 0 where
  -- a read at this place, by the bytes that stood in the buffer before and behind it
  Read : ℕ → List ℕ → DiskAnswer → List ℕ → Call
  -- a write of these bytes at this place
  Write : ℕ → List ℕ → DiskAnswer → Call
  Sync : DiskAnswer → Call
  Len : DiskLen → Call

-- what tries out a crash
pub data Trial : Type 0 where
  Arm : ℕ → Trial
  Disarm : Trial
  PowerCut : Choice → DiskAnswer → Trial
