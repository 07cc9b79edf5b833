-- How often a mirror was called, failed and stopped.
use Rattle.std.specs.Prelude.{◌≡◌, Bool, true, None}
use Rattle.ec_base.specs.Outside.{one_more}
use Rattle.ec_disk.specs.Calls as call
use Rattle.ec_disk.specs.Disk.{Counts}
use Rattle.ec_disk.specs.Effects.{Counted, CountsDown}
use Rattle.ec_disk.specs.declared.disk.DiskAnswer.{DiskAnswer}
use Rattle.ec_disk.specs.declared.disk.DiskAnswer.TheVariants as said
use Rattle.ec_disk.specs.declared.disk.DiskLen.TheVariants as len
use Rattle.ec_mirror.specs.declared.tally.Tally.{Tally}

abbrev pub counts_of : Tally → Counts
counts_of t = record { calls = t.calls; faults = t.faults; stops = t.stops; armed = t.armed }

-- behind an answer: a failure counts
abbrev pub told : DiskAnswer → Tally → Tally
told said.Done t = t
told said.Failed t = record t { faults = one_more t.faults }
told said.Stopped t = t
told said.NoMemory t = t

-- behind a failure that may be that of one disk
abbrev pub told_alone : Bool → Tally → Tally
told_alone alone t = record t { faults = one_more t.faults; failed_alone = alone }

-- behind a power cut: it ends an arm where it's done
abbrev pub behind_cut : DiskAnswer → Bool → Tally → Tally
behind_cut said.Done alone t = record t { armed = None }
behind_cut said.Failed alone t = told_alone alone t
behind_cut said.Stopped alone t = t
behind_cut said.NoMemory alone t = t

-- a read, write or sync that answers so
pub record TallyTurned (answer : DiskAnswer) (old new : Tally) : Type 0 where
  pub counts : Counted (counts_of old) (counts_of new) (answer ≡ said.Failed) (answer ≡ said.Stopped)
  pub armed : CountsDown old.armed new.armed (answer ≡ said.Done) (answer ≡ said.Stopped)
  pub call : new.calls ≡ one_more old.calls
  pub alone : new.failed_alone ≡ old.failed_alone

-- Reads, writes and syncs fail only with both disks.
abbrev pub FailsWithBoth : call.Call → Tally → Tally → Type 0
FailsWithBoth (call.Read at before answer behind) old new = new.failed_alone ≡ old.failed_alone
FailsWithBoth (call.Write at piece answer) old new = new.failed_alone ≡ old.failed_alone
FailsWithBoth (call.Sync answer) old new = new.failed_alone ≡ old.failed_alone
FailsWithBoth (call.Len answer) old new = (answer ≡ len.Failed → ⊥) → new.failed_alone ≡ old.failed_alone

-- A read, a write or a sync that is done leaves the mirror sound.
abbrev pub LeavesSound : call.Call → Bool → Bool → Type 0
LeavesSound (call.Read at before answer behind) was_sound is_sound = answer ≡ said.Done → is_sound ≡ true
LeavesSound (call.Write at piece answer) was_sound is_sound = answer ≡ said.Done → is_sound ≡ true
LeavesSound (call.Sync answer) was_sound is_sound = answer ≡ said.Done → is_sound ≡ true
LeavesSound (call.Len answer) was_sound is_sound = is_sound ≡ was_sound

-- so does a power cut
abbrev pub TriesSound : call.Trial → Bool → Bool → Type 0
TriesSound (call.Arm calls) was_sound is_sound = is_sound ≡ was_sound
TriesSound call.Disarm was_sound is_sound = is_sound ≡ was_sound
TriesSound (call.PowerCut choice answer) was_sound is_sound = answer ≡ said.Done → is_sound ≡ true

-- a trial fails with one of them only where it answers so
abbrev pub TriesWithBoth : call.Trial → Tally → Tally → Type 0
TriesWithBoth (call.Arm calls) old new = new.failed_alone ≡ old.failed_alone
TriesWithBoth call.Disarm old new = new.failed_alone ≡ old.failed_alone
TriesWithBoth (call.PowerCut choice answer) old new = (answer ≡ said.Failed → ⊥) → new.failed_alone ≡ old.failed_alone
