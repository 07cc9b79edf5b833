-- What a disk in memory keeps, and what its calls add.
use Rattle.std.specs.Prelude.{◌≡◌, ◌⊎◌, ℕ, List, [], ◌∷◌, ◌++◌, length}
use Rattle.ec_disk.specs.Calls as call
use Rattle.ec_disk.specs.Calls.{Call, Trial}
use Rattle.ec_disk.specs.Disk.{Counts}
use Rattle.ec_disk.specs.Past.{shot_of}
use Rattle.ec_disk.specs.Turns.{counts_of, next_turn, next_len_turn, next_call}
use Rattle.ec_disk.specs.declared.disk.DiskAnswer.{DiskAnswer}
use Rattle.ec_disk.specs.declared.disk.DiskAnswer.TheVariants as answer
use Rattle.ec_disk.specs.declared.disk.Choice.{Choice}
use Rattle.ec_disk.specs.declared.disk.DiskLen.{DiskLen}
use Rattle.ec_disk.specs.declared.disk.DiskLen.TheVariants as len
use Rattle.ec_disk.specs.declared.turns.Turn.{Turn}
use Rattle.ec_disk.specs.declared.turns.Turn.TheVariants as turn
use Rattle.ec_disk.specs.declared.memory.Step.{Step}
use Rattle.ec_disk.specs.declared.memory.Step.TheVariants as step
use Rattle.ec_disk.specs.declared.memory.MemDisk.{MemDisk}

-- the writes, syncs and power cuts of a disk
abbrev pub steps_of : MemDisk → List Step
steps_of disk = disk.log.items

abbrev pub counts_of_disk : MemDisk → Counts
counts_of_disk disk = counts_of disk.turns

abbrev pub turn_answer : Turn → DiskAnswer
turn_answer turn.Goes = answer.Done
turn_answer turn.Fails = answer.Failed
turn_answer turn.Stops = answer.Stopped

-- what the next read, write or sync answers, where memory suffices
abbrev pub next_answer : MemDisk → DiskAnswer
next_answer disk = turn_answer (next_turn disk.turns)

abbrev pub len_of : Turn → ℕ → DiskLen
len_of turn.Goes bytes = len.Len bytes
len_of turn.Fails bytes = len.Failed
len_of turn.Stops bytes = len.Stopped

-- what the next question for the length answers
abbrev pub next_len : MemDisk → DiskLen
next_len disk = len_of (next_len_turn disk.turns) (length (shot_of (steps_of disk)).now)

-- the numbers of the calls that fail
abbrev pub fails_of : MemDisk → List ℕ
fails_of disk = disk.turns.fails.items

-- the number of calls so far
abbrev pub calls_of : MemDisk → ℕ
calls_of disk = disk.turns.calls

-- one call later
pub record NextCall (old new : MemDisk) : Type 0 where
  pub fails : fails_of new ≡ fails_of old
  pub calls : calls_of new ≡ next_call old.turns

-- no call of `Disk` since
pub record SameCall (old new : MemDisk) : Type 0 where
  pub fails : fails_of new ≡ fails_of old
  pub calls : calls_of new ≡ calls_of old

-- A write that stops is carried out. One that fails, or for which there is no memory, isn't: a crash later doesn't find its range written.
abbrev pub with_write : DiskAnswer → ℕ → List ℕ → List Step → List Step
with_write answer.Done at bytes steps = steps ++ step.Write at bytes ∷ []
with_write answer.Stopped at bytes steps = steps ++ step.Write at bytes ∷ []
with_write answer.Failed at bytes steps = steps
with_write answer.NoMemory at bytes steps = steps

-- a sync or a power cut is carried out only where it is done
abbrev pub with_step : DiskAnswer → Step → List Step → List Step
with_step answer.Done next steps = steps ++ next ∷ []
with_step answer.Stopped next steps = steps
with_step answer.Failed next steps = steps
with_step answer.NoMemory next steps = steps

-- one call, which adds its step
pub record Adds (old : MemDisk) (says : Type 0) (steps : List Step) (new : MemDisk) : Type 0 where
  pub answers : says
  pub next : NextCall old new
  pub steps_are : steps_of new ≡ steps

-- what a call does: it answers as its turn says, or, where it needs memory, that there is none
abbrev pub DoesCall : MemDisk → Call → MemDisk → Type 0
DoesCall old (call.Read at before said after) new = Adds old (said ≡ next_answer old) (steps_of old) new
DoesCall old (call.Write at piece said) new = Adds old ((said ≡ answer.NoMemory) ⊎ (said ≡ next_answer old)) (with_write said at piece (steps_of old)) new
DoesCall old (call.Sync said) new = Adds old ((said ≡ answer.NoMemory) ⊎ (said ≡ next_answer old)) (with_step said step.Sync (steps_of old)) new
DoesCall old (call.Len said) new = Adds old (said ≡ next_len old) (steps_of old) new

-- a power cut is done, or there is no memory for it and nothing changes
pub record CutBy (choice : Choice) (old : MemDisk) (said : DiskAnswer) (new : MemDisk) : Type 0 where
  pub answers : (said ≡ answer.NoMemory) ⊎ (said ≡ answer.Done)
  pub same : SameCall old new
  pub steps_are : steps_of new ≡ with_step said (step.Cut choice) (steps_of old)
  pub unchanged : said ≡ answer.NoMemory → counts_of_disk new ≡ counts_of_disk old

-- what a trial of a crash does
abbrev pub Tries : MemDisk → Trial → MemDisk → Type 0
Tries old (call.Arm calls) new = SameCall old new × (steps_of new ≡ steps_of old)
Tries old call.Disarm new = SameCall old new × (steps_of new ≡ steps_of old)
Tries old (call.PowerCut choice said) new = CutBy choice old said new
