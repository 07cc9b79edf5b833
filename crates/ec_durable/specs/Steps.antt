-- Conditions of a step, and what a refusal shows.
use Rattle.std.specs.Prelude.{◌≡◌, ◌<◌, ℕ, T, List, [], ◌∷◌, Option, Some, Result, Err}
use Rattle.ec_volume.specs.Update.{is_sound}
use Rattle.ec_volume.specs.declared.update.Update.{Update}
use Rattle.ec_sessions.specs.Slots.{all_unspent}
use Rattle.ec_durable.specs.declared.state.Durable.{Durable}
use Rattle.ec_durable.specs.declared.record.Record.{Record}
use Rattle.ec_durable.specs.declared.record.Record.TheVariants.{Batch}
use Rattle.ec_durable.specs.declared.record.RecordFault.{RecordFault}
use Rattle.ec_durable.specs.declared.record.RecordFault.TheVariants.{NoMemory, Unfit}
use Rattle.ec_volume.specs.declared.volume.ApplyFault.{ApplyFault}
use Rattle.ec_volume.specs.declared.volume.ApplyFault.TheVariants as apply

-- each update of a batch is sound
abbrev pub AreSoundOps : List (ℕ × Update) → Type 0
AreSoundOps [] = Unit {0}
AreSoundOps (op ∷ ops) = T (is_sound op.1) × AreSoundOps ops

abbrev pub AreSound : Record → Type 0
AreSound (Batch c s b ops) = AreSoundOps ops
AreSound _ = Unit {0}

-- each update of each batch is sound
abbrev pub AreAllSound : List Record → Type 0
AreAllSound [] = Unit {0}
AreAllSound (r ∷ rs) = AreSound r × AreAllSound rs

-- each unspent id is below the next one
abbrev pub AllBelow : ℕ → List ℕ → Type 0
AllBelow n [] = Unit {0}
AllBelow n (o ∷ os) = (o < n) × AllBelow n os

abbrev pub IdsAreBelow : Durable → Type 0
IdsAreBelow d = AllBelow d.next_id (all_unspent d.sessions)

-- a fault is that of the definition, or want of memory
abbrev pub RefusesRecord : RecordFault → Result Durable RecordFault → Type 0
RefusesRecord NoMemory r = Unit {0}
RefusesRecord fault r = r ≡ Err fault

abbrev pub RefusesOp : RecordFault → Option RecordFault → Type 0
RefusesOp NoMemory f = Unit {0}
RefusesOp fault f = f ≡ Some fault

abbrev pub record_fault : ℕ → ApplyFault → RecordFault
record_fault n (apply.Unfit o) = Unfit n o
record_fault n apply.NoMemory = NoMemory
