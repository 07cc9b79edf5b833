-- What a fault of a record's code, or of its step, shows.
use Rattle.std.proofs.Common.{◌≡◌, ℕ, List, Result, Ok, Err, refl}
use Rattle.ec_codes.specs.declared.fault.CodeFault.{CodeFault}
use Rattle.ec_codes.specs.declared.fault.CodeFault.TheVariants as code
use Rattle.ec_durable.specs.declared.state.Durable.{Durable}
use Rattle.ec_durable.specs.declared.record.Record.{Record}
use Rattle.ec_durable.specs.declared.record.RecordFault.{RecordFault}
use Rattle.ec_durable.specs.declared.record.RecordFault.TheVariants as refusal
use Rattle.ec_durable.specs.Codes.{said}
use Rattle.ec_durable.specs.SoundRecords.{ReadsRecord}
use Rattle.ec_durable.specs.Durable.{step}
use Rattle.ec_durable.specs.Steps.{RefusesRecord}
use Rattle.ec_stands.specs.Stands.{IsRefused}
use Rattle.ec_stands.specs.Stands.{no_record, no_step}

answers_fault : (f : CodeFault) (r : Result Record CodeFault) → (f ≡ code.NoMemory → ⊥) → ReadsRecord (Err f) r → r ≡ Err f
answers_fault code.NoMemory r other h = absurd (other refl)
answers_fault (code.Short p) r other h = h
answers_fault (code.Field p) r other h = h

refuses_fault : (f : RecordFault) (r : Result Durable RecordFault) → (f ≡ refusal.NoMemory → ⊥) → RefusesRecord f r → r ≡ Err f
refuses_fault refusal.NoMemory r other h = absurd (other refl)
refuses_fault refusal.NoSession r other h = h
refuses_fault (refusal.Done n) r other h = h
refuses_fault (refusal.Beyond n) r other h = h
refuses_fault (refusal.Unfit n o) r other h = h
refuses_fault (refusal.NotReserved n o) r other h = h
refuses_fault refusal.BadAge r other h = h
refuses_fault refusal.BadNumber r other h = h
refuses_fault (refusal.NoRoom m n) r other h = h

pub no_code : (body : List ℕ) (d : Durable) (f : CodeFault) → (f ≡ code.NoMemory → ⊥) → ReadsRecord (Err f) (said body) → IsRefused body d
no_code body d f other h = no_record f (answers_fault f (said body) other h)

pub not_stepped : (body : List ℕ) (d : Durable) (r : Record) (f : RecordFault) → said body ≡ Ok r → (f ≡ refusal.NoMemory → ⊥) → RefusesRecord f (step r d) → IsRefused body d
not_stepped body d r f said_is other h = no_step r f said_is (refuses_fault f (step r d) other h)
