-- What faults of a journal and refusals of records become in a store.
use Rattle.std.specs.Prelude.{Result, Ok, Err}
use Rattle.ec_journal.specs.declared.fault.JournalFault.{JournalFault}
use Rattle.ec_journal.specs.declared.fault.JournalFault.TheVariants as journal
use Rattle.ec_durable.specs.declared.record.RecordFault.{RecordFault}
use Rattle.ec_durable.specs.declared.record.RecordFault.TheVariants as record_fault
use Rattle.ec_store.specs.declared.fault.StoreFault.{StoreFault}
use Rattle.ec_store.specs.declared.fault.StoreFault.TheVariants as fault

-- a fault of the disk, or want of memory
abbrev pub IsOfDisk : JournalFault → Type 0
IsOfDisk (journal.Bad place) = ⊥
IsOfDisk (journal.NoRoom need free) = ⊥
IsOfDisk journal.DiskFailed = Unit {0}
IsOfDisk journal.DiskStopped = Unit {0}
IsOfDisk journal.NoMemory = Unit {0}

abbrev pub refusal_of : RecordFault → StoreFault
refusal_of record_fault.NoMemory = fault.NoMemory
refusal_of f = fault.Refused f

abbrev pub fault_of : JournalFault → StoreFault
fault_of (journal.Bad place) = fault.NoMemory
fault_of (journal.NoRoom need free) = fault.NoMemory
fault_of journal.DiskFailed = fault.DiskFailed
fault_of journal.DiskStopped = fault.DiskStopped
fault_of journal.NoMemory = fault.NoMemory

-- an error is the disk's, or want of memory
abbrev pub IsDiskFault : Result (Unit {0}) StoreFault → Type 0
IsDiskFault (Ok u) = Unit {0}
IsDiskFault (Err (fault.BadDisk place)) = ⊥
IsDiskFault (Err fault.DiskFailed) = Unit {0}
IsDiskFault (Err fault.DiskStopped) = Unit {0}
IsDiskFault (Err (fault.Refused f)) = ⊥
IsDiskFault (Err fault.NoMemory) = Unit {0}
