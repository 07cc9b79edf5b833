-- What functions that read messages answer.
use Rattle.std.specs.Prelude.{◌≡◌, Result, Ok, Err}
use Rattle.ec_wire.specs.declared.fault.WireFault.{WireFault}
use Rattle.ec_wire.specs.declared.fault.WireFault.TheVariants as fault
use Rattle.ec_wire.specs.declared.msg.Msg.{Msg}

-- what a function answered is this, unless memory ran out
abbrev pub ReadsMessage : Result Msg WireFault → Result Msg WireFault → Type 0
ReadsMessage (Err fault.NoMemory) r = Unit {0}
ReadsMessage (Err (fault.Short p)) r = r ≡ Err (fault.Short p)
ReadsMessage (Err (fault.Kind b)) r = r ≡ Err (fault.Kind b)
ReadsMessage (Err (fault.Field p)) r = r ≡ Err (fault.Field p)
ReadsMessage (Err (fault.Trailing p)) r = r ≡ Err (fault.Trailing p)
ReadsMessage (Ok m) r = r ≡ Ok m
