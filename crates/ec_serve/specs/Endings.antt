-- How a server ends, by what ended it.
use Rattle.std.specs.Prelude.{Bool, true, false, Option, Some, None}
use Rattle.ec_server.specs.declared.fault.ServerFault.{ServerFault}
use Rattle.ec_server.specs.declared.fault.ServerFault.TheVariants as server
use Rattle.ec_store.specs.declared.fault.StoreFault.{StoreFault}
use Rattle.ec_store.specs.declared.fault.StoreFault.TheVariants as store
use Rattle.ec_servernode.specs.declared.step.Halt.{Halt}
use Rattle.ec_servernode.specs.declared.step.Halt.TheVariants as halt
use Rattle.ec_serve.specs.declared.ending.Ending.{Ending}
use Rattle.ec_serve.specs.declared.ending.Ending.TheVariants as ending
use Rattle.ec_serve.specs.declared.ending.Tended.{Tended}
use Rattle.ec_serve.specs.declared.ending.Tended.TheVariants as tended

abbrev pub unopened : StoreFault → Ending
unopened (store.BadDisk place) = ending.BadDisk place
unopened store.DiskFailed = ending.DiskFailed
unopened store.DiskStopped = ending.NoMemory
unopened (store.Refused f) = ending.NoMemory
unopened store.NoMemory = ending.NoMemory

abbrev pub unstarted : ServerFault → Ending
unstarted server.DiskFailed = ending.DiskFailed
unstarted server.DiskStopped = ending.NoMemory
unstarted (server.Spent n) = ending.Spent n
unstarted server.NoMemory = ending.NoMemory

abbrev pub of_tended : Tended → Ending
of_tended tended.Done = ending.Done
of_tended tended.NetFailed = ending.NetFailed
of_tended tended.NotStarted = ending.NotStarted
of_tended tended.Cut = ending.NoMemory

abbrev pub ending_of : Option Halt → Bool → Tended → Ending
ending_of (Some halt.DiskFailed) back t = ending.DiskFailed
ending_of (Some halt.DiskStopped) back t = ending.NoMemory
ending_of (Some (halt.Spent n)) back t = ending.Spent n
ending_of None true t = of_tended t
ending_of None false t = ending.NoMemory
