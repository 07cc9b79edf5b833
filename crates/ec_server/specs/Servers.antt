-- What calls make of a server.
use Rattle.std.specs.Prelude.{◌≡◌, Bool, true, false, None, Some, Result, Ok, Err}
use Rattle.ec_durable.specs.declared.state.Durable.{Durable}
use Rattle.ec_protocol.specs.Server.{Serving}
use Rattle.ec_protocol.specs.declared.server.Served.{Served}
use Rattle.ec_protocol.specs.declared.server.Server.{Server as State}
use Rattle.ec_server.specs.Clerks.{HaveClerks}
use Rattle.ec_server.specs.Steps.{server}
use Rattle.ec_server.specs.declared.server.Server.{Server}
use Rattle.ec_server.specs.declared.fault.ServerFault.{ServerFault}
use Rattle.ec_server.specs.declared.fault.ServerFault.TheVariants.{DiskFailed, DiskStopped, Spent, NoMemory}

-- the machine's server
abbrev pub standing : Durable → Server → State
standing d s = server d s.core

-- The keeper is the server's own: unless the server is down, each session with a token or a want is open in a clerk's slot. Each call leaves it so.
abbrev pub StandsOn : Durable → Server → Type 0
StandsOn d s = s.is_down ≡ false → HaveClerks (standing d s)

-- The machine's step is what was done, and spends nothing.
abbrev pub Does : Serving → Durable → Server → Served → Type 0
Does done d s served = done ≡ record { server = standing d s; sent = served.sent; rec = served.rec; spent = None }

-- A spent counter, by which a server isn't started, is the machine's, and leaves the durable state as it was.
abbrev pub Unstarted : ServerFault → Serving → Durable → Durable → Type 0
Unstarted (Spent n) done old new = (done.spent ≡ Some n) × (new ≡ old)
Unstarted DiskFailed done old new = Unit {0}
Unstarted DiskStopped done old new = Unit {0}
Unstarted NoMemory done old new = Unit {0}

-- After any fault but a spent counter a server is down, and then it answers want of memory alone.
abbrev pub GoesDown : Result Served ServerFault → Bool → Bool → Type 0
GoesDown (Ok served) old new = (old ≡ false) × (new ≡ false)
GoesDown (Err (Spent n)) old new = (old ≡ false) × (new ≡ false)
GoesDown (Err DiskFailed) old new = (old ≡ false) × (new ≡ true)
GoesDown (Err DiskStopped) old new = (old ≡ false) × (new ≡ true)
GoesDown (Err NoMemory) old new = new ≡ true
