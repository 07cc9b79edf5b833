-- What comes out of the clerk's steps, which stay folded.
use Rattle.std.specs.Prelude.{◌≡◌, List, None, Some}
use Rattle.ec_log.specs.declared.state.Asked.{Asked}
use Rattle.ec_protocol.specs.declared.clerk.Clerk.{Clerk}
use Rattle.ec_protocol.specs.declared.clerk.Out.{Out}
use Rattle.ec_protocol.specs.declared.clerk.Flushed.{Flushed}
use Rattle.ec_protocol.specs.Flushes as protocol
use Rattle.ec_protocol.specs.Clerk.{Doing}
use Rattle.ec_protocol.specs.declared.clerk.ClerkFault.{ClerkFault}
use Rattle.ec_protocol.specs.declared.clerk.ClerkFault.TheVariants as fault
use Rattle.ec_clerknode.specs.declared.clerk.Refused.{Refused}
use Rattle.ec_clerknode.specs.declared.clerk.Refused.TheVariants as refused

-- what a flush answers
unfoldable pub answer_to : Asked → Clerk → Flushed
answer_to asked c = protocol.flush_answer asked c

-- the step was taken, and these came out
abbrev pub ComesOut : Doing → Clerk → List Out → Type 0
ComesOut d c outs = (d.clerk ≡ c) × (d.outs ≡ outs) × (d.spent ≡ None)

abbrev pub refused_by : ClerkFault → Refused
refused_by (fault.Spent counter) = refused.Spent counter
refused_by fault.NoSuchOp = refused.NoMemory
refused_by fault.NoMemory = refused.NoMemory

-- the step would pass this counter, and the clerk is as before
abbrev pub RefusesStep : Refused → Doing → Clerk → Clerk → Type 0
RefusesStep (refused.Spent counter) d old new = (d.spent ≡ Some counter) × (new ≡ old)
RefusesStep refused.NoMemory d old new = Unit {0}
