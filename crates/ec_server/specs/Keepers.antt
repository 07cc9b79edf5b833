-- What a step makes of its keeper.
use Rattle.std.specs.Prelude.{◌≡◌, ◌⊎◌, ◌+◌, ◌<◌, ◌≤◌, Bool, true, false, Option, None, Some, Ok, length}
use Rattle.ec_base.specs.Limits.{last_counter}
use Rattle.ec_durable.specs.Durable.{step}
use Rattle.ec_durable.specs.declared.state.Durable.{Durable}
use Rattle.ec_durable.specs.declared.record.Record.{Record}
use Rattle.ec_protocol.specs.Server.{Serving}
use Rattle.ec_server.specs.declared.state.Core.{Core}
use Rattle.ec_server.specs.declared.fault.ServerFault.{ServerFault}
use Rattle.ec_server.specs.declared.fault.ServerFault.TheVariants.{DiskFailed, DiskStopped, Spent, NoMemory}

-- The step's record was committed; where it has none, nothing was done.
abbrev pub Did : {K : Type 0} → (K → Record → K → Type 0) → Option Record → K → K → Type 0
Did did None old new = new ≡ old
Did did (Some r) old new = did old r new

-- the record of the machine's step may have been committed
abbrev pub Broke : {K : Type 0} → (K → Record → K → Type 0) → Serving → K → K → Type 0
Broke broke done old new = (r : Record) × (done.rec ≡ Some r) × broke old r new

-- nothing was done, or the record of the machine's step, which is then of this kind, was committed, or may have been
abbrev pub MayHave : {K : Type 0} → (Serving → Type 0) → (did broke : K → Record → K → Type 0) → Serving → K → K → Type 0
MayHave Kind did broke done old new = (new ≡ old) ⊎ (Kind done × ((r : Record) × (done.rec ≡ Some r) × (did old r new ⊎ broke old r new)))

-- What a fault leaves of the keeper: a spent counter nothing, and a fault of the disk the record of the machine's step in doubt, which is then
-- of this kind. Want of memory leaves nothing, or that record, in doubt or not.
abbrev pub Hurts : {K : Type 0} → (Serving → Type 0) → (did broke : K → Record → K → Type 0) → ServerFault → Serving → K → K → Type 0
Hurts Kind did broke (Spent n) done old new = new ≡ old
Hurts Kind did broke DiskFailed done old new = Kind done × Broke broke done old new
Hurts Kind did broke DiskStopped done old new = Kind done × Broke broke done old new
Hurts Kind did broke NoMemory done old new = MayHave Kind did broke done old new

abbrev pub SpendsNothing : Serving → Type 0
SpendsNothing t = t.spent ≡ None

-- there are numbers for the wants that wait, of which each takes one at most
abbrev pub HasNumbers : Serving → Type 0
HasNumbers t = (t.spent ≡ None) × (t.server.number + length t.server.recalls ≤ last_counter)

-- there is a number more
abbrev pub HasRoom : Core → Type 0
HasRoom c = c.number + length c.recalls < last_counter

-- there are numbers for the wants that wait
abbrev pub HasLeft : Core → Type 0
HasLeft c = c.number + length c.recalls ≤ last_counter

-- No record was committed between these two, or this one was, and there are numbers behind it.
abbrev pub Moves : {K : Type 0} → (K → Record → K → Type 0) → Option Record → Core → K → K → Type 0
Moves did before core old new = ((core.rec ≡ before) × (new ≡ old)) ⊎ ((r : Record) × (core.rec ≡ Some r) × did old r new × HasLeft core)

-- This record was committed, and there were numbers then; or it was refused and nothing changed.
abbrev pub EndsRecord : {K : Type 0} → (K → Record → K → Type 0) → Bool → Record → Option Record → Option Record → Core → K → K → Type 0
EndsRecord did true r before after core old new = (after ≡ Some r) × did old r new × HasRoom core
EndsRecord did false r before after core old new = (after ≡ before) × (new ≡ old)

-- What a fault of one commit leaves. Where the record may be there, there were numbers then.
abbrev pub Fails : {K : Type 0} → (K → Record → K → Type 0) → ServerFault → Record → Durable → Core → K → K → Type 0
Fails broke (Spent n) r d core old new = ⊥
Fails broke DiskFailed r d core old new = HasRoom core × ((e : Durable) × (step r d ≡ Ok e)) × broke old r new
Fails broke DiskStopped r d core old new = HasRoom core × ((e : Durable) × (step r d ≡ Ok e)) × broke old r new
Fails broke NoMemory r d core old new = (new ≡ old) ⊎ (HasRoom core × ((e : Durable) × (step r d ≡ Ok e)) × broke old r new)
