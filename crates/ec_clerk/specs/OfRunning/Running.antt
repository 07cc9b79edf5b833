-- What a step of one clerk makes of the running ones.
use Rattle.std.specs.Prelude.{◌≡◌, ◌⊎◌, ◌+◌, ℕ, T, Bool, false, List, Option, None, Some}
use Rattle.std.specs.FinMap.Entries.{is_sorted}
use Rattle.std.specs.Ordering.{nat_cmp}
use Rattle.ec_base.specs.Tables.{Table, at, put, without}
use Rattle.ec_base.specs.declared.counter.Counter.{Counter}
use Rattle.ec_plain.specs.declared.call.Call.{Call}
use Rattle.ec_protocol.specs.declared.clerk.Clerk.{Clerk}
use Rattle.ec_protocol.specs.declared.clerk.Out.{Out}
use Rattle.ec_protocol.specs.Clerk.{Doing}
use Rattle.ec_protocol.specs.Clerk as machine
use Rattle.ec_clerk.specs.declared.running.fault.StepFault.{StepFault}
use Rattle.ec_clerk.specs.declared.running.fault.StepFault.TheVariants.{DiskFailed, Spent, NoSuchOp, NoSuchMsg, NoMemory}
use Rattle.ec_clerk.specs.declared.running.running.Begun.{Begun}
use Rattle.ec_clerk.specs.declared.running.running.Begun.TheVariants.{Took, IsAbsent}

abbrev pub has_issued_in : ℕ → Option Clerk → Bool
has_issued_in n None = false
has_issued_in n (Some k) = machine.has_issued n k

-- the session of a running clerk
abbrev pub session_in : Option Clerk → Option ℕ
session_in None = None
session_in (Some k) = k.session

-- the clerk runs, and took the step, of which these came out
pub record Steps (f : Clerk → Doing) (c : ℕ) (old new : Table Clerk) (outs : List Out) : Type 0 where
  pub before : Clerk
  pub after : Clerk
  pub runs : at c old ≡ Some before
  pub does : f before ≡ record { clerk = after; outs = outs; spent = None }
  pub put_is : new ≡ put c after old

-- the clerk doesn't run, and nothing changed
pub record StaysAbsent (c : ℕ) (old new : Table Clerk) : Type 0 where
  pub absent : at c old ≡ None
  pub same : new ≡ old

-- the clerk runs, and is taken out; the keys rise
pub record TakesOut (c : ℕ) (old new : Table Clerk) (clerk : Clerk) : Type 0 where
  pub runs : at c old ≡ Some clerk
  pub left : new ≡ without c old
  pub sorted : T (is_sorted nat_cmp old)

abbrev pub BeginsCall : Call → ℕ → Table Clerk → Table Clerk → Begun → Type 0
BeginsCall call c old new (Took number outs) = (s : Steps (machine.begin call) c old new outs.items) × (number ≡ s.before.calls + 1)
BeginsCall call c old new (IsAbsent same) = StaysAbsent c old new × (same ≡ call)

-- the clerk runs, and would spend this counter
pub record WouldSpend (f : Clerk → Doing) (c : ℕ) (n : Counter) (old new : Table Clerk) : Type 0 where
  pub before : Clerk
  pub runs : at c old ≡ Some before
  pub spent : (f before).spent ≡ Some n
  pub same : new ≡ old

abbrev pub StaysAt : StepFault → (Clerk → Doing) → ℕ → Table Clerk → Table Clerk → Type 0
StaysAt (Spent n) f c old new = WouldSpend f c n old new
StaysAt NoMemory f c old new = Unit {0}
StaysAt DiskFailed f c old new = ⊥
StaysAt NoSuchOp f c old new = ⊥
StaysAt NoSuchMsg f c old new = ⊥

-- the clerk took the call, of which these came out, and runs
pub record Joins (call : Call) (c : ℕ) (first : Clerk) (old new : Table Clerk) (number : ℕ) (outs : List Out) : Type 0 where
  pub after : Clerk
  pub does : machine.begin call first ≡ record { clerk = after; outs = outs; spent = None }
  pub number_is : number ≡ first.calls + 1
  pub put_is : new ≡ put c after old

abbrev pub JoinsNot : StepFault → Call → Clerk → Table Clerk → Table Clerk → Type 0
JoinsNot (Spent n) call first old new = ((machine.begin call first).spent ≡ Some n) × (new ≡ old)
JoinsNot NoMemory call first old new = Unit {0}
JoinsNot DiskFailed call first old new = ⊥
JoinsNot NoSuchOp call first old new = ⊥
JoinsNot NoSuchMsg call first old new = ⊥

-- the clerk started with this boot, which gave these, and joined with the call
pub record StartsRunning (call : Call) (c boot : ℕ) (old new : Table Clerk) (number : ℕ) (before outs : List Out) : Type 0 where
  pub first : Clerk
  pub starts : machine.start c boot ≡ record { clerk = first; outs = before; spent = None }
  pub joins : Joins call c first old new number outs

-- the start would spend this counter, or the call behind it
pub record WouldSpendAtStart (call : Call) (c boot : ℕ) (n : Counter) (old new : Table Clerk) : Type 0 where
  pub spent : ((machine.start c boot).spent ≡ Some n) ⊎ ((first : Clerk) × (outs : List Out) × (machine.start c boot ≡ record { clerk = first; outs = outs; spent = None }) × ((machine.begin call first).spent ≡ Some n))
  pub same : new ≡ old

abbrev pub StartsNot : StepFault → Call → ℕ → ℕ → Table Clerk → Table Clerk → Type 0
StartsNot (Spent n) call c boot old new = WouldSpendAtStart call c boot n old new
StartsNot NoMemory call c boot old new = Unit {0}
StartsNot DiskFailed call c boot old new = ⊥
StartsNot NoSuchOp call c boot old new = ⊥
StartsNot NoSuchMsg call c boot old new = ⊥
