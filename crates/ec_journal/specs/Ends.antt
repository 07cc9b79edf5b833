-- Calls of a disk that were done, up to one that was answered otherwise.
use Rattle.std.specs.Prelude.{◌≡◌, ◌⊎◌, ◌<◌, ◌≤◌, ◌+◌, ◌-◌, ℕ, List, [], ◌∷◌, ◌++◌, length, Option, Some}
use Rattle.std.proofs.Common.{refl, sym, subst, arith, length-append}
use Rattle.ec_disk.specs.Calls.{Call, Read, Write, Sync, Len}
use Rattle.ec_disk.specs.Counting.{turned_once, turned_both, turned_for}
use Rattle.ec_disk.specs.Disk.{NoneDue}
use Rattle.ec_disk.specs.Effects.{Turned, CountsDown, IsDueIn}
use Rattle.ec_disk.specs.declared.disk.DiskAnswer.{DiskAnswer}
use Rattle.ec_disk.specs.declared.disk.DiskAnswer.TheVariants.{Done, Failed, Stopped, NoMemory}
use Rattle.ec_journal.specs.declared.fault.JournalFault.{JournalFault}
use Rattle.ec_journal.specs.declared.fault.JournalFault.TheVariants as fault

-- the answer of a disk that is shown by a fault
abbrev pub answer_of : JournalFault → DiskAnswer
answer_of fault.DiskFailed = Failed
answer_of fault.DiskStopped = Stopped
answer_of fault.NoMemory = NoMemory
answer_of _ = Done

-- a read, write or sync with this answer
abbrev pub HasAnswer : DiskAnswer → Call → Type 0
HasAnswer answer (Read at before is after) = is ≡ answer
HasAnswer answer (Write at bytes is) = is ≡ answer
HasAnswer answer (Sync is) = is ≡ answer
HasAnswer answer (Len is) = ⊥

-- one disk behind another by these calls, each of which was done
abbrev pub Did : {D : Type 0} → (D → Call → D → Type 0) → List Call → D → D → Type 0
Did does [] old new = old ≡ new
Did {D} does (call ∷ calls) old new = (mid : D) × does old call mid × HasAnswer Done call × Did does calls mid new

-- one disk behind another by so many calls, each of which was done
abbrev pub DidAll : {D : Type 0} → (D → Call → D → Type 0) → ℕ → D → D → Type 0
DidAll does count old new = (calls : List Call) × (length calls ≡ count) × Did does calls old new

-- One disk behind another by fewer than so many calls that were done, and a last one with this answer.
pub record EndsBy {D : Type 0} (does : D → Call → D → Type 0) (answer : DiskAnswer) (most : ℕ) (old new : D) : Type 0 where
  pub calls : List Call
  pub fewer : length calls < most
  pub before : D
  pub did : Did does calls old before
  pub last : Call
  pub is : HasAnswer answer last
  pub ends : does before last new

-- A want of memory: no call was made, or the disk itself lacked it, in one of so many calls.
abbrev pub LacksMemory : {D : Type 0} → (D → Call → D → Type 0) → ℕ → D → D → Type 0
LacksMemory does most old new = (new ≡ old) ⊎ EndsBy does NoMemory most old new

-- At most so many reads, writes and syncs, all of them where each was done.
pub record TurnedUpTo (most : ℕ) (old new : Option ℕ) (Going Stopping : Type 0) : Type 0 where
  pub turns : ℕ
  pub few : turns ≤ most
  pub all : Going → turns ≡ most
  pub turned : Turned turns old new Going Stopping

did_then : {D : Type 0} (does : D → Call → D → Type 0) (xs ys : List Call) (old mid new : D) → Did does xs old mid → Did does ys mid new → Did does (xs ++ ys) old new
did_then {D} does [] ys old mid new first second = subst (λ (d : D). Did does ys d new) (sym first) second
did_then does (x ∷ xs) ys old mid new first second = (first.0, first.1, first.2, did_then does xs ys first.0 mid new first.3 second)

-- one call that was done
pub did_one : {D : Type 0} (does : D → Call → D → Type 0) (call : Call) (old new : D) → does old call new → HasAnswer Done call → DidAll does 1 old new
did_one does call old new it done = (call ∷ [], refl, (new, it, done, refl))

-- some calls behind others
pub did_both : {D : Type 0} (does : D → Call → D → Type 0) (m n : ℕ) (old mid new : D) → DidAll does m old mid → DidAll does n mid new → DidAll does (m + n) old new
did_both does m n old mid new first second = (first.0 ++ second.0, omega (arith, length-append first.0 second.0, first.1, second.1), did_then does first.0 second.0 old mid new first.2 second.2)

-- the first call ends it
pub ends_at_once : {D : Type 0} (does : D → Call → D → Type 0) (answer : DiskAnswer) (more : ℕ) (call : Call) (old new : D) → does old call new → HasAnswer answer call → EndsBy does answer (1 + more) old new
ends_at_once does answer more call old new it is = record { calls = []; fewer = omega arith; before = old; did = refl; last = call; is = is; ends = it }

-- one of the calls behind the first ones ends it
pub ends_later : {D : Type 0} (does : D → Call → D → Type 0) (answer : DiskAnswer) (m n : ℕ) (old mid new : D) → DidAll does m old mid → EndsBy does answer n mid new → EndsBy does answer (m + n) old new
ends_later does answer m n old mid new did later = record {
  calls = did.0 ++ later.calls;
  fewer = omega (arith, length-append did.0 later.calls, did.1, later.fewer);
  before = later.before;
  did = did_then does did.0 later.calls old mid later.before did.2 later.did;
  last = later.last;
  is = later.is;
  ends = later.ends;
}

-- where one of fewer calls ends it
pub ends_sooner : {D : Type 0} (does : D → Call → D → Type 0) (answer : DiskAnswer) (m n : ℕ) (old new : D) → EndsBy does answer m old new → EndsBy does answer (m + n) old new
ends_sooner does answer m n old new is = record { calls = is.calls; fewer = omega (arith, is.fewer); before = is.before; did = is.did; last = is.last; is = is.is; ends = is.ends }

-- turns behind others that were all done
pub turns_later : (m n : ℕ) (a b c : Option ℕ) (G H S T : Type 0) → TurnedUpTo m a b G S → G → TurnedUpTo n b c H T → TurnedUpTo (m + n) a c H T
turns_later m n a b c G H S T first done later = record {
  turns = first.turns + later.turns;
  few = omega (arith, first.few, later.few);
  all = λ h. omega (arith, first.all done, later.all h);
  turned = turned_both first.turns later.turns a b c G H S T first.turned done later.turned;
}

-- turns that end before the last ones
pub turns_sooner : (m n : ℕ) (a b : Option ℕ) (G H S T : Type 0) → TurnedUpTo m a b G S → (H → ⊥) → (T → S) → TurnedUpTo (m + n) a b H T
turns_sooner m n a b G H S T is ends stops = record {
  turns = is.turns;
  few = omega (arith, is.few);
  all = λ h. absurd (ends h);
  turned = turned_for is.turns a b G H S T (λ h. absurd (ends h)) stops is.turned;
}

-- the same turns, said of less
pub turns_for : (n : ℕ) (a b : Option ℕ) (G H S T : Type 0) → TurnedUpTo n a b G S → (H → G) → (T → S) → TurnedUpTo n a b H T
turns_for n a b G H S T is goes stops = record { turns = is.turns; few = is.few; all = λ h. is.all (goes h); turned = turned_for is.turns a b G H S T goes stops is.turned }

-- one turn
pub one_turn : (a b : Option ℕ) (G S : Type 0) → CountsDown a b G S → TurnedUpTo 1 a b G S
one_turn a b G S down = record { turns = 1; few = omega arith; all = λ g. refl; turned = turned_once a b G S down }

-- the turn that stopped is one of these
pub stops_within : (most turn : ℕ) (a b : Option ℕ) (G S : Type 0) → TurnedUpTo most a b G S → S → a ≡ Some turn → turn ≤ most
stops_within most turn a b G S is stops armed = omega (arith, is.few, subst (λ (o : Option ℕ). IsDueIn is.turns o) armed (is.turned.stops stops))

-- where all of these were done, it's a later one
pub stops_behind : (most turn : ℕ) (a b : Option ℕ) (G S : Type 0) → TurnedUpTo most a b G S → G → a ≡ Some turn → most ≤ turn - 1
stops_behind most turn a b G S is goes armed = omega (arith, is.all goes, subst (λ (o : Option ℕ). NoneDue is.turns o) armed (is.turned.goes goes))
