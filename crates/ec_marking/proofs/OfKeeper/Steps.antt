-- A record in whose commit the disk failed or stopped is one that the state would take.
use Rattle.std.proofs.Common.{◌≡◌, ◌⊎◌, ◌<◌, ◌≤◌, ℕ, Option, ⊎_elim, Result, Ok, Err, refl, sym, subst, arith}
use Rattle.std.specs.Prelude.{IsOk, IsErrOf}
use Rattle.ec_disk.specs.Counting.{turned_for}
use Rattle.ec_disk.specs.Effects.{Turned}
use Rattle.ec_durable.specs.Durable.{step}
use Rattle.ec_durable.specs.declared.record.Record.{Record}
use Rattle.ec_durable.specs.declared.record.RecordFault.{RecordFault}
use Rattle.ec_durable.specs.declared.state.Durable.{Durable}
use Rattle.ec_store.specs.Store.{CommitTurns}
use Rattle.ec_store.specs.declared.fault.StoreFault.{StoreFault}
use Rattle.ec_store.specs.declared.fault.StoreFault.TheVariants as fault

pub steps : (P Q : Type 0) (r : Record) (d : Durable) (e : StoreFault) → ((f : RecordFault) → IsErrOf {T = Unit {0}} (Err e) (fault.Refused f) → ⊥) → (IsErrOf {T = Unit {0}} (Err e) fault.NoMemory → ⊥)
    → ((f : RecordFault) → step r d ≡ Err f → P × Q × (IsErrOf {T = Unit {0}} (Err e) (fault.Refused f) ⊎ IsErrOf {T = Unit {0}} (Err e) fault.NoMemory)) → (x : Durable) × (step r d ≡ Ok x)
steps P Q r d e never none refuses = go (step r d) refl
  where
    go : (res : Result Durable RecordFault) → step r d ≡ res → (x : Durable) × (step r d ≡ Ok x)
    go (Ok x) is = (x, is)
    go (Err f) is = absurd (⊎_elim (never f) none (refuses f is).2)

pub failed_refuses : (e : StoreFault) (f : RecordFault) → e ≡ fault.DiskFailed → IsErrOf {T = Unit {0}} (Err e) (fault.Refused f) → ⊥
failed_refuses e f p q = absurd cc

pub failed_wants : (e : StoreFault) → e ≡ fault.DiskFailed → IsErrOf {T = Unit {0}} (Err e) fault.NoMemory → ⊥
failed_wants e p q = absurd cc

pub stopped_refuses : (e : StoreFault) (f : RecordFault) → e ≡ fault.DiskStopped → IsErrOf {T = Unit {0}} (Err e) (fault.Refused f) → ⊥
stopped_refuses e f p q = absurd cc

pub stopped_wants : (e : StoreFault) → e ≡ fault.DiskStopped → IsErrOf {T = Unit {0}} (Err e) fault.NoMemory → ⊥
stopped_wants e p q = absurd cc

ended_well : (r : Result (Unit {0}) StoreFault) (u : Unit {0}) → r ≡ Ok u → IsOk r
ended_well r u is = subst (λ (x : Result (Unit {0}) StoreFault). IsOk x) (sym is) refl

not_ended_so : (r : Result (Unit {0}) StoreFault) (u : Unit {0}) (f : StoreFault) → r ≡ Ok u → IsErrOf r f → ⊥
not_ended_so r u f is err = absurd cc

-- The turns of a commit that was done.
done_turns : (need free : ℕ) (a b : Option ℕ) (G S : Type 0) → CommitTurns need free a b G S → G → (S → ⊥) → (turns : ℕ) × Turned turns a b (Unit {0}) ⊥ × (need ≤ free → turns ≡ 4) × (free < need → 9 ≤ turns)
done_turns need free a b G S is done never = (
  is.turned.turns,
  turned_for is.turned.turns a b G (Unit {0}) S ⊥ (λ u. done) (λ no. absurd no) is.turned.turned,
  λ room. omega (arith, is.turned.all done, is.room room),
  λ none. omega (arith, is.turned.all done, is.no_room none),
)

pub committed_turns : (need free : ℕ) (a b : Option ℕ) (r : Result (Unit {0}) StoreFault) (u : Unit {0}) → r ≡ Ok u → CommitTurns need free a b (IsOk r) (IsErrOf r fault.DiskStopped) → (turns : ℕ) × Turned turns a b (Unit {0}) ⊥ × (need ≤ free → turns ≡ 4) × (free < need → 9 ≤ turns)
committed_turns need free a b r u is turned = done_turns need free a b (IsOk r) (IsErrOf r fault.DiskStopped) turned (ended_well r u is) (not_ended_so r u fault.DiskStopped is)

-- and of one that ended otherwise
pub ended_turns : (need free : ℕ) (a b : Option ℕ) (G S : Type 0) → CommitTurns need free a b G S → (turns : ℕ) × Turned turns a b ⊥ ⊥ × (need ≤ free → turns ≤ 4)
ended_turns need free a b G S is = (
  is.turned.turns,
  turned_for is.turned.turns a b G ⊥ S ⊥ (λ no. absurd no) (λ no. absurd no) is.turned.turned,
  λ room. omega (arith, is.turned.few, is.room room),
)
