use Rattle.std.proofs.Common.{◌≡◌, ◌+◌, ◌-◌, ◌/◌, ◌%◌, ℕ, suc, refl, sym, ◌∙◌, subst, arith, eq-eqb}
use Rattle.ec_sessions.specs.Windows.{moved_past}
use Rattle.ec_sessions.proofs.window.moved_past.Goals as goal

-- past one marked number
past_one : (k low mask : ℕ) → mask % 2 ≡ 1 → moved_past (suc k) low mask ≡ moved_past k (low + 1) (mask / 2)
past_one k low mask odd = rw (eq-eqb (mask % 2) 1 odd) refl

past_next : (left rest low mask : ℕ) → left ≡ suc rest → mask % 2 ≡ 1 → moved_past left low mask ≡ moved_past rest (low + 1) (mask / 2)
past_next left rest low mask e odd = subst (λ k. moved_past k low mask ≡ moved_past rest (low + 1) (mask / 2)) (sym e) (past_one rest low mask odd)

pub bits-preserved : goal.bits-preserved
bits-preserved c = (
  sym (past_next (8 - c.bits.counter) (8 - (c.bits.counter + 1)) c.bits.window.low c.bits.window.mask (omega arith) (omega arith)) ∙ c.bits.invariant.0,
  omega arith,
)
