-- Steps that make no call of the disk.
use Rattle.std.proofs.Common.{◌≡◌, ◌-◌, ℕ, Option, None, Some, refl, ap, arith, inl}
use Rattle.ec_disk.specs.Disk.{Counts, NoneDue, after_calls}
use Rattle.ec_durable.specs.declared.state.Durable.{Durable}
use Rattle.ec_marking.specs.KeptRuns.{HasRun}

no_turn : (a : Option ℕ) → a ≡ after_calls 0 a
no_turn None = refl
no_turn (Some left) = ap (λ (k : ℕ). Some k) (omega arith)

none_at_first : (a : Option ℕ) → NoneDue 0 a
none_at_first None = tt
none_at_first (Some left) = omega arith

-- no call of the disk
pub run_same : (before after : Durable) (a : Counts) → after ≡ before → HasRun before after a a
run_same before after a same = record { turns = 0; takes = inl (refl, same); next = no_turn a.armed; none_due = none_at_first a.armed }
