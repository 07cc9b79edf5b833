-- What a record leaves of the slots.
use Rattle.std.specs.Prelude.{◌≡◌, ◌==◌, ℕ, false, length}
use Rattle.ec_durable.specs.Durable.{slot}
use Rattle.ec_durable.specs.declared.state.Durable.{Durable}

-- But for the slot of this clerk the slots are as they were, and the epoch too.
pub record IsRestOf (c : ℕ) (d e : Durable) : Type 0 where
  pub others : (j : ℕ) → (j == c) ≡ false → slot e j ≡ slot d j
  pub count : length e.sessions ≡ length d.sessions
  pub epoch : e.epoch ≡ d.epoch
