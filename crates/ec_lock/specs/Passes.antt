-- What the contracts of the lock say of a pass, a turn and a note.
use Rattle.std.specs.Prelude.{ℕ}
use Rattle.ec_lock.specs.declared.types.Pass.{Pass}

module _ {V S : Type 0} where
  -- the greatest number that `mark` answered the pass
  abbrev pub answered : Pass V S → ℕ
  answered pass = pass.seat.me.0.answered
