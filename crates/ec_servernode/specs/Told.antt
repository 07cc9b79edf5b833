-- The clerks that a turn tells.
use Rattle.std.specs.Prelude.{◌≡◌, ◌==◌, ℕ, Bool, true, false, List, [], ◌∷◌}
use Rattle.std.specs.Int.{bit_at}
use Rattle.ec_wire.specs.declared.msg.Msg.{Msg}
use Rattle.ec_servernode.specs.declared.state.Told.{Told}
use Rattle.ec_servernode.specs.Run.{for_clerk}

-- whether this clerk is told
abbrev pub tells : Told → ℕ → Bool
tells told c = bit_at told.clerks c == 1

abbrev pub has_any : {A : Type 0} → List A → Bool
has_any [] = false
has_any (x ∷ xs) = true

-- told are exactly the clerks to which one of these messages goes
abbrev pub IsToldOf : Told → List (ℕ × Msg) → Type 0
IsToldOf told sent = (c : ℕ) → tells told c ≡ has_any (for_clerk c sent)
