-- Calls under way.
use Rattle.std.specs.Prelude.{ℕ, [], Option, None, Some}
use Rattle.ec_base.specs.Tables.{Table, at_or, put, without}
use Rattle.ec_plain.specs.declared.call.Call.{Call}

-- the calls without this one of the clerk
abbrev pub less : ℕ → ℕ → Table (Table (ℕ × Call)) → Option (ℕ × Call) → Table (Table (ℕ × Call))
less c n calls None = calls
less c n calls (Some l) = put c (without n (at_or [] c calls)) calls
