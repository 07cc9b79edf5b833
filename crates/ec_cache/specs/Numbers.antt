-- The numbers of the tokens that a clerk holds.
use Rattle.std.specs.Prelude.{ℕ}
use Rattle.std.specs.Prelude.{map}
use Rattle.ec_base.specs.Tables.{Table}
use Rattle.ec_cache.specs.declared.state.Held.{Held}

-- the numbers of tokens
abbrev pub numbers : Table Held → Table ℕ
numbers es = map (λ e. (e.0, (e.1).number)) es
