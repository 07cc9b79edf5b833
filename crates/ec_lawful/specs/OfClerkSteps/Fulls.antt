-- Refusals of room: of so many objects at most, each tells of objects and reserved ids that leave no room for sixteen ids more.
use Rattle.std.specs.Prelude.{◌+◌, ℕ, T, nat_lt, List, ⊤}
use Rattle.ec_history.specs.History.{Each}
use Rattle.ec_wire.specs.declared.msg.Msg.{Msg}
use Rattle.ec_wire.specs.declared.msg.Msg.TheVariants.{NoRoom}

abbrev pub IsFullAt : ℕ → Msg → Type 0
IsFullAt most (NoRoom s e ask live reserved) = T (nat_lt most (live + reserved + 16))
IsFullAt most _ = ⊤

abbrev pub AreFullAt : ℕ → List (ℕ × Msg) → Type 0
AreFullAt most ms = Each (λ m. IsFullAt most m.1) ms
