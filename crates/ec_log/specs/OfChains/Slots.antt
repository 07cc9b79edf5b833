-- Held operations by their places, some of which have left.
use Rattle.std.specs.Prelude.{ℕ, [], ◌∷◌, map, Option, None, Some}
use Rattle.ec_base.specs.Tables.{Table}
use Rattle.ec_volume.specs.declared.update.Update.{Update}
use Rattle.ec_volume.specs.declared.update.Update.TheVariants.{Order}
use Rattle.ec_order.specs.Order.{Issued, Holds}
use Rattle.ec_log.specs.declared.chains.closure.Ask.{Ask}
use Rattle.ec_log.specs.declared.chains.closure.Ask.TheVariants.{Object, Op, All}

-- each place has the number of its operation, and its update while it's held
abbrev pub Slots : Type 0
Slots = Table (Option Update)

abbrev pub with_one : ℕ → Option Update → Issued → Issued
with_one n None rest = rest
with_one n (Some u) rest = (n, u) ∷ rest

-- the operations that are held
abbrev pub live : Slots → Issued
live [] = []
live (s ∷ ss) = with_one s.0 s.1 (live ss)

-- where one has left, an update of no object stands for its own
abbrev pub shown_update : Option Update → Update
shown_update None = Order []
shown_update (Some u) = u

-- the same at each place, so that places are those among the slots
abbrev pub placed : Slots → Issued
placed ss = map (λ s. (s.0, shown_update s.1)) ss

-- an operation that is asked for by its number is held
abbrev pub IsThere : Ask → Slots → Type 0
IsThere (Object obj) ss = Unit
IsThere (Op op) ss = (u : Update) × Holds (live ss) op u
IsThere All ss = ⊥
