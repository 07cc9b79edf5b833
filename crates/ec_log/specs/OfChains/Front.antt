-- The first operations of a closure.
use Rattle.std.specs.Prelude.{◌≡◌, ◌<◌, ◌≤◌, ℕ, T, Bool, true, false, ◌||◌, List, take, filter}
use Rattle.ec_base.specs.Tables.{Table, keys, at_or}
use Rattle.ec_volume.specs.Update.{member, operands}
use Rattle.ec_volume.specs.declared.update.Update.{Update}
use Rattle.ec_volume.specs.declared.update.Update.TheVariants.{Put, Len, Mode, Stamp, Owner}
use Rattle.ec_order.specs.Order.{Issued, Holds, needs, closure}
use Rattle.ec_log.specs.OfChains.Walk.{passes}
use Rattle.ec_log.specs.declared.chains.closure.Ask.{Ask}

-- the closure of what is asked for
abbrev pub closure_for : Ask → Issued → Issued
closure_for ask held = closure (λ n. member n (keys (filter (passes ask) held))) held

-- The first of these are the first of the closure, and the closure has these and those that are asked for by themselves.
pub record IsFront (ask : Ask) (held : Issued) (most : ℕ) (ops : List ℕ) : Type 0 where
  pub first : take most ops ≡ take most (keys (closure_for ask held))
  pub members : (n : ℕ) → member n (keys (closure_for ask held)) ≡ (member n ops || member n (keys (filter (passes ask) held)))

-- the update is on one object alone
abbrev pub is_alone : Update → Bool
is_alone (Put obj at bytes inside) = true
is_alone (Len obj len) = true
is_alone (Mode obj mode) = true
is_alone (Stamp obj stamp) = true
is_alone (Owner obj owner) = true
is_alone _ = false

-- On each object no operation that is on others too comes behind the number that the map tells.
abbrev pub Covers : Table ℕ → Issued → Type 0
Covers shared held = (n : ℕ) (u : Update) → Holds held n u → is_alone u ≡ false → (o : ℕ) → T (member o (operands u)) → n ≤ at_or 0 o shared

-- What is asked for behind the number needs nothing that isn't asked for.
abbrev pub IsBound : Ask → Issued → ℕ → Type 0
IsBound ask held bound = (n : ℕ) (u : Update) → Holds held n u → bound < n → T (passes ask (n, u)) → (x : ℕ × Update) → T (needs x.1 u) → T (passes ask x)
