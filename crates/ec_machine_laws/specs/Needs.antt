-- Parts of lists of operations, calls that make objects, how many objects a call touches, and caches with room.
use Rattle.std.specs.Prelude.{◌≡◌, ◌⊎◌, ◌≤◌, ◌+◌, ◌*◌, ℕ, T, Bool, List, ◌++◌, filter, length}
use Rattle.ec_base.specs.Limits.{max_path_names}
use Rattle.ec_base.specs.Tables.{Table}
use Rattle.ec_volume.specs.Limits.{max_ordered}
use Rattle.ec_volume.specs.Update.{member}
use Rattle.ec_volume.specs.declared.update.Update.{Update}
use Rattle.ec_plain.specs.Walk.{Path}
use Rattle.ec_plain.specs.declared.call.Call.{Call}
use Rattle.ec_plain.specs.declared.call.Call.TheVariants as call
use Rattle.ec_cache.specs.declared.state.CacheState.{CacheState}
use Rattle.ec_cache.specs.declared.state.Held.{Held}
use Rattle.ec_order.specs.Order.{Issued, Holds}

-- each of these operations is one of those too
abbrev pub IsPart : Issued → Issued → Type 0
IsPart xs ys = (n : ℕ) (u : Update) → Holds xs n u → Holds ys n u

-- what the first test asks for of these operations, the second does too
abbrev pub AreAskedToo : Issued → (ℕ → Bool) → (ℕ → Bool) → Type 0
AreAskedToo xs asked wider = (n : ℕ) (u : Update) → Holds xs n u → T (asked n) → T (wider n)

-- the calls that make an object, where they are carried out
abbrev pub IsCreate : Call → Type 0
IsCreate cl = (path : Path) × ((cl ≡ call.Mkdir path) ⊎ (cl ≡ call.Create path))

-- A call touches at most so many objects: an ordering reads the longest paths, each from the root on.
abbrev pub max_touched : ℕ
max_touched = max_ordered * (max_path_names + 1)

-- The tokens held are these older ones and then these newer ones, and the capacity has room for the newer ones and for the older pinned ones.
pub record AreRoomy (k : CacheState) (pinned : List ℕ) (olds news : Table Held) : Type 0 where
  pub whole : k.held ≡ olds ++ news
  pub room : length (filter (λ e. member e.0 pinned) olds) + length news ≤ k.capacity
