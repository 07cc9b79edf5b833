-- The tokens and images that a clerk holds, in the order of use.
use Rattle.std.specs.Prelude.{◌==◌, ◌-◌, ℕ, Bool, true, false, not, if◌then◌else◌, nat_lt, List}
use Rattle.std.specs.Prelude.{[], ◌∷◌, map, length, max, filter, take as front, Option, None, Some}
use Rattle.ec_base.specs.Tables.{Table, at, at_or, put, without, renewed, keys, by_key}
use Rattle.ec_base.specs.declared.ids.Hold.{Hold}
use Rattle.ec_base.specs.declared.ids.Hold.TheVariants.{Free, Write}
use Rattle.ec_volume.specs.Update.{member, effect}
use Rattle.ec_volume.specs.Volume.{Images}
use Rattle.ec_volume.specs.declared.image.Image.{Image}
use Rattle.ec_volume.specs.declared.image.Image.TheVariants.{Gone}
use Rattle.ec_volume.specs.declared.update.Update.{Update}
use Rattle.ec_base.specs.Holds.{is_free, is_below, weaker}
use Rattle.ec_cache.specs.declared.state.Held.{Held}
use Rattle.ec_cache.specs.declared.state.CacheState.{CacheState}

-- no token, in a cache for so many
abbrev pub empty : ℕ → CacheState
empty capacity = record { capacity = capacity; held = []; lasts = []; limits = [] }

-- What the cache tells.

abbrev pub held_mode : Option Held → Hold
held_mode None = Free
held_mode (Some h) = h.hold

-- the whole mode of the token
abbrev pub mode : ℕ → CacheState → Hold
mode x k = held_mode (at x k.held)

-- the mode that counts: under recall only down to the recalled one
abbrev pub counted : ℕ → CacheState → Hold
counted x k = weaker (mode x k) (at_or Write x k.limits)

abbrev pub holds : ℕ → Hold → CacheState → Bool
holds x h k = not (is_below (counted x k) h)

-- the last number taken or given back in this epoch, or 0
abbrev pub last : ℕ → CacheState → ℕ
last x k = at_or 0 x k.lasts

abbrev pub held_image : Option Held → Image
held_image None = Gone
held_image (Some h) = h.image

-- the images held, and Gone elsewhere
abbrev pub images_held : CacheState → Images
images_held k x = held_image (at x k.held)

-- the tokens by rising id, each with its whole mode
abbrev pub tokens : CacheState → Table Hold
tokens k = by_key (map (λ e. (e.0, (e.1).hold)) k.held)

-- What calls make of it.

-- the number is new for the object
abbrev pub is_new : ℕ → ℕ → CacheState → Bool
is_new x n k = nat_lt (last x k) n

-- A token of a new number is taken; any other changes nothing.
abbrev pub take : ℕ → Hold → ℕ → Image → CacheState → CacheState
take x h n i k =
    elim (is_new x n k) [
      | false ↦ k
      | true ↦ record k { held = renewed x (record { hold = h; number = n; image = i }) k.held; lasts = put x n k.lasts; limits = without x k.limits }
    ]

abbrev pub passed : ℕ → ℕ → CacheState → CacheState
passed x n k = record k { lasts = put x (max n (last x k)) k.lasts }

-- the held object is the most recently used one
abbrev pub used : ℕ → CacheState → CacheState
used x k = elim (at x k.held) [ None ↦ k | Some h ↦ record k { held = renewed x h k.held } ]

abbrev pub all_used : List ℕ → CacheState → CacheState
all_used [] k = k
all_used (x ∷ xs) k = all_used xs (used x k)

abbrev pub change_at : Update → ℕ → CacheState → CacheState
change_at u x k = elim (at x k.held) [ None ↦ k | Some h ↦ record k { held = renewed x (record h { image = effect u x h.image }) k.held } ]

-- the update is carried out at its operands, in their order
abbrev pub change : Update → List ℕ → CacheState → CacheState
change u [] k = k
change u (x ∷ xs) k = change u xs (change_at u x k)

-- the object's token has at most this mode; it keeps its place in the order of use
abbrev pub lowered : ℕ → Hold → Table Held → Table Held
lowered x to es = map (λ e. if e.0 == x then (e.0, record (e.1) { hold = weaker to (e.1).hold }) else e) es

abbrev pub lower : ℕ → Hold → CacheState → CacheState
lower x to k = record k { held = if is_free to then without x k.held else lowered x to k.held; limits = without x k.limits }

-- a recall marks the token; of several marks the lowest counts
abbrev pub limit : ℕ → Hold → CacheState → CacheState
limit x to k = record k { limits = put x (weaker to (at_or Write x k.limits)) k.limits }

-- the tokens that are too many, the least recently used ones first, but none of the pinned objects
abbrev pub evicted : List ℕ → CacheState → Table Held
evicted pinned k = front (length k.held - k.capacity) (filter (λ e. not (member e.0 pinned)) k.held)

abbrev pub evict : List ℕ → CacheState → CacheState
evict pinned k =
    let gone = keys (evicted pinned k) in
    record k { held = filter (λ e. not (member e.0 gone)) k.held; limits = filter (λ e. not (member e.0 gone)) k.limits }

-- in a new epoch the tokens stay and have no numbers
abbrev pub numberless : Table Held → Table Held
numberless es = map (λ e. (e.0, record (e.1) { number = 0 })) es

abbrev pub new_epoch : CacheState → CacheState
new_epoch k = record k { held = numberless k.held; lasts = []; limits = [] }
