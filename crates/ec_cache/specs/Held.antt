-- What a held token shows, the order of use, and what holds of each cache.
use Rattle.std.specs.Prelude.{◌≡◌, ◌==◌, ℕ, Bool, true, false, T, ◌&&◌, ◌||◌, not, nat_le, List, [], ◌∷◌, if◌then◌else◌, map, filter, Option, None, Some, is_some, option_map}
use Rattle.std.specs.List.{list_all}
use Rattle.std.specs.Ordering.{nat_cmp}
use Rattle.std.specs.FinMap.{is_sorted}
use Rattle.ec_base.specs.Tables.{Table, at, renewed}
use Rattle.ec_base.specs.declared.ids.Hold.{Hold}
use Rattle.ec_volume.specs.Image.{is_gone}
use Rattle.ec_volume.specs.Update.{member, effect}
use Rattle.ec_volume.specs.RoomWanted.{wants_room}
use Rattle.ec_volume.specs.Held.{is_held}
use Rattle.ec_volume.specs.declared.image.Image.{Image}
use Rattle.ec_volume.specs.declared.update.Update.{Update}
use Rattle.ec_volume.specs.declared.update.Update.TheVariants.{Shift}
use Rattle.ec_cache.specs.declared.state.Held.{Held}
use Rattle.ec_cache.specs.Marks.{with_mark}

abbrev pub image_of : Held → Image
image_of h = h.image

-- what is held goes to the most recently used end
abbrev pub used_in : {X : Type 0} → ℕ → Table X → Option X → Table X
used_in x es None = es
used_in x es (Some v) = renewed x v es

-- an object that has gone, or one within the limits of modes, bytes and entries
abbrev pub is_within : Image → Bool
is_within i = is_gone i || is_held i

-- an id, from 1, and an image within the limits
abbrev pub is_token : ℕ × Held → Bool
is_token e = nat_le 1 e.0 && is_within (e.1).image

-- The slots, by rising ids, are those of the held objects.
pub record IsCache (held : Table Held) (room : Table (Option Hold)) : Type 0 where
  pub tokens : T (list_all is_token held)
  pub sorted : T (is_sorted nat_cmp room)
  pub slots : (x : ℕ) → is_some (at x room) ≡ is_some (at x held)

-- Lists of tokens behind a change at several objects.

-- the tokens of the objects that aren't pinned
abbrev pub unpinned : List ℕ → Table Held → Table Held
unpinned pinned es = filter (λ e. not (member e.0 pinned)) es

-- the pairs of other ids
abbrev pub apart_from : {X : Type 0} → List ℕ → Table X → Table X
apart_from ids es = filter (λ e. not (member e.0 ids)) es

abbrev pub hold_of : Held → Hold
hold_of h = h.hold

-- for each slot the mode of its object's token, if there is one
abbrev pub holds_by : {Y : Type 0} → Table Y → Table Held → Table Hold
holds_by [] es = []
holds_by (s ∷ ss) es = with_mark s.0 (option_map hold_of (at s.0 es)) (holds_by ss es)

-- the object's token has no number
abbrev pub unnumbered_at : ℕ → Table Held → Table Held
unnumbered_at x es = map (λ e. if e.0 == x then (e.0, record (e.1) { number = 0 }) else e) es

abbrev pub unnumbered : List ℕ → Table Held → Table Held
unnumbered [] es = es
unnumbered (x ∷ xs) es = unnumbered xs (unnumbered_at x es)

-- What an update makes of the image of a held object, which keeps its place in the order of use.
abbrev pub imaged : Update → ℕ → Table Held → Table Held
imaged u x es = map (λ e. if e.0 == x then (e.0, record (e.1) { image = effect u x (e.1).image }) else e) es

-- the same, and the object is the most recently used one
abbrev pub changed_at : Update → ℕ → Table Held → Table Held
changed_at u x es = elim (at x es) [ None ↦ es | Some h ↦ renewed x (record h { image = effect u x h.image }) es ]

-- the same at each of these objects, in this order
abbrev pub changed_in : Update → List ℕ → Table Held → Table Held
changed_in u [] es = es
changed_in u (x ∷ xs) es = changed_in u xs (changed_at u x es)

-- operands whose new images take no memory
abbrev pub are_spare : Update → List ℕ → Bool
are_spare u xs = list_all (λ x. not (wants_room u x)) xs

-- an object moves to another directory
abbrev pub is_shift : Update → Bool
is_shift (Shift dir from into to obj k victim up) = true
is_shift _ = false
