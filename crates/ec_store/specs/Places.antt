-- Where a checkpoint puts the images of objects: those that are kept stay in their slots, each other one goes to the least free slot, by rising ids.
use Rattle.std.specs.Prelude.{◌≡◌, ◌<◌, ◌≤◌, ◌*◌, ℕ, true, false, List, [], ◌∷◌, ◌++◌, length, drop, get_or, Option, None, Some}
use Rattle.std.specs.List.{flat_map}
use Rattle.ec_base.specs.Tables.{at}
use Rattle.ec_volume.specs.Update.{member, distinct, operands}
use Rattle.ec_volume.specs.declared.image.Image.{Image}
use Rattle.ec_codes.specs.Fields.{id}
use Rattle.ec_durable.specs.declared.record.Record.{Record}
use Rattle.ec_durable.specs.declared.record.Record.TheVariants.{Batch}
use Rattle.ec_stands.specs.declared.table.table.Version.TheVariants.{Two}
use Rattle.ec_stands.specs.Stands.{slot_code}

-- The slots that a table names, and in which of them the images of some objects stand, by their ids.
pub record ArePlaces (most : ℕ) (named : List ℕ) (kept : List (ℕ × ℕ)) : Type 0 where
  pub below : (n : ℕ) → member n named ≡ true → n < 2 * most
  pub few : length named ≤ most
  pub among : (o s : ℕ) → at o kept ≡ Some s → member s named ≡ true
  pub apart : (o p s : ℕ) → at o kept ≡ Some s → at p kept ≡ Some s → o ≡ p
  pub ids : (o s : ℕ) → at o kept ≡ Some s → id.fits o ≡ true

-- the slot of an object, by the one where it's kept and the free ones
abbrev pub slot_of : Option ℕ → List ℕ → ℕ
slot_of None free = get_or free 0 0
slot_of (Some s) free = s

-- the slots that are free then
abbrev pub rest_of : Option ℕ → List ℕ → List ℕ
rest_of None free = drop 1 free
rest_of (Some s) free = free

-- what is written of an object
abbrev pub piece_of : Option ℕ → List ℕ → ℕ × Image → List (ℕ × List ℕ)
piece_of None free e = (get_or free 0 0, (slot_code Two).spell e) ∷ []
piece_of (Some s) free e = []

abbrev pub placed : List (ℕ × ℕ) → List (ℕ × Image) → List ℕ → List (ℕ × ℕ)
placed kept [] free = []
placed kept (e ∷ es) free = (e.0, slot_of (at e.0 kept) free) ∷ placed kept es (rest_of (at e.0 kept) free)

abbrev pub pieces : List (ℕ × ℕ) → List (ℕ × Image) → List ℕ → List (ℕ × List ℕ)
pieces kept [] free = []
pieces kept (e ∷ es) free = piece_of (at e.0 kept) free e ++ pieces kept es (rest_of (at e.0 kept) free)

-- the objects that a record has as operands
abbrev pub touched : Record → List ℕ
touched (Batch c s b ops) = flat_map (λ op. operands op.1) ops
touched _ = []

-- Slots that may be written: below the limit, not named, each once.
pub record AreSpare (most : ℕ) (named free : List ℕ) : Type 0 where
  pub each : (n : ℕ) → member n free ≡ true → (n < 2 * most) × (member n named ≡ false)
  pub once : distinct free ≡ true

-- what is written of an object fits its slot
abbrev pub IsPlaced : List (ℕ × ℕ) → ℕ × Image → Type 0
IsPlaced kept e = at e.0 kept ≡ None → ((slot_code Two).fits e ≡ true) × (length ((slot_code Two).spell e) ≤ 65600)
