-- States by their parts, and what tells of these that they are those of a well-formed state.
use Rattle.std.specs.Prelude.{◌≡◌, ◌≤◌, ◌&&◌, nat_lt, nat_le, ℕ, Bool, true, List, [], ◌∷◌, ◌++◌, length}
use Rattle.std.specs.List.{list_all, flat_map}
use Rattle.ec_base.specs.Tables.{keys}
use Rattle.ec_volume.specs.Held.{is_held}
use Rattle.ec_volume.specs.Image.{is_dir, entries_of}
use Rattle.ec_volume.specs.Update.{root, distinct}
use Rattle.ec_volume.specs.Volume.{images}
use Rattle.ec_volume.specs.declared.image.Image.{Image}
use Rattle.ec_codes.specs.Images.{ids_under}
use Rattle.ec_sessions.specs.Slots.{Slots, all_unspent}
use Rattle.ec_sessions.specs.WindowMarks.{times}
use Rattle.ec_durable.specs.declared.state.Durable.{Durable}
use Rattle.ec_durable.specs.WellFormed.{sessions_of, fits_slot}

abbrev pub state_with : ℕ → ℕ → ℕ → ℕ → Slots → List (ℕ × Image) → Durable
state_with most next_id next_session epoch slots es = record { volume = es; sessions = slots; next_id = next_id; next_session = next_session; epoch = epoch; max_objects = most }

-- the ids in the entries of all directories
abbrev pub named_ids : List (ℕ × Image) → List ℕ
named_ids es = flat_map (λ e. ids_under (entries_of e.1)) es

-- the ids that are live or unspent
abbrev pub used_ids : Slots → List (ℕ × Image) → List ℕ
used_ids slots es = keys es ++ all_unspent slots

-- what is asked of ids and sessions
abbrev pub is_in_order : ℕ → ℕ → ℕ → Slots → List (ℕ × Image) → Bool
is_in_order most next_id next_session slots es =
    nat_le (length (used_ids slots es)) most
    && list_all (λ o. nat_lt o next_id) (used_ids slots es)
    && list_all (fits_slot next_id) slots
    && list_all (λ s. nat_le 1 s && nat_lt s next_session) (sessions_of slots)
    && nat_le 1 next_session
    && distinct (used_ids slots es)
    && distinct (sessions_of slots)

-- Lists of numbers.

-- each number is above the one before it
abbrev pub is_rising : List ℕ → Bool
is_rising [] = true
is_rising (x ∷ []) = true
is_rising (x ∷ y ∷ ys) = nat_lt x y && is_rising (y ∷ ys)

abbrev pub AllFrom : ℕ → List ℕ → Type 0
AllFrom n [] = Unit {0}
AllFrom n (x ∷ xs) = (n ≤ x) × AllFrom n xs

-- no number is below the one before it
abbrev pub Ascends : List ℕ → Type 0
Ascends [] = Unit {0}
Ascends (x ∷ xs) = AllFrom x xs × Ascends xs

-- Volumes.

-- the root and the ids in all entries are the live ones, each once
abbrev pub AreNamedOnce : List (ℕ × Image) → Type 0
AreNamedOnce es = (n : ℕ) → times n (named_ids es ++ root ∷ []) ≡ times n (keys es)

-- The root is a directory, each object lives, and the root and the ids in all entries are the live ones, each once.
pub record IsTree (es : List (ℕ × Image)) : Type 0 where
  pub root_is_dir : is_dir (images es root) ≡ true
  pub held : list_all (λ e. is_held e.1) es ≡ true
  pub named : AreNamedOnce es
