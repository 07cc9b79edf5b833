-- Volumes, and what lists of updates leave of them.
use Rattle.std.specs.Prelude.{◌≡◌, ◌≢◌, ◌==◌, ℕ, T, Bool, true, not, ◌&&◌, ◌||◌, if◌then◌else◌, List, [], ◌∷◌, Option, None, Some}
use Rattle.std.specs.FinMap.{is_sorted}
use Rattle.ec_volume.specs.Entries.{by_bytes, entry}
use Rattle.ec_volume.specs.Image.{is_gone, is_dir, entries_of, new_object}
use Rattle.ec_volume.specs.Update.{root, has_operand, fits, effect}
use Rattle.ec_volume.specs.declared.image.Kind.{Kind}
use Rattle.ec_volume.specs.declared.image.Kind.TheVariants as kind
use Rattle.ec_volume.specs.declared.image.Image.{Image}
use Rattle.ec_volume.specs.declared.image.Image.TheVariants.{Gone, File, Dir}
use Rattle.ec_volume.specs.declared.update.Update.{Update}

-- A volume gives each id its image. The ids that aren't live are Gone.
abbrev pub Images : Type 0
Images = ℕ → Image

-- the volume of a list of ids and images
abbrev pub images : List (ℕ × Image) → Images
images [] o = Gone
images (e ∷ es) o = if o == e.0 then e.1 else images es o

-- the formatted volume: the root alone, an empty directory
abbrev pub formatted : Images
formatted o = if o == root then new_object kind.Dir else Gone

-- The image of the object o behind one more update, and behind a list of them.

abbrev pub image_next : ℕ → Image → Update → Image
image_next o i u = if has_operand o u then effect u o i else i

abbrev pub image_after : ℕ → Image → List Update → Image
image_after o i [] = i
image_after o i (u ∷ us) = image_after o (image_next o i u) us

-- The volume behind a list of updates: each object by itself.
abbrev pub after : Images → List Update → Images
after base us o = image_after o (base o) us

-- Each update in the list fits, at the operand o, what the ones before it leave there.
abbrev pub fits_in_turn : ℕ → Image → List Update → Bool
fits_in_turn o i [] = true
fits_in_turn o i (u ∷ us) = (not (has_operand o u) || fits u o i) && fits_in_turn o (image_next o i u) us

-- The list fits the volume, at each object.
abbrev pub Fits : Images → List Update → Type 0
Fits base us = (o : ℕ) → T (fits_in_turn o (base o) us)

-- Well-formed volumes.

-- the directory d has an entry of name n for o
abbrev pub Names : Images → ℕ → List ℕ → ℕ → Type 0
Names v d n o = entry (entries_of (v d)) n ≡ Some o

-- The root is a directory that no entry names, each other live id stands in exactly one entry of one directory, and each entry's id is live.
pub record WellFormed (v : Images) : Type 0 where
  pub maps : (d : ℕ) → T (is_sorted by_bytes (entries_of (v d)))
  pub root_is_dir : T (is_dir (v root))
  pub root_unnamed : (d : ℕ) (n : List ℕ) → ¬ Names v d n root
  pub named : (o : ℕ) → T (not (is_gone (v o))) → o ≢ root → (d : ℕ) × (n : List ℕ) × Names v d n o
  pub once : (o d e : ℕ) (m n : List ℕ) → Names v d m o → Names v e n o → (d ≡ e) × (m ≡ n)
  pub live : (o d : ℕ) (n : List ℕ) → Names v d n o → T (not (is_gone (v o)))

-- The object that a path reaches below the object o.
abbrev pub reach : Images → ℕ → List (List ℕ) → Option ℕ
reach v o [] = if is_gone (v o) then None else Some o
reach v o (n ∷ ns) = elim (entry (entries_of (v o)) n) [ None ↦ None | Some p ↦ reach v p ns ]

-- Every live object is reached from the root by names, however many.
abbrev pub AllReached : Images → Type 0
AllReached v = (o : ℕ) → T (not (is_gone (v o))) → (path : List (List ℕ)) × (reach v root path ≡ Some o)

-- What an object shows: its kind, mode, stamp, owner and bytes.
abbrev pub shown : Image → Option (Kind × ℕ × ℕ × ℕ × List ℕ)
shown Gone = None
shown (File m s w bs) = Some (kind.File, m, s, w, bs)
shown (Dir m s w es) = Some (kind.Dir, m, s, w, [])

-- The tree: what each path reaches. Volumes with one tree have one shape.
abbrev pub tree : Images → List (List ℕ) → Option (Kind × ℕ × ℕ × ℕ × List ℕ)
tree v path = elim (reach v root path) [ None ↦ None | Some o ↦ shown (v o) ]

abbrev pub HaveOneShape : Images → Images → Type 0
HaveOneShape v w = (path : List (List ℕ)) → tree v path ≡ tree w path
