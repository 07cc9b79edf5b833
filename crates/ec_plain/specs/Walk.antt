-- Walks along paths.
use Rattle.std.specs.Prelude.{◌+◌, ◌-◌, ℕ, Bool, true, false, ◌&&◌, if◌then◌else◌, List, [], ◌∷◌, length, take, None, Some}
use Rattle.ec_volume.specs.Entries.{entry, same_name}
use Rattle.ec_volume.specs.Image.{is_gone}
use Rattle.ec_volume.specs.Update.{root}
use Rattle.ec_volume.specs.Volume.{Images}
use Rattle.ec_volume.specs.declared.image.Image.TheVariants.{Gone, File, Dir}
use Rattle.ec_plain.specs.declared.call.Refusal.{Refusal}
use Rattle.ec_plain.specs.declared.call.Refusal.TheVariants as no

abbrev pub Path : Type 0
Path = List (List ℕ)

-- Where a walk comes to: an object, or a refusal.
pub data Reached : Type 0 where
  At : ℕ → Reached
  Not : Refusal → Reached

-- A walk: where it comes to, and the objects whose images it read, in order.
pub record Walk : Type 0 where
  pub to : Reached
  pub read : List ℕ

abbrev pub reading : ℕ → Walk → Walk
reading o w = record w { read = o ∷ w.read }

abbrev pub stop : Reached → Walk
stop r = record { to = r; read = [] }

-- The walk from the object o, which i names led to.
abbrev pub walk_from : Images → ℕ → ℕ → Path → Walk
walk_from v i o [] = reading o (stop (if is_gone (v o) then Not (no.NotFound i) else At o))
walk_from v i o (n ∷ ns) =
    reading o (elim (v o) [
      | Gone ↦ stop (Not (no.NotFound i))
      | File m s w bs ↦ stop (Not (no.NotDir i))
      | Dir m s w es ↦ elim (entry es n) [ None ↦ stop (Not (no.NotFound (i + 1))) | Some p ↦ walk_from v (i + 1) p ns ]
    ])

abbrev pub walk : Images → Path → Walk
walk v p = walk_from v 0 root p

-- All names but the last, and the last.
abbrev pub parent_of : Path → Path
parent_of p = take (length p - 1) p

abbrev pub last_of : Path → List ℕ
last_of [] = []
last_of (n ∷ []) = n
last_of (n ∷ m ∷ ns) = last_of (m ∷ ns)

abbrev pub same_path : Path → Path → Bool
same_path [] [] = true
same_path (m ∷ ms) (n ∷ ns) = same_name m n && same_path ms ns
same_path _ _ = false
