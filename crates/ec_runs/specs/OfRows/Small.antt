-- Small volumes, on which updates and calls are tried.
use Rattle.std.specs.Prelude.{◌+◌, ℕ, zero, suc, [], ◌∷◌, map, Option, codes}
use Rattle.ec_volume.specs.Entries.{Entries}
use Rattle.ec_volume.specs.Update.{Above, operands, first_unfit}
use Rattle.ec_volume.specs.Volume.{Images, images, after}
use Rattle.ec_volume.specs.declared.image.Image.{Image}
use Rattle.ec_volume.specs.declared.image.Image.TheVariants.{File, Dir}
use Rattle.ec_volume.specs.declared.update.Update.{Update}

-- so many entries, whose names are the single bytes from this one on, and whose ids are these bytes
abbrev pub bytes_from : ℕ → ℕ → Entries
bytes_from zero byte = []
bytes_from (suc k) byte = (byte ∷ [], byte) ∷ bytes_from k (byte + 1)

-- the files /f and /d/x, and the empty directories /e, /d/s and /d/t
abbrev pub small : Images
small o =
    images
    ((1, Dir 493 0 0 ((codes "d", 3) ∷ (codes "e", 5) ∷ (codes "f", 2) ∷ []))
    ∷ (2, File 420 0 0 (codes "hi"))
    ∷ (3, Dir 448 5 6 ((codes "s", 6) ∷ (codes "t", 8) ∷ (codes "x", 4) ∷ []))
    ∷ (4, File 384 9 7 (codes "abcdef"))
    ∷ (5, Dir 493 0 0 [])
    ∷ (6, Dir 493 0 0 [])
    ∷ (8, Dir 493 0 0 [])
    ∷ []) o

-- the file /f, the empty directory /d/s, and the directory /full with 128 empty files
abbrev pub crowded : Images
crowded o =
    images
    ((1, Dir 493 0 0 ((codes "d", 3) ∷ (codes "f", 2) ∷ (codes "full", 7) ∷ []))
    ∷ (2, File 420 0 0 (codes "hi"))
    ∷ (3, Dir 493 0 0 ((codes "s", 6) ∷ []))
    ∷ (6, Dir 493 0 0 [])
    ∷ (7, Dir 493 0 0 (bytes_from 128 100))
    ∷ map (λ e. (e.1, File 420 0 0 [])) (bytes_from 128 100)) o

-- the first operand of the update that it doesn't fit
abbrev pub unfit : Images → Update → Option ℕ
unfit v u = first_unfit u v (operands u)

-- the object's image behind the update
abbrev pub image_behind : Update → ℕ → Image
image_behind u o = after small (u ∷ []) o

-- so many directories, from the root on
abbrev pub numbered_from : ℕ → ℕ → Above
numbered_from zero o = []
numbered_from (suc k) o = (o, codes "n") ∷ numbered_from k (o + 1)

abbrev pub way : ℕ → Above
way zero = []
way (suc k) = (1, codes "n") ∷ numbered_from k 100
