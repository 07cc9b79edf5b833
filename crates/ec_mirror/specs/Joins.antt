-- The content that two disks get together, and the one of them that is read.
use Rattle.std.specs.Prelude.{ℕ, List, length, nat_le, if◌then◌else◌}
use Rattle.ec_half.specs.Contents.{Content}
use Rattle.ec_half.specs.Headers.{number_of}
use Rattle.ec_mirror.specs.declared.kept.Kept.{Kept}
use Rattle.ec_mirror.specs.declared.kept.Kept.TheVariants as left
use Rattle.ec_half.specs.OfSlots.Contents.{content, filled}

-- the content with the greater generation, the first one in a tie, with zeros up to the length of the other one
abbrev pub joined_of : ℕ → ℕ → List ℕ → List ℕ → List ℕ
joined_of m n first second = if nat_le n m then filled first (length second) else filled second (length first)

abbrev pub content_of : List ℕ → List ℕ → List ℕ
content_of x y = joined_of (number_of x) (number_of y) (content x) (content y)

-- the disk that is read
abbrev pub lead : Kept → Content → Content → Content
lead left.Both a b = a
lead left.Leaving a b = b
lead left.First a b = a
lead left.Second a b = b
