-- The lines of a transcript, and the first one outside the grammar.
use Rattle.std.specs.Prelude.{◌≡◌, ◌+◌, ℕ, List, [], ◌∷◌, ◌++◌, length, ⊤}
use Rattle.ec_history.specs.declared.shown.Shown.{Shown}
use Rattle.ec_script.specs.Lines.{lines_of}
use Rattle.ec_script.specs.declared.line.LineFault.TheVariants as unread
use Rattle.ec_shown.specs.Lines.{IsShown, IsUnfit}

-- each line is read so, and there are as many
abbrev pub AreShown : List (List ℕ) → List Shown → Type 0
AreShown [] [] = ⊤
AreShown (l ∷ ls) (s ∷ ss) = IsShown l s × AreShown ls ss
AreShown _ _ = ⊥

-- The line of this number, from 1, is the first outside the grammar, and this is its column.
pub record IsBadLine (bytes : List ℕ) (number column : ℕ) : Type 0 where
  pub above : List (List ℕ)
  pub shown : List Shown
  pub line : List ℕ
  pub below : List (List ℕ)
  pub parts : above ++ line ∷ below ≡ lines_of bytes
  pub number_is : number ≡ length above + 1
  pub read : AreShown above shown
  pub unfit : IsUnfit line (unread.At column)
