-- Scripts without faults, told by their lines alone, and what a drill over them gives.
use Rattle.std.specs.Prelude.{◌≤◌, ◌+◌, ◌*◌, ℕ, List, [], ◌∷◌, length, ⊤}
use Rattle.ec_base.specs.Tables.{once}
use Rattle.ec_history.specs.History.{Each}
use Rattle.ec_volume.specs.Volume.{Images, images}
use Rattle.ec_durable.specs.Durable.{formatted}
use Rattle.ec_protocol.specs.Drill.{Read, named_in}
use Rattle.ec_protocol.specs.declared.script.Line.{Line}
use Rattle.ec_protocol.specs.declared.script.Line.TheVariants as line
use Rattle.ec_lawful.specs.Creates.{creates}
use Rattle.ec_lawful.specs.Drills.{lines_in}
use Rattle.ec_machine_laws.specs.Answers.{Plainly, after_call, none_yet, outcome_on}
use Rattle.ec_complete.specs.Complete.{IsFaultlessRead}
use Rattle.ec_base.specs.Bools.{one_if}

-- Pushes.

-- What the lines so far come to on the plain volume, behind one more. A new object has the id that is this one plus the number of its call's line; how many
-- operations there are doesn't depend on ids.
abbrev pub behind_line : Images → ℕ → ℕ → Line → Plainly → Plainly
behind_line v top number (line.Call c cl) s = after_call s c (outcome_on v s cl (top + number)).update
behind_line v top number _ s = s

-- a push names an operation that its clerk issued
abbrev pub IsPushed : Plainly → Line → Type 0
IsPushed s (line.Push c n) = (1 ≤ n) × (n ≤ s.issued c)
IsPushed s _ = ⊤

-- so does each of these lines, of which the first one has this number
abbrev pub ArePushed : Images → ℕ → ℕ → Plainly → List Line → Type 0
ArePushed v top number s [] = ⊤
ArePushed v top number s (l ∷ ls) = IsPushed s l × ArePushed v top (number + 1) (behind_line v top number l s) ls

-- Room.

abbrev pub makes_one : Line → ℕ
makes_one (line.Call c cl) = one_if (creates cl)
makes_one _ = 0

-- how many of the lines make a directory or create a file
abbrev pub makes : List Line → ℕ
makes [] = 0
makes (l ∷ ls) = makes_one l + makes ls

-- The script's lines stand in the grammar, and are comments, calls and pushes; each push names an operation that its clerk issued before; and there is room for
-- its objects, and for sixteen ids of each clerk that it names, beside the root.
pub record IsPlainScript (most : ℕ) (ls : List Read) : Type 0 where
  pub faultless : Each IsFaultlessRead ls
  pub pushes : ArePushed (images (formatted most).volume) 1 1 none_yet (lines_in ls)
  pub room : makes (lines_in ls) + 16 * length (once (named_in ls)) + 1 ≤ most
