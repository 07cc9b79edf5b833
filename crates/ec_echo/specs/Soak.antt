-- What the program does with a script that it makes and drills itself.
use Rattle.std.specs.Prelude.{◌≡◌, ◌⊎◌, ◌+◌, ◌-◌, ℕ, List, [], ◌∷◌, ◌++◌, codes, Option}
use Rattle.std.specs.Fmt.{decimal}
use Rattle.ec_history.specs.declared.shown.Shown.{Shown}
use Rattle.ec_history.specs.declared.shown.Shown.TheVariants as shown
use Rattle.ec_script.specs.Lines.{lines_of}
use Rattle.ec_script.specs.declared.line.LineFault.TheVariants as fault
use Rattle.ec_shown.specs.Lines.{IsShown, IsUnfit}
use Rattle.ec_drill.specs.Drill.{Outside, IsDiskUntouched}
use Rattle.ec_drill.specs.declared.status.Status as drilled
use Rattle.ec_drill.specs.declared.status.Status.TheVariants as drill
use Rattle.ec_echo.specs.Made.{made_lines}
use Rattle.ec_echo.specs.Statuses.{of_drill}
use Rattle.ec_echo.specs.Written.{TellsText, WroteWith, WroteNothing}
use Rattle.ec_echo.specs.declared.soaking.Sort.{Sort}
use Rattle.ec_echo.specs.declared.soaking.Sort.TheVariants as sort
use Rattle.ec_echo.specs.declared.status.Status.{Status}
use Rattle.ec_echo.specs.declared.status.Status.TheVariants as status

-- Counting a transcript's lines.

abbrev pub sort_of : Shown → Sort
sort_of (shown.Answered line c call answer op) = sort.Answer
sort_of shown.Unsettled = sort.Unsettled
sort_of _ = sort.Other

-- The line is read so; one outside the grammar counts as nothing.
abbrev pub IsSort : List ℕ → Sort → Type 0
IsSort bytes s = ((line : Shown) × IsShown bytes line × (s ≡ sort_of line)) ⊎ ((column : ℕ) × IsUnfit bytes (fault.At column) × (s ≡ sort.Other))

abbrev pub AreSorts : List (List ℕ) → List Sort → Type 0
AreSorts [] [] = Unit {0}
AreSorts (bytes ∷ rest) (s ∷ ss) = IsSort bytes s × AreSorts rest ss
AreSorts _ _ = ⊥

abbrev pub answers_in : Sort → ℕ
answers_in sort.Answer = 1
answers_in _ = 0

abbrev pub unsettled_in : Sort → ℕ
unsettled_in sort.Unsettled = 1
unsettled_in _ = 0

-- how many calls were answered, each of which is once, and how many lines didn't settle
abbrev pub answers : List Sort → ℕ
answers [] = 0
answers (s ∷ ss) = answers_in s + answers ss

abbrev pub unsettled : List Sort → ℕ
unsettled [] = 0
unsettled (s ∷ ss) = unsettled_in s + unsettled ss

-- The summary.

abbrev pub named : List ℕ → ℕ → List ℕ
named name n = name ++ decimal n

-- Each line of the script calls: a call that isn't answered waits.
abbrev pub summary_text : ℕ → List Sort → List ℕ
summary_text number ss =
    ((((named (codes "soak ") number ++ named (codes " lines ") made_lines) ++ named (codes " answers ") (answers ss)) ++ named (codes " waiting ") (made_lines - answers ss)) ++ named (codes " unsettled ") (unsettled ss)) ++ 10 ∷ []

-- the last line, with its end
abbrev pub last_line : List ℕ → List (List ℕ) → List ℕ
last_line before [] = before
last_line before (line ∷ lines) = last_line line lines

abbrev pub last_text : List ℕ → List ℕ
last_text transcript = last_line [] (lines_of transcript) ++ 10 ∷ []

-- the counts of the transcript were written, or a part of that line, or nothing
abbrev pub TellsCounts : ℕ → List ℕ → Status → Option (List ℕ) → Option (List ℕ) → ℕ → ℕ → Type 0
TellsCounts number transcript result held now before later =
    ((ss : List Sort) × AreSorts (lines_of transcript) ss × WroteWith (summary_text number ss) status.Done result held now before later) ⊎ WroteNothing result held now

-- no line says why
abbrev pub TellsNothing : Status → Status → Option (List ℕ) → Option (List ℕ) → Type 0
TellsNothing st result held now = (result ≡ st) × (now ≡ held)

-- What is written of a drill that ended so with this transcript: its last line, where that says why it ended early.
abbrev pub Told : ℕ → drilled.Status → List ℕ → Status → Option (List ℕ) → Option (List ℕ) → ℕ → ℕ → Type 0
Told number drill.Done transcript result held now before later = TellsCounts number transcript result held now before later
Told number drill.BadLine transcript result held now before later = TellsText (last_text transcript) status.BadLine result held now before later
Told number drill.BadDisk transcript result held now before later = TellsText (last_text transcript) status.BadDisk result held now before later
Told number drill.Limit transcript result held now before later = TellsText (last_text transcript) status.Limit result held now before later
Told number drill.Spent transcript result held now before later = TellsText (last_text transcript) status.Spent result held now before later
Told number end transcript result held now before later = TellsNothing (of_drill end) result held now

-- there was no memory for the script
pub record IsUnmade (result : Status) (w : Outside) : Type 0 where
  pub result_is : result ≡ status.NoMemory
  pub held : w.sink.bytes_after ≡ w.sink.bytes
  pub disk : IsDiskUntouched w
