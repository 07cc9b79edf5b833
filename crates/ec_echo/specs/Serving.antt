-- What the program tells of a server that ended.
use Rattle.std.specs.Prelude.{ℕ, List, Option}
use Rattle.ec_history.specs.declared.shown.Shown.TheVariants as shown
use Rattle.ec_words.specs.OfText.Lines.{shown_text}
use Rattle.ec_serve.specs.Serve.{Outside, Serves}
use Rattle.ec_serve.specs.declared.ending.Ending.{Ending}
use Rattle.ec_serve.specs.declared.ending.Ending.TheVariants as ending
use Rattle.ec_echo.specs.Soak.{TellsNothing}
use Rattle.ec_echo.specs.Written.{TellsText}
use Rattle.ec_echo.specs.declared.status.Status.{Status}
use Rattle.ec_echo.specs.declared.status.Status.TheVariants as status

-- Each ending has its status. A bad disk and a spent counter are told by a line.
abbrev pub TellsEnding : Ending → Status → Option (List ℕ) → Option (List ℕ) → ℕ → ℕ → Type 0
TellsEnding ending.Done result held now before later = TellsNothing status.Done result held now
TellsEnding ending.DiskFailed result held now before later = TellsNothing status.DiskFault result held now
TellsEnding (ending.BadDisk place) result held now before later = TellsText (shown_text (shown.DiskBad place)) status.BadDisk result held now before later
TellsEnding ending.NetFailed result held now before later = TellsNothing status.NetFault result held now
TellsEnding ending.NoMemory result held now before later = TellsNothing status.NoMemory result held now
TellsEnding ending.NotStarted result held now before later = TellsNothing status.StartFault result held now
TellsEnding (ending.Spent n) result held now before later = TellsText (shown_text (shown.Spent n)) status.Spent result held now before later

-- So many links were served, or this is why not, and it was told.
abbrev pub Served : ℕ → Status → Option (List ℕ) → Option (List ℕ) → ℕ → ℕ → Outside → Type 0
Served count result held now before later w = (end : Ending) × Serves count end w × TellsEnding end result held now before later
