-- What a drill over a script without faults gives.
use Rattle.std.specs.Prelude.{◌≤◌, ℕ, List, length}
use Rattle.ec_history.specs.History.{Each}
use Rattle.ec_volume.specs.Volume.{images}
use Rattle.ec_durable.specs.Durable.{formatted}
use Rattle.ec_durable.specs.WellFormed.{WellFormed}
use Rattle.ec_protocol.specs.Drill.{Fates, Read, drill}
use Rattle.ec_lawful.specs.Drills.{lines_in}
use Rattle.ec_lawful.specs.DrillRuns.{AreFit}
use Rattle.ec_quiet.specs.OfDeliveries.Runs.{AllRun}
use Rattle.ec_complete.specs.Complete.{IsComplete}
use Rattle.ec_complete.specs.PlainScripts.{IsPlainScript}

-- On a new disk, which runs in each step, such a script of at most 65,536 lines comes to its end, settles, and has the plain answers.
abbrev pub PlainScriptsAreComplete : Type 0
PlainScriptsAreComplete = (most : ℕ) (ls : List Read) (fs : List Fates) → WellFormed (formatted most) → length ls ≤ 65536 → AreFit ls → Each AllRun fs → IsPlainScript most ls
    → IsComplete (images (formatted most).volume) (lines_in ls) (drill ls fs (formatted most)).0 (drill ls fs (formatted most)).1
