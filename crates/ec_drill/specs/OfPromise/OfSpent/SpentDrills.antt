-- Counters that drills over few lines spend.
use Rattle.std.specs.Prelude.{◌≤◌, ℕ, List, length}
use Rattle.ec_base.specs.Limits.{clerk_count}
use Rattle.ec_base.specs.Tables.{once}
use Rattle.ec_durable.specs.declared.state.Durable.{Durable}
use Rattle.ec_history.specs.Placing.{EachLine}
use Rattle.ec_history.specs.declared.shown.Shown.{Shown}
use Rattle.ec_protocol.specs.Drill.{Fates, Read, drill, named_in}
use Rattle.ec_drill.specs.OfPromise.OfSpent.Spent.{SpendsFew}

-- each line does
abbrev pub AllSpendFew : List Shown → Type 0
AllSpendFew shown = EachLine SpendsFew shown

-- so many lines a script may have
abbrev pub most_lines : ℕ
most_lines = 65536

-- So it is in all of the machine's drills over so few lines, which name sixteen clerks at most: on any disk, whatever it does in each step.
abbrev pub DrillsSpendFew : Type 0
DrillsSpendFew = (reads : List Read) (fates : List Fates) (d : Durable) → length reads ≤ most_lines → length (once (named_in reads)) ≤ clerk_count → AllSpendFew (drill reads fates d).0
