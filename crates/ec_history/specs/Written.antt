-- How the lists of lines are written: numbers in rising order, each once.
use Rattle.std.specs.Prelude.{T, ⊤}
use Rattle.ec_history.specs.declared.entry.Answer.{Answer}
use Rattle.ec_history.specs.declared.entry.Answer.TheVariants as answer
use Rattle.ec_history.specs.declared.shown.Shown.{Shown}
use Rattle.ec_history.specs.declared.shown.Shown.TheVariants.{Answered, Durable, Ended, Told}
use Rattle.ec_base.specs.SmallLaws.{rises}

abbrev pub IsAnswerInOrder : Answer → Type 0
IsAnswerInOrder (answer.Lost ns) = T (rises ns)
IsAnswerInOrder (answer.Reply r) = ⊤
IsAnswerInOrder (answer.NoRoom live reserved) = ⊤

-- The line's list, if it has one, rises.
abbrev pub IsInOrder : Shown → Type 0
IsInOrder (Answered l c cl a op) = IsAnswerInOrder a
IsInOrder (Durable c ns) = T (rises ns)
IsInOrder (Ended c ns) = T (rises ns)
IsInOrder (Told c ns) = T (rises ns)
IsInOrder _ = ⊤
