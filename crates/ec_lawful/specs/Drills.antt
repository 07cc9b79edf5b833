-- A run over the lines of a script: what holds of its end, and how its lines stand to those of the script.
use Rattle.std.specs.Prelude.{List, [], ◌∷◌}
use Rattle.ec_protocol.specs.Drill.{Read, reads, unfit}
use Rattle.ec_lawful.specs.Headline.{Lines}

-- the lines of the script that fit its grammar
abbrev pub lines_in : List Read → Lines
lines_in [] = []
lines_in (reads l column ∷ ls) = l ∷ lines_in ls
lines_in (unfit column ∷ ls) = lines_in ls
