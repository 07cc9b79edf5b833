-- A line.
use Rattle.std.specs.Prelude.{codes, refl, [], ◌∷◌}
use Rattle.std.proofs.Common.{inr}
use Rattle.ec_words.specs.declared.name.Keyword.TheVariants as keyword
use Rattle.ec_words.specs.Rows.{Begins}
use Rattle.ec_script.specs.declared.line.Line.TheVariants as line
use Rattle.ec_script.specs.Grammar.{Spells}

-- some words make up a line
pub a_line : Begins Spells []
a_line = (codes "stop" ∷ [], (line.Stop, (inr keyword.Stop, (refl, (tt, (refl, refl))))))
