-- Write-behind over a script: each piece of lines makes durable only what its line of the script asks for, as contracts name it.
use Rattle.std.specs.Prelude.{List, [], ◌∷◌, ◌++◌, ⊤}
use Rattle.ec_history.specs.History.{Base}
use Rattle.ec_history.specs.declared.shown.Shown.{Shown}
use Rattle.ec_lawful.specs.Headline.{Lines, Pieces}
use Rattle.ec_quiet.specs.OfDeliveries.Scripts.{AreWriteBehind}

-- Each piece is that of its line, behind the lines of the pieces before it: each operation that a durable line of it names lies in a closure that its line asks for.
-- No piece is without its line.
abbrev pub ArePiecesBehind : Base → Lines → List Shown → Pieces → Type 0
ArePiecesBehind base ls past [] = ⊤
ArePiecesBehind base [] past (p ∷ ps) = ⊥
ArePiecesBehind base (l ∷ ls) past (p ∷ ps) = AreWriteBehind base l past p × ArePiecesBehind base ls (past ++ p) ps
