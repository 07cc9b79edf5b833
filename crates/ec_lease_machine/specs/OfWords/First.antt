-- The first word of a line, as one of clocks and leases or none of them.
use Rattle.std.specs.Prelude.{◌≡◌, List, ◌∷◌}
use Rattle.ec_words.specs.Rows.{Word}
use Rattle.ec_lease_machine.specs.OfWords.Grammar.{IsClockWord}
use Rattle.ec_lease_machine.specs.declared.words.name.ClockWord.{ClockWord}

-- none of these words is the first one
abbrev pub NoClockIn : List Word → Type 0
NoClockIn ws = (w : Word) (rest : List Word) (k : ClockWord) → ws ≡ w ∷ rest → IsClockWord w k → ⊥

-- such a word is the first one, and these stand behind it
abbrev pub StartsClock : List Word → ClockWord → List Word → Type 0
StartsClock ws k rest = (w : Word) × ((ws ≡ w ∷ rest) × IsClockWord w k)
