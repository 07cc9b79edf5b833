-- The text of what a world with leases shows.
use Rattle.std.specs.Prelude.{◌++◌, ◌∷◌, [], ℕ, List, codes}
use Rattle.std.specs.Fmt.{decimal}
use Rattle.ec_words.specs.OfText.Pieces.{clerk_text}
use Rattle.ec_words.specs.OfText.Lines.{shown_text}
use Rattle.ec_lease_machine.specs.declared.world.LeaseShown.{LeaseShown}
use Rattle.ec_lease_machine.specs.declared.world.LeaseShown.TheVariants.{Line, Held}

-- the clerk's session doesn't end before this moment
abbrev pub held_text : ℕ → ℕ → List ℕ
held_text c n = codes "held " ++ clerk_text c ++ codes " " ++ decimal n ++ codes "\n"

abbrev pub lease_text : LeaseShown → List ℕ
lease_text (Line s) = shown_text s
lease_text (Held c n) = held_text c n

-- the text of lines
abbrev pub lease_texts : List LeaseShown → List ℕ
lease_texts [] = []
lease_texts (s ∷ ss) = lease_text s ++ lease_texts ss
