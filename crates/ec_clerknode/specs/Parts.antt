-- The parts of a list of steps, each over a link of its own: a `Linked` step begins the next one.
use Rattle.std.specs.Prelude.{Bool, true, false, List, [], ◌∷◌}
use Rattle.ec_clerknode.specs.declared.step.Deed.{Deed}
use Rattle.ec_clerknode.specs.declared.step.Deed.TheVariants.{Linked}
use Rattle.ec_clerknode.specs.declared.step.Step.{Step}

abbrev pub is_linked : Deed → Bool
is_linked Linked = true
is_linked _ = false

-- all parts in order. Without a `Linked` step they are the list alone.
abbrev pub onto : Step → Bool → List (List Step) → List (List Step)
onto s new [] = (s ∷ []) ∷ []
onto s true (p ∷ ps) = [] ∷ (s ∷ p) ∷ ps
onto s false (p ∷ ps) = (s ∷ p) ∷ ps

abbrev pub parts : List Step → List (List Step)
parts [] = [] ∷ []
parts (s ∷ ss) = onto s (is_linked s.deed) (parts ss)
