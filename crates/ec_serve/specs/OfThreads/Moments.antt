-- What becomes of a server's links.
use Rattle.std.specs.Prelude.{◌≡◌, ◌⊎◌, ℕ, List, ◌∷◌, []}
use Rattle.ec_link.specs.Nets.{Ended as Bodies}
use Rattle.ec_lock.specs.Steps.{of}
use Rattle.ec_servernode.specs.declared.step.Step.{Step}
use Rattle.ec_servernode.specs.Run.{number_of}
use Rattle.ec_attend.specs.Links.{Refuses, WasReplaced, Carries}

-- a link that came back: what it gave and got, where told, and whether it was bad
abbrev pub Back : Type 0
Back = Bodies × ℕ

-- It had failed or closed, or the last that it gave was refused, or its clerk greeted on another link.
abbrev pub IsOver : ℕ → List Step → Back → Type 0
IsOver pass run b = (b.1 ≡ 1) ⊎ (Refuses b.0.0 ⊎ WasReplaced pass run)

-- Each of these links was served by the pass that stands at its place: the steps of the run with this number are those for the bodies that the link gave and got. It's over.
abbrev pub AreServed : List Step → List ℕ → List Back → Type 0
AreServed run [] [] = Unit {0}
AreServed run (n ∷ ns) (l ∷ ls) = Carries (of number_of n run) l.0.0 l.0.1 × IsOver n run l × AreServed run ns ls
AreServed run _ _ = ⊥
