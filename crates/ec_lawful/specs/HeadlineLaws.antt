-- What is proved of what a run shows, as contracts name it.
use Rattle.std.specs.Prelude.{◌≡◌, ◌≤◌, ℕ, List, [], ◌∷◌, ◌++◌, length}
use Rattle.ec_base.specs.Tables.{at_or}
use Rattle.ec_volume.specs.Volume.{images}
use Rattle.ec_history.specs.declared.shown.Shown.{Shown}
use Rattle.ec_coherence.specs.System.{System, base_of}
use Rattle.ec_coherence.specs.CommitLaws.{AllAgree}
use Rattle.ec_history.specs.OfLaws.Accounts.{LinesTell}
use Rattle.ec_lawful.specs.Headline.{FrontsAreLawful}
use Rattle.ec_lawful.specs.LawfulRuns.{ShowLawfully}

-- The lines tell what became of each operation, and each front of them is lawful.
pub record TellsAll (g : System) : Type 0 where
  pub told : LinesTell (base_of g) g.ghost.shown
  pub fronts : FrontsAreLawful (base_of g) g.durable.max_objects g.ghost.shown

-- nothing was shown yet
abbrev pub NothingTells : Type 0
NothingTells = (g : System) → g.ghost.shown ≡ [] → TellsAll g

-- Behind a step with these lines the run is the same: its origin, its greatest number of objects, and the ids at the places so far.
pub record GoesBy (g h : System) (ss : List Shown) : Type 0 where
  pub origin : h.origin ≡ g.origin
  pub most : h.durable.max_objects ≡ g.durable.max_objects
  pub shown : h.ghost.shown ≡ g.ghost.shown ++ ss
  pub fresh : (p : ℕ) → p ≤ length g.ghost.shown → at_or 0 p h.ghost.fresh ≡ at_or 0 p g.ghost.fresh

-- it goes on so behind a step that shows nothing, and behind one that shows a line
abbrev pub QuietTells : Type 0
QuietTells = (g h : System) → GoesBy g h [] → TellsAll g → TellsAll h

abbrev pub LineTells : Type 0
LineTells = (g h : System) (s : Shown) → AllAgree g → AllAgree h → GoesBy g h (s ∷ []) → TellsAll g → TellsAll h

-- where all facts hold, and lines tell so, they show a lawful run
abbrev pub FactsShow : Type 0
FactsShow = (g : System) → AllAgree g → TellsAll g → ShowLawfully (base_of g) g.durable.max_objects g.ghost.shown (images g.durable.volume)
