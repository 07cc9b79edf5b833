-- What is proved of a run's lines with places as ids, as contracts name it.
use Rattle.std.specs.Prelude.{◌≤◌, ◌++◌, ◌≡◌, ℕ, T, not, List, []}
use Rattle.ec_volume.specs.Image.{is_gone}
use Rattle.ec_volume.specs.Volume.{Fits, Images, WellFormed}
use Rattle.ec_history.specs.History.{Throughout, kept, updates}
use Rattle.ec_history.specs.Lines.{IsStored}
use Rattle.ec_history.specs.Placing.{place}
use Rattle.ec_history.specs.declared.shown.Shown.{Shown}
use Rattle.ec_history.specs.OfLaws.NewIds.{IsNewId}
use Rattle.ec_coherence.specs.System.{System, base_of}
use Rattle.ec_lawful.specs.Headline.{FrontsAreLawful, placed_on}
use Rattle.ec_lawful.specs.Fresh.{FreshAgrees}

-- the ids in the history of each front of the lines are new
abbrev pub FreshIdsAreNew : Type 0
FreshIdsAreNew = (g : System) → FreshAgrees g → (front rest : List Shown) → front ++ rest ≡ g.ghost.shown → Throughout (IsNewId g.origin (base_of g).fresh) [] (place front)

-- So what is lawful with the ids that objects were given is lawful with places above all ids of the volume at the beginning; what durable lines name leaves the
-- same shape, and what is kept fits as before.
abbrev pub PlacesServe : Type 0
PlacesServe = (g : System) (top : ℕ) → FreshAgrees g → WellFormed g.origin → ((x : ℕ) → T (not (is_gone (g.origin x))) → x ≤ top)
    → ((most : ℕ) → FrontsAreLawful (base_of g) most g.ghost.shown → FrontsAreLawful (placed_on g.origin top) most g.ghost.shown)
    × ((disk : Images) → IsStored (base_of g) g.ghost.shown disk → IsStored (placed_on g.origin top) g.ghost.shown disk)
    × (Fits g.origin (updates (kept (base_of g) (place g.ghost.shown))) → Fits g.origin (updates (kept (placed_on g.origin top) (place g.ghost.shown))))
