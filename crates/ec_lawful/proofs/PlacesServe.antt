-- Lines are lawful with places as ids.
use Rattle.std.proofs.Common.{◌≤◌, ℕ, T, not, [], append-nil}
use Rattle.ec_volume.specs.Image.{is_gone}
use Rattle.ec_volume.specs.Volume.{Fits, Images, WellFormed}
use Rattle.ec_history.specs.History.{kept, updates}
use Rattle.ec_history.specs.Lines.{IsStored}
use Rattle.ec_history.specs.Placing.{place}
use Rattle.ec_history.proofs.OfLaws.ForRenamed.Placed.{covered-there, fits-there, legal-there, stored-there}
use Rattle.ec_coherence.specs.System.{System, base_of}
use Rattle.ec_lawful.specs.Headline.{FrontsAreLawful, placed_on}
use Rattle.ec_lawful.specs.Fresh.{FreshAgrees}
use Rattle.ec_lawful.proofs.News.{ids-new}

module _ (g : System) (top : ℕ) (fresh : FreshAgrees g) (formed : WellFormed g.origin) (above : (x : ℕ) → T (not (is_gone (g.origin x))) → x ≤ top) where
  abbrev f : ℕ → ℕ
  f = (base_of g).fresh

  pub fronts-there : (most : ℕ) → FrontsAreLawful (base_of g) most g.ghost.shown → FrontsAreLawful (placed_on g.origin top) most g.ghost.shown
  fronts-there most lawful front rest e =
      let l = lawful front rest e in
      let t = ids-new g fresh front rest e in
      record { placed = l.placed; history = legal-there g.origin f top front formed above t most l.history; fsync = covered-there g.origin f top front formed above t l.fsync }

  pub disk-there : (disk : Images) → IsStored (base_of g) g.ghost.shown disk → IsStored (placed_on g.origin top) g.ghost.shown disk
  disk-there disk s = stored-there g.origin f top g.ghost.shown formed above (ids-new g fresh g.ghost.shown [] (append-nil g.ghost.shown)) disk s

  pub kept-there : Fits g.origin (updates (kept (base_of g) (place g.ghost.shown))) → Fits g.origin (updates (kept (placed_on g.origin top) (place g.ghost.shown)))
  kept-there k = fits-there g.origin f top g.ghost.shown formed above (ids-new g fresh g.ghost.shown [] (append-nil g.ghost.shown)) k
