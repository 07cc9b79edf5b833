-- What is kept leaves a well-formed volume.
use Rattle.std.proofs.Common.{T, List, [], ◌∷◌}
use Rattle.std.specs.List.{list_all}
use Rattle.ec_volume.specs.Update.{is_sound}
use Rattle.ec_volume.specs.Volume.{after, WellFormed}
use Rattle.ec_history.specs.History.{Each, Op, updates}
use Rattle.ec_history.proofs.OfLaws.ForFormed.KeptFormed.{kept-formed}
use Rattle.ec_coherence.specs.System.{System}
use Rattle.ec_coherence.specs.Images.{ImagesAgree}
use Rattle.ec_base.proofs.Bools.{and-both as and_both}

pub all-sound : (os : List Op) → Each (λ o. T (is_sound o.update)) os → T (list_all is_sound (updates os))
all-sound [] h = tt
all-sound (o ∷ os) h = and_both (is_sound o.update) (list_all is_sound (updates os)) h.0 (all-sound os h.1)

pub volume-formed : (g : System) → ImagesAgree g → WellFormed (after g.origin (updates g.ghost.kept))
volume-formed g im = kept-formed g.origin (updates g.ghost.kept) im.origin (all-sound g.ghost.kept im.sound) im.fits
