use Rattle.std.proofs.Common.{refl, false, [], ◌∷◌}
use Rattle.ec_volume.specs.Volume.{after}
use Rattle.ec_volume.specs.declared.update.Update.TheVariants.{Put}
use Rattle.ec_history.specs.OfLaws.Example.{two_files}
use Rattle.ec_history.proofs.OfLaws.ForPlacing.Objects.{fits-operands}
use Rattle.ec_history.proofs.laws.list_example.losses_can_be_untouched.Goals as goal

pub returns-clause-fitting : goal.returns-clause-fitting
returns-clause-fitting c = (
  (fits-operands two_files.volume (Put 2 0 (120 ∷ []) false) refl, tt),
  ((fits-operands (after two_files.volume (Put 2 0 (120 ∷ []) false ∷ [])) (Put 3 0 (120 ∷ []) false) refl, tt), tt),
)
