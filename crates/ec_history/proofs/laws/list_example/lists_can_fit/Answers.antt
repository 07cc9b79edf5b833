use Rattle.std.proofs.Common.{refl, []}
use Rattle.ec_history.specs.OfLaws.ListExample.{early, make_g}
use Rattle.ec_history.proofs.OfLaws.ForPlacing.Objects.{strangers}
use Rattle.ec_history.proofs.laws.list_example.lists_can_fit.Goals as goal

pub returns-clause-equal : goal.returns-clause-equal
returns-clause-equal c = strangers [] [] early make_g refl
