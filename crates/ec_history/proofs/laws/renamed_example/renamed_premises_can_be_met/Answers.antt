use Rattle.std.proofs.Common.{refl, inl, inr}
use Rattle.ec_order.specs.Order.{ask}
use Rattle.ec_history.specs.OfLaws.RenamedExample.{new_h}
use Rattle.ec_history.proofs.laws.renamed_example.renamed_premises_can_be_met.Goals as goal

pub returns-clause-covers : goal.returns-clause-covers
returns-clause-covers c = record { own = tt; closed_in = ask 2 (new_h 5) (inr (inl (refl, refl))) tt; not_lost = tt }
