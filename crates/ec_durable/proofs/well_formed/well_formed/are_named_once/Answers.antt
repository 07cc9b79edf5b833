use Rattle.std.proofs.Common.{◌∙◌, subst, sym}
use Rattle.ec_durable.specs.OfWellFormed.WellFormed.{Ascends}
use Rattle.ec_durable.proofs.OfWellFormed.Sorting.{keys_ascend}
use Rattle.ec_durable.proofs.well_formed.well_formed.are_named_once.Goals as goal

pub are_these-requires : goal.are_these-requires
are_these-requires c = subst Ascends (sym (c.as_slice.ensures.value ∙ c.in_ok-ids.ensures)) (keys_ascend c.args.images.now c.requires)
