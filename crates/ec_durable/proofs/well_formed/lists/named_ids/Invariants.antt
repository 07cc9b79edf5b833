use Rattle.std.proofs.Common.{◌≡◌, take}
use Rattle.ec_durable.specs.OfWellFormed.WellFormed.{named_ids}
use Rattle.ec_durable.proofs.well_formed.lists.named_ids.Given as goal

abbrev pub invariant-images : goal.invariant-images
invariant-images l = l.ids.items ≡ named_ids (take l.image-index l.images)
