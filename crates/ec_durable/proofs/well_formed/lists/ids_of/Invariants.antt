use Rattle.std.proofs.Common.{◌≡◌, take}
use Rattle.ec_base.specs.Tables.{keys}
use Rattle.ec_durable.proofs.well_formed.lists.ids_of.Given as goal

abbrev pub invariant-images : goal.invariant-images
invariant-images l = l.ids.items ≡ keys (take l.image-index l.images)
