use Rattle.std.proofs.lemmas.Bool.{and_parts}
use Rattle.ec_volume.specs.Update.{operands}
use Rattle.ec_cache.specs.Cache.{images_held}
use Rattle.ec_doing.proofs.Steps.{none_unfit, holds_true}
use Rattle.ec_doing.proofs.doing.Doing.add_update.Goals as goal

pub change-requires-clause-sound : goal.change-requires-clause-sound
change-requires-clause-sound c = holds_true _ (and_parts _ _ c.requires).0

pub change-requires-clause-fits : goal.change-requires-clause-fits
change-requires-clause-fits c = none_unfit c.args.update (images_held c.args.self.now.cache) (operands c.args.update) (and_parts _ _ c.requires).1
