use Rattle.ec_base.specs.SortedLaws.{sorted_without}
use Rattle.ec_volume.specs.Entries.{by_bytes}
use Rattle.ec_volume.proofs.entries.Entries.remove.Goals as goal

pub invariant_of-self : goal.invariant_of-self
invariant_of-self c = sorted_without by_bytes c.args.name.now c.self.inside.map _ c.remove.ensures.others c.self.invariant
