use Rattle.std.specs.Cmp.Lexicographic.{nat_list_cmp_total}
use Rattle.ec_base.specs.SortedLaws.{sorted_on_ok}
use Rattle.ec_volume.specs.Entries.{by_bytes}
use Rattle.ec_volume.proofs.entries.Entries.add.Goals as goal

pub invariant_of-self-2 : goal.invariant_of-self-2
invariant_of-self-2 c = sorted_on_ok by_bytes nat_list_cmp_total c.insert.result c.args.name.now c.args.id c.self.inside.map _ (rw c.in_ok-duplicate.ensures at c.insert.ensures.ok) c.insert.ensures.err c.self.invariant
