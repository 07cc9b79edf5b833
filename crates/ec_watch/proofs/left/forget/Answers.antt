use Rattle.std.specs.Cmp.{nat_cmp_total}
use Rattle.std.specs.Ordering.{nat_cmp}
use Rattle.std.specs.Prelude.{false}
use Rattle.ec_base.specs.SortedLaws.{sorted_on_some}
use Rattle.ec_watch.proofs.Remaining.{left-without}
use Rattle.ec_watch.proofs.left.forget.Goals as goal

pub returns-clause-sorted : goal.returns-clause-sorted
returns-clause-sorted c = sorted_on_some nat_cmp nat_cmp_total c.replace.result c.args.op false c.args.rising.now c.replace.new.self c.replace.ensures.some c.replace.ensures.none c.requires

pub returns-clause-left : goal.returns-clause-left
returns-clause-left c = left-without c.args.op c.replace.result c.args.rising.now c.replace.new.self c.requires c.replace.ensures.value c.replace.ensures.some c.replace.ensures.none
