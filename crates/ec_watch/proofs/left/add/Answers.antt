use Rattle.std.proofs.Common.{sym, ◌∙◌, true}
use Rattle.std.specs.Cmp.{nat_cmp_total}
use Rattle.std.specs.Ordering.{nat_cmp}
use Rattle.std.proofs.lemmas.Result.{on_ok_weaker}
use Rattle.ec_base.specs.SortedLaws.{sorted_on_ok}
use Rattle.ec_watch.proofs.Remaining.{added}
use Rattle.ec_watch.proofs.left.add.Goals as goal

pub returns-then-is_above-clause-sorted : goal.returns-then-is_above-clause-sorted
returns-then-is_above-clause-sorted c = sorted_on_ok nat_cmp nat_cmp_total c.insert.result c.args.op true c.args.rising.now c.insert.new.self c.insert.ensures.ok c.insert.ensures.err c.requires

pub returns-then-is_above-clause-ok : goal.returns-then-is_above-clause-ok
returns-then-is_above-clause-ok c =
    on_ok_weaker c.insert.result
    (λ is. added c.args.op c.args.rising.now c.insert.new.self c.args.others.now.items c.as_slice.result.now c.as_slice.ensures.value (sym c.is_empty.ensures ∙ c.if-is_empty.true) c.if-is_above.ensures is)
    c.insert.ensures.ok
