use Rattle.std.proofs.Common.{sym, ◌∙◌, ◌-◌, arith}
use Rattle.ec_judge.proofs.Tails.{none-before}
use Rattle.ec_judge.proofs.tail.first_of.Goals as goal

pub returns-then-is_up_to-clause-none : goal.returns-then-is_up_to-clause-none
returns-then-is_up_to-clause-none c =
    let most = c.back.invariant in
    let some = c.back-test.true in
    none-before c.args.named.now.clerk c.args.named.now.boot c.args.named.now.ops.now c.least-least.result c.args.kept.now (c.back.at - 1) c.index-kept-at.result c.least-least.ensures (omega (arith, most, some)) c.index-kept-at.is (sym c.is_up_to.ensures ∙ c.if-is_up_to.true) c.requires
