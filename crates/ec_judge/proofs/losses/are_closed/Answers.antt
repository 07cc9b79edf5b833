use Rattle.std.proofs.Common.{◌-◌, sym, ◌∙◌, length, arith}
use Rattle.std.proofs.lemmas.Bool.{and_from}
use Rattle.std.proofs.lemmas.List.{drop_all}
use Rattle.ec_volume.specs.Update.{member}
use Rattle.ec_history.specs.History.{of_start, is_one_of}
use Rattle.ec_judge.specs.Carried.{op_of}
use Rattle.ec_judge.proofs.Outsides.{closing-begins, closing-inside, closing-fails}
use Rattle.ec_judge.proofs.losses.are_closed.Goals as goal

pub back-init : goal.back-init
back-init c = (
  closing-begins (is_one_of c.args.named.now.clerk c.args.named.now.boot c.args.named.now.ops.now) (of_start c.args.named.now.clerk c.args.named.now.boot) c.args.kept.now (length c.args.kept.now) c.new-outside.result.objs c.new-outside.result.others (drop_all (length c.args.kept.now) c.args.kept.now (omega arith)) c.new-outside.ensures.objs c.new-outside.ensures.others,
  omega arith,
)

pub returns-then-branch : goal.returns-then-branch
returns-then-branch c =
    let k = c.index-kept-at.result in
    let most = c.back.invariant.1 in
    let some = c.back-test.true in
    let mine = sym c.is_own.ensures ∙ c.if-not-is_own.false in
    let inside = and_from (of_start c.args.named.now.clerk c.args.named.now.boot (op_of k)) (member k.number c.args.named.now.ops.now) mine (sym c.has.ensures ∙ c.if-not-has.false) in
    closing-fails (is_one_of c.args.named.now.clerk c.args.named.now.boot c.args.named.now.ops.now) (of_start c.args.named.now.clerk c.args.named.now.boot) c.args.kept.now c.back.at (c.back.at - 1) k (omega (arith, some)) (omega (arith, most, some)) c.index-kept-at.is c.back.outside.objs c.back.outside.others c.back.invariant.0 mine inside (sym (rw c.if-branch.true at c.in_ok-is_after.ensures))

pub back-preserved : goal.back-preserved
back-preserved c =
    let k = c.index-kept-at.result in
    let most = c.back.invariant.1 in
    let some = c.back-test.true in
    let mine = sym c.is_own.ensures ∙ c.if-not-is_own.false in
    let inside = and_from (of_start c.args.named.now.clerk c.args.named.now.boot (op_of k)) (member k.number c.args.named.now.ops.now) mine (sym c.has.ensures ∙ c.if-not-has.false) in (
      closing-inside (is_one_of c.args.named.now.clerk c.args.named.now.boot c.args.named.now.ops.now) (of_start c.args.named.now.clerk c.args.named.now.boot) c.args.kept.now c.back.at (c.back.at - 1) k (omega (arith, some)) (omega (arith, most, some)) c.index-kept-at.is c.back.outside.objs c.back.outside.others c.back.invariant.0 mine inside (sym (rw c.if-branch.false at c.in_ok-is_after.ensures)),
      omega (arith, most),
    )
