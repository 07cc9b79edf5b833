use Rattle.std.proofs.Common.{◌<◌, ◌+◌, refl, sym, ap, ◌∙◌, arith, length, take, drop, get_or}
use Rattle.ec_history.specs.Placing.{late, ops_in}
use Rattle.ec_legal.specs.Watches.{own_call}
use Rattle.ec_legal.proofs.Late.{late-step, held-step, carry}
use Rattle.ec_legal.proofs.placing.push_late.Goals as goal
use Rattle.ec_history.proofs.OfLaws.ForPlacing.Late.{ops_in-append as ops-append}

pub loop-at-preserved : goal.loop-at-preserved
loop-at-preserved c =
    let ss = c.args.lines.now.shown.now in
    let i = c.loop-at.at in
    let k = c.args.clerk in
    let b = c.args.boot in
    let found = c.index-lines-at.result in
    let s = get_or ss i found in
    let within : i < length ss = omega (arith, c.loop-at-test.true) in
    let goes = sym c.is_end_of.ensures ∙ c.if-is_end_of.false in
    let step = late-step k b ss i s found within refl goes c.loop-at.invariant.2 in
    let one = own_call k b (take i ss) s in
    let rest = late k (take (i + 1) ss) (drop (i + 1) ss) in (
      carry _ c.loop-at.entries.items c.push_own.new.entries.items _ one rest c.loop-at.invariant.0 c.in_ok-push_own.ensures.entries step,
      carry _ c.loop-at.ops.items c.push_own.new.ops.items _ (ops_in one) (ops_in rest) c.loop-at.invariant.1 c.in_ok-push_own.ensures.ops (ap ops_in step ∙ ops-append one rest),
      held-step k b ss i s found within refl goes c.loop-at.invariant.2,
    )
