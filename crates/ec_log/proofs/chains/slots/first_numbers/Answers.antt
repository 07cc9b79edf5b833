use Rattle.std.proofs.Common.{ap, sym, ◌∙◌, ◌<◌, arith, length, true, false}
use Rattle.ec_log.proofs.OfChains.Live.{numbers-more, numbers-full, numbers-few}
use Rattle.ec_log.proofs.chains.slots.first_numbers.Goals as goal
use Rattle.ec_log.proofs.chains.slots.first_numbers.Goals.{then-is_some+in_ok-push, else-is_some}

pub returns-then-as_slice-most : goal.returns-then-as_slice-most
returns-then-as_slice-most c =
    let n = ap length c.as_slice.ensures.value in
    let full = c.if-as_slice-most.true in
    numbers-full c.args.held.now c.each.op-index c.args.most c.each.ops.items c.each.invariant.0 c.each.invariant.1 (omega (arith, n, full))

pub each-preserved : goal.each-preserved
each-preserved c =
    let n = ap length c.as_slice.ensures.value in
    let few = c.if-as_slice-most.false in
    let less : length c.each.ops.items < c.args.most = omega (arith, n, few) in
    let held = c.args.held.now in
    let x = c.each-item.result in
    elim c.if-is_some.branch [
      | then-is_some+in_ok-push w ↦
          let more = ap (λ v. v.items) w.ops-is ∙ w.in_ok-push.ensures.items in (
            numbers-more held c.each.op-index x c.each-test.true c.each-item.is true (sym w.if-is_some.true ∙ c.is_some.ensures) c.each.ops.items c.if-is_some.ops.items c.each.invariant.0 more,
            numbers-few x.0 c.args.most c.each.ops.items c.if-is_some.ops.items less more,
          )
      | else-is_some w ↦
          let same = ap (λ v. v.items) w.ops-is in (
            numbers-more held c.each.op-index x c.each-test.true c.each-item.is false (sym w.if-is_some.false ∙ c.is_some.ensures) c.each.ops.items c.if-is_some.ops.items c.each.invariant.0 same,
            let m = ap length same in omega (arith, less, m),
          )
    ]
