use Rattle.std.proofs.Common.{◌∙◌, ap, sym, arith, ℕ, Option}
use Rattle.std.specs.Prelude.{◌||◌}
use Rattle.ec_volume.specs.declared.update.Update.{Update}
use Rattle.ec_order.specs.OfNeeded.Needed.{is_needed}
use Rattle.ec_pending.specs.Pending.{is_asked}
use Rattle.ec_pending.proofs.Holding.{placed-at}
use Rattle.ec_pending.proofs.Walks.{walk-begins, walk-takes, walk-passes}
use Rattle.ec_pending.proofs.closed.closed.Goals as goal

pub back-init : goal.back-init
back-init c = walk-begins c.args.places.now (is_asked c.args.asked.now) c.args.held.now c.new-ops.result.items c.new-needed.result.others c.new-needed.result.ranges c.new-ops.ensures.items c.new-needed.ensures.others c.new-needed.ensures.ranges

pub back-preserved-in-Continue-branch-3 : goal.back-preserved-in-Continue-branch-3
back-preserved-in-Continue-branch-3 c =
    let x : ℕ × Option Update = c.index-held-at.result in
    let u = c.in-Some.update in
    let some = c.back-test.true in
    walk-takes c.args.places.now (is_asked c.args.asked.now) c.args.held.now c.back.at c.back.ops.items c.back.needed.others c.back.needed.ranges c.back.invariant x (omega (arith, some)) c.index-held-at.is u c.in-Some.is
    (ap (λ k. is_asked c.args.asked.now (placed-at (x.0, u) k) || is_needed c.back.needed.others c.back.needed.ranges u) (sym c.place_of.ensures) ∙ sym (c.in_ok-is_chosen.ensures x.0) ∙ c.if-branch.true)
    c.push.new.self.items c.add.new.self.others c.add.new.self.ranges c.in_ok-push.ensures.items c.in_ok-add.ensures

pub back-preserved : goal.back-preserved
back-preserved c =
    let x : ℕ × Option Update = c.index-held-at.result in
    let u = c.in-Some.update in
    let some = c.back-test.true in
    walk-passes c.args.places.now (is_asked c.args.asked.now) c.args.held.now c.back.at c.back.ops.items c.back.needed.others c.back.needed.ranges c.back.invariant x (omega (arith, some)) c.index-held-at.is u c.in-Some.is
    (ap (λ k. is_asked c.args.asked.now (placed-at (x.0, u) k) || is_needed c.back.needed.others c.back.needed.ranges u) (sym c.place_of.ensures) ∙ sym (c.in_ok-is_chosen.ensures x.0) ∙ c.if-branch.false)
