use Rattle.std.proofs.Common.{◌+◌, rules}
use Rattle.ec_lock.specs.PassViews.{front}
use Rattle.ec_clerknode.proofs.Turns.{turned_both, parting_none, parted_ok, parted_bye, parted_failed}
use Rattle.ec_clerknode.proofs.shared.SharedClerk.bye.Goals as goal

pub returns-in_err-heard-clause-turned : goal.returns-in_err-heard-clause-turned
returns-in_err-heard-clause-turned g c = turned_both (λ l. g.L.Link.faults l + g.L.Link.closes l) g.L.Link.given g.L.Link.got c.args.self.now.lock c.args.pass.now c.loop.pass c.part-in-loop.new.pass c.loop.invariant.2 c.part-in-loop.ensures.turned

pub returns-in_err-heard-clause-worked : goal.returns-in_err-heard-clause-worked
returns-in_err-heard-clause-worked g c =
    let failed = parted_failed c.args.pass.now.number c.loop.pass.number (front c.args.pass.now) (front c.loop.pass) (front c.part-in-loop.new.pass) c.loop.invariant.2.stays.0 c.loop.invariant.2.goes.1 c.loop.invariant.3 _ c.in_err-heard.ensures.partings in
    search (rules, failed)

pub loop-preserved : goal.loop-preserved
loop-preserved g c = (
  tt,
  tt,
  turned_both (λ l. g.L.Link.faults l + g.L.Link.closes l) g.L.Link.given g.L.Link.got c.args.self.now.lock c.args.pass.now c.loop.pass c.part-in-loop.new.pass c.loop.invariant.2 c.part-in-loop.ensures.turned,
  parting_none c.args.pass.now.number c.loop.pass.number (front c.args.pass.now) (front c.loop.pass) (front c.part-in-loop.new.pass) c.loop.invariant.2.stays.0 c.loop.invariant.2.goes.1 c.loop.invariant.3 (c.in_ok-heard.heard, c.in_ok-heard.is_said) c.in_ok-heard.ensures.partings,
)

pub loop-preserved-then-not-heard : goal.loop-preserved-then-not-heard
loop-preserved-then-not-heard g c = (
  tt,
  tt,
  turned_both (λ l. g.L.Link.faults l + g.L.Link.closes l) g.L.Link.given g.L.Link.got c.args.self.now.lock c.args.pass.now c.loop.pass c.part-in-loop.new.pass c.loop.invariant.2 c.part-in-loop.ensures.turned,
  parting_none c.args.pass.now.number c.loop.pass.number (front c.args.pass.now) (front c.loop.pass) (front c.part-in-loop.new.pass) c.loop.invariant.2.stays.0 c.loop.invariant.2.goes.1 c.loop.invariant.3 (c.in_ok-heard.heard, c.in_ok-heard.is_said) c.in_ok-heard.ensures.partings,
)

pub returns-then-is_said-clause-turned : goal.returns-then-is_said-clause-turned
returns-then-is_said-clause-turned g c = turned_both (λ l. g.L.Link.faults l + g.L.Link.closes l) g.L.Link.given g.L.Link.got c.args.self.now.lock c.args.pass.now c.loop.pass c.part-in-loop.new.pass c.loop.invariant.2 c.part-in-loop.ensures.turned

pub returns-then-is_said-clause-worked : goal.returns-then-is_said-clause-worked
returns-then-is_said-clause-worked g c = parted_ok c.args.pass.now.number c.loop.pass.number (front c.args.pass.now) (front c.loop.pass) (front c.part-in-loop.new.pass) c.loop.invariant.2.stays.0 c.loop.invariant.2.goes.1 c.loop.invariant.3 (c.in_ok-heard.heard, c.in_ok-heard.is_said) (tt {0}) c.in_ok-heard.ensures.partings

pub returns-then-is_said-clause-goodbye : goal.returns-then-is_said-clause-goodbye
returns-then-is_said-clause-goodbye g c = parted_bye c.args.pass.now.number c.loop.pass.number (front c.args.pass.now) (front c.loop.pass) (front c.part-in-loop.new.pass) c.loop.invariant.2.stays.0 c.loop.invariant.2.goes.1 c.loop.invariant.3 (c.in_ok-heard.heard, c.in_ok-heard.is_said) c.if-is_said.true c.in_ok-heard.ensures.partings
