use Rattle.std.proofs.Common.{◌+◌, Ok, subst, rules}
use Rattle.ec_lock.specs.PassViews.{front}
use Rattle.ec_clerknode.specs.PassTurns.{Waits}
use Rattle.ec_clerknode.proofs.Turns.{turned_both, pending_ok, replied, failed_later}
use Rattle.ec_clerknode.proofs.shared.SharedClerk.make_call.Goals as goal

pub returns-in_err-heard-clause-turned : goal.returns-in_err-heard-clause-turned
returns-in_err-heard-clause-turned g c = turned_both (λ l. g.L.Link.faults l + g.L.Link.closes l) g.L.Link.given g.L.Link.got c.args.self.now.lock c.args.pass.now c.loop.pass c.wait.new.pass c.loop.invariant.2 c.wait.ensures.turned

pub returns-in_err-heard-clause-called : goal.returns-in_err-heard-clause-called
returns-in_err-heard-clause-called g c =
    let failed = failed_later c.args.pass.now.number c.loop.pass.number c.args.call (front c.args.pass.now) (front c.loop.pass) (front c.wait.new.pass) c.in_ok-number.number c.in_ok-number.place c.loop.invariant.2.stays.0 c.loop.invariant.2.goes.1 c.wait.ensures.turned.goes.1 c.loop.invariant.3 _ c.in_err-heard.ensures.waits in
    search (rules, failed)

pub returns-in-Some-reply-clause-called : goal.returns-in-Some-reply-clause-called
returns-in-Some-reply-clause-called g c =
    replied c.args.pass.now.number c.loop.pass.number c.args.call (front c.args.pass.now) (front c.loop.pass) (front c.wait.new.pass) c.in_ok-number.number c.in_ok-number.place c.loop.invariant.2.stays.0 c.loop.invariant.2.goes.1 c.wait.ensures.turned.goes.1 c.loop.invariant.3 c.in_ok-heard.heard c.in-Some-reply.reply
    (subst (λ r. Waits c.loop.pass.number (front c.loop.pass) (front c.wait.new.pass) c.in_ok-number.number c.in_ok-number.place (Ok (c.in_ok-heard.heard, r))) c.in-Some-reply.is c.in_ok-heard.ensures.waits)

pub loop-preserved : goal.loop-preserved
loop-preserved g c = (
  tt,
  tt,
  turned_both (λ l. g.L.Link.faults l + g.L.Link.closes l) g.L.Link.given g.L.Link.got c.args.self.now.lock c.args.pass.now c.loop.pass c.wait.new.pass c.loop.invariant.2 c.wait.ensures.turned,
  pending_ok c.args.pass.now.number c.loop.pass.number c.args.call (front c.args.pass.now) (front c.loop.pass) (front c.wait.new.pass) c.in_ok-number.number c.in_ok-number.place c.loop.invariant.2.stays.0 c.loop.invariant.2.goes.1 c.wait.ensures.turned.goes.1 c.loop.invariant.3 (c.in_ok-heard.heard, c.in_ok-heard.reply) c.in_ok-heard.ensures.waits,
)

pub loop-preserved-then-not-heard : goal.loop-preserved-then-not-heard
loop-preserved-then-not-heard g c = (
  tt,
  tt,
  turned_both (λ l. g.L.Link.faults l + g.L.Link.closes l) g.L.Link.given g.L.Link.got c.args.self.now.lock c.args.pass.now c.loop.pass c.wait.new.pass c.loop.invariant.2 c.wait.ensures.turned,
  pending_ok c.args.pass.now.number c.loop.pass.number c.args.call (front c.args.pass.now) (front c.loop.pass) (front c.wait.new.pass) c.in_ok-number.number c.in_ok-number.place c.loop.invariant.2.stays.0 c.loop.invariant.2.goes.1 c.wait.ensures.turned.goes.1 c.loop.invariant.3 (c.in_ok-heard.heard, c.in_ok-heard.reply) c.in_ok-heard.ensures.waits,
)
