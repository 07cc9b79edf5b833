use Rattle.std.proofs.Common.{◌≡◌, ◌+◌, Err, IfSome, subst}
use Rattle.ec_lock.specs.PassViews.{front}
use Rattle.ec_clerknode.specs.declared.fault.NodeFault.TheVariants as fault
use Rattle.ec_clerknode.specs.PassTurns.{Worked}
use Rattle.ec_clerknode.proofs.Turns.{turned_both, called_later, none_begun, failed_first}
use Rattle.ec_clerknode.proofs.shared.SharedClerk.listen_and_call.Goals as goal

pub returns-in-Some-clause-called : goal.returns-in-Some-clause-called
returns-in-Some-clause-called g c =
    failed_first c.args.pass.now.number c.args.call (front c.args.pass.now) (front c.listen-heard.new.pass) (fault.Spent c.in-Some.counter)
    (subst (Worked c.args.pass.now.number (front c.args.pass.now) (front c.listen-heard.new.pass))
    (subst (λ o. IfSome o (λ counter. c.listen-heard.result ≡ Err (fault.Spent counter))) c.in-Some.is c.spent_in.ensures)
    c.listen-heard.ensures.worked)

pub returns-clause-turned : goal.returns-clause-turned
returns-clause-turned g c = turned_both (λ l. g.L.Link.faults l + g.L.Link.closes l) g.L.Link.given g.L.Link.got c.args.self.now.lock c.args.pass.now c.listen-heard.new.pass c.make_call.new.pass c.listen-heard.ensures.turned c.make_call.ensures.turned

pub returns-clause-called : goal.returns-clause-called
returns-clause-called g c =
    called_later c.args.pass.now.number c.listen-heard.new.pass.number c.args.call (front c.args.pass.now) (front c.listen-heard.new.pass) (front c.make_call.new.pass) c.listen-heard.ensures.turned.stays.0 c.listen-heard.ensures.turned.goes.1
    (none_begun c.args.pass.now.number (front c.args.pass.now) (front c.listen-heard.new.pass) c.listen-heard.result c.listen-heard.ensures.worked) c.make_call.result c.make_call.ensures.called
