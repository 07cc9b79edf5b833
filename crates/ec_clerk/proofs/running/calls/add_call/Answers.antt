use Rattle.ec_clerk.proofs.OfRunning.UnderWay.{call_added}
use Rattle.ec_clerk.proofs.running.calls.add_call.Goals as goal

pub returns : goal.returns
returns c =
    call_added c.args.clerk c.args.no (c.args.line, c.args.call) c.args.calls.now c.take_calls-own.new.calls c.insert-2.new.self c.take_calls-own.result c.insert.new.self
    c.items-rising.ensures.sorted c.take_calls-own.ensures.own c.take_calls-own.ensures.left c.in_ok-insert.ensures.ok c.in_ok-insert-2.ensures.ok
