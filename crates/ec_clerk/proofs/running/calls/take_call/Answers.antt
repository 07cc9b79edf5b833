use Rattle.std.proofs.Common.{◌∙◌, sym}
use Rattle.ec_clerk.proofs.OfRunning.UnderWay.{call_taken, is_there}
use Rattle.ec_clerk.proofs.running.calls.take_call.Goals as goal

pub returns-in-Ok-clause-left : goal.returns-in-Ok-clause-left
returns-in-Ok-clause-left c =
    let has = is_there c.args.clerk c.args.no c.args.calls.now c.in-Some.own.now c.in-Some-remove.own c.remove-call.result c.in-Some.ensures c.in-Some-remove.ensures.value c.remove-call.ensures.value (sym c.contains.ensures ∙ c.if-contains.true) in
    call_taken c.args.clerk c.args.no c.args.calls.now c.remove.new.self c.insert.new.self c.in-Some-remove.own c.remove-call.new.self c.remove-call.result
    c.items-rising.ensures.sorted (sym c.in-Some-remove.ensures.value) c.in-Some-remove.ensures.others has c.remove-call.ensures.others c.in-Ok.ensures.ok
