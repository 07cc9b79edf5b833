use Rattle.std.proofs.Common.{true, false, refl, sym, ◌∙◌, rules}
use Rattle.ec_servernode.specs.declared.step.Deed.TheVariants.{Halted, Broke}
use Rattle.ec_servernode.specs.declared.step.Step.{Step}
use Rattle.ec_servernode.specs.Folded.{message_taken}
use Rattle.ec_servernode.specs.Node.{state_of}
use Rattle.ec_servernode.proofs.Nodes.{took, stopped, broke, halting, in_doubt}
use Rattle.ec_servernode.proofs.Ends.{no_fault_up, same_caller, next_caller, fell_more, grew_takes, stop_fails, check_takes}
use Rattle.ec_servernode.proofs.state.Node.take.Goals as goal

pub take-requires-clause-stands : goal.take-requires-clause-stands
take-requires-clause-stands g c = c.requires.since.1.stands

pub took-requires-clause-sized : goal.took-requires-clause-sized
took-requires-clause-sized g c = c.requires.since.1.sized

pub returns-in_err-check-clause-keeps : goal.returns-in_err-check-clause-keeps
returns-in_err-check-clause-keeps g c first s = s

pub returns-in_err-check-clause-takes : goal.returns-in_err-check-clause-takes
returns-in_err-check-clause-takes g c =
    let b = check_takes c.args.pass c.args.body.value.items c.args.self.now c.in_err-check.field-0.0 c.in_err-check.ensures.err in
    search (rules, b)

pub returns-in-Ok-clause-keeps : goal.returns-in-Ok-clause-keeps
returns-in-Ok-clause-keeps g c =
    took g.K.Keeper.kept g.K.Keeper.counts g.K.Keeper.did g.K.Keeper.broke c.args.pass c.args.from c.args.body c.args.msg.now c.in-Ok.served c.args.self.now c.took.new.self c.take.new.server c.take.new.keeper
    (record {
      up = c.in_ok-check.ensures.ok.1;
      none = c.in_ok-check.ensures.ok.0;
      said_so = c.requires.said;
      sound = c.requires.sound;
      from = c.requires.from;
      does = c.in-Ok.ensures.ok;
      did_so = c.in-Ok.ensures.did;
      counted = no_fault_up _ _ _ _ c.take.ensures.counts;
      stands = c.take.ensures.stands;
    })
    c.took.ensures.grew

pub returns-in-Ok-clause-takes : goal.returns-in-Ok-clause-takes
returns-in-Ok-clause-takes g c =
    grew_takes c.args.pass c.args.from c.args.body c.args.msg.now c.in-Ok.served c.args.self.now c.took.new.self c.take.new.server c.take.new.keeper c.took.result.told c.in_ok-check.ensures.ok.0 c.took.ensures.grew c.took.ensures.told

pub returns-in-Ok-clause-caller : goal.returns-in-Ok-clause-caller
returns-in-Ok-clause-caller g c = next_caller c.args.pass c.args.from c.args.body c.args.msg.now c.in-Ok.served c.args.self.now c.took.new.self c.take.new.server c.take.new.keeper c.took.result.hello c.took.result.refusal c.took.ensures.grew c.took.ensures.hello c.took.ensures.refusal

pub returns-in-Some-clause-keeps : goal.returns-in-Some-clause-keeps
returns-in-Some-clause-keeps g c =
    stopped g.K.Keeper.kept g.K.Keeper.counts g.K.Keeper.did g.K.Keeper.broke c.args.pass (Halted c.args.from c.args.body c.of.result c.in-Some.halt) c.in-Some.halt c.args.self.now c.stop.new.self c.take.new.server c.take.new.keeper
    (halting g.K.Keeper.kept g.K.Keeper.counts g.K.Keeper.did g.K.Keeper.broke c.args.pass c.args.from c.args.body c.args.msg.now c.of.result c.in-Err.fault c.in-Some.halt c.args.self.now c.take.new.server c.take.new.keeper c.take.result c.of.ensures c.in_ok-check.ensures.ok.1 c.in_ok-check.ensures.ok.0
    c.requires.said c.requires.from c.in-Err.is (sym c.halt_of.ensures ∙ c.in-Some.is) c.in-Err.ensures.err c.take.ensures.counts c.take.ensures.stands c.in-Err.ensures.hurts)
    c.stop.ensures.stops

pub returns-in-Some-clause-takes : goal.returns-in-Some-clause-takes
returns-in-Some-clause-takes g c =
    stop_fails c.args.pass c.args.from c.args.body c.of.result c.in-Some.halt c.args.self.now c.stop.new.self c.take.new.server c.take.new.keeper c.stop.result c.stop.ensures.result c.stop.ensures.stops

pub returns-in-Some-clause-caller : goal.returns-in-Some-clause-caller
returns-in-Some-clause-caller g c =
    let x : Step = record { pass = c.args.pass; deed = Halted c.args.from c.args.body c.of.result c.in-Some.halt; lost = false } in
    same_caller c.args.pass c.args.self.now.trace.items c.stop.new.self.trace.items x c.stop.ensures.stops.list refl refl

pub returns-in-None-clause-keeps : goal.returns-in-None-clause-keeps
returns-in-None-clause-keeps g c =
    broke g.K.Keeper.kept g.K.Keeper.counts g.K.Keeper.did g.K.Keeper.broke c.args.pass c.args.self.now c.breaks.new.self c.take.new.server c.take.new.keeper c.in_ok-check.ensures.ok.0
    (no_fault_up _ _ _ _ c.take.ensures.counts) c.take.ensures.stands c.in_ok-check.ensures.ok.1
    (in_doubt g.K.Keeper.kept g.K.Keeper.counts g.K.Keeper.did g.K.Keeper.broke c.in-Err.fault (message_taken c.args.from c.args.msg.now (state_of g.K.Keeper.kept c.args.self.now)) c.args.self.now.keeper c.take.new.keeper c.in-Err.ensures.hurts) c.breaks.ensures

pub returns-in-None-clause-takes : goal.returns-in-None-clause-takes
returns-in-None-clause-takes g c = fell_more c.args.pass c.args.self.now c.breaks.new.self c.take.new.server c.take.new.keeper c.breaks.ensures

pub returns-in-None-clause-caller : goal.returns-in-None-clause-caller
returns-in-None-clause-caller g c =
    let x : Step = record { pass = c.args.pass; deed = Broke; lost = true } in
    same_caller c.args.pass c.args.self.now.trace.items c.breaks.new.self.trace.items x c.breaks.ensures.list refl refl
