use Rattle.std.proofs.Common.{true, false, refl, sym, ◌∙◌, rules}
use Rattle.ec_servernode.specs.declared.step.Deed.TheVariants.{Ended, HaltedEnd, Broke}
use Rattle.ec_servernode.specs.declared.step.Step.{Step}
use Rattle.ec_servernode.specs.Folded.{session_ended}
use Rattle.ec_servernode.specs.Node.{state_of}
use Rattle.ec_servernode.proofs.Nodes.{ended_so, stopped, broke, halting_end, in_doubt}
use Rattle.ec_servernode.proofs.Ends.{no_fault_up, same_caller, fell_more, grew_ends, stop_ends, check_ends}
use Rattle.ec_servernode.proofs.state.Node.end.Goals as goal

pub end-requires : goal.end-requires
end-requires g c = c.requires.1.stands

pub ended-requires-clause-sized : goal.ended-requires-clause-sized
ended-requires-clause-sized g c = c.requires.1.sized

pub returns-in_err-check-clause-keeps : goal.returns-in_err-check-clause-keeps
returns-in_err-check-clause-keeps g c first s = s

pub returns-in_err-check-clause-ends : goal.returns-in_err-check-clause-ends
returns-in_err-check-clause-ends g c =
    let b = check_ends c.args.pass c.args.clerk c.args.self.now c.in_err-check.field-0.0 c.in_err-check.ensures.err in
    search (rules, b)

pub returns-in-Ok-clause-keeps : goal.returns-in-Ok-clause-keeps
returns-in-Ok-clause-keeps g c =
    ended_so g.K.Keeper.kept g.K.Keeper.counts g.K.Keeper.did g.K.Keeper.broke c.args.pass c.args.clerk c.in-Ok.served c.args.self.now c.ended.new.self c.end.new.server c.end.new.keeper
    (record {
      up = c.in_ok-check.ensures.ok.1;
      none = c.in_ok-check.ensures.ok.0;
      does = c.in-Ok.ensures.ok;
      did_so = c.in-Ok.ensures.did;
      counted = no_fault_up _ _ _ _ c.end.ensures.counts;
      stands = c.end.ensures.stands;
    })
    c.ended.ensures.grew

pub returns-in-Ok-clause-ends : goal.returns-in-Ok-clause-ends
returns-in-Ok-clause-ends g c = grew_ends c.args.pass c.args.clerk c.in-Ok.served c.args.self.now c.ended.new.self c.end.new.server c.end.new.keeper c.ended.result c.in_ok-check.ensures.ok.0 c.ended.ensures.grew c.ended.ensures.told

pub returns-in-Ok-clause-caller : goal.returns-in-Ok-clause-caller
returns-in-Ok-clause-caller g c =
    let grew = c.ended.ensures.grew in
    let x : Step = record { pass = c.args.pass; deed = Ended c.args.clerk grew.copy; lost = c.ended.new.self.broken } in
    same_caller c.args.pass c.args.self.now.trace.items c.ended.new.self.trace.items x grew.grew.list refl refl

pub returns-in-Some-clause-keeps : goal.returns-in-Some-clause-keeps
returns-in-Some-clause-keeps g c =
    stopped g.K.Keeper.kept g.K.Keeper.counts g.K.Keeper.did g.K.Keeper.broke c.args.pass (HaltedEnd c.args.clerk c.in-Some.halt) c.in-Some.halt c.args.self.now c.stop.new.self c.end.new.server c.end.new.keeper
    (halting_end g.K.Keeper.kept g.K.Keeper.counts g.K.Keeper.did g.K.Keeper.broke c.args.pass c.args.clerk c.in-Err.fault c.in-Some.halt c.args.self.now c.end.new.server c.end.new.keeper c.end.result c.in_ok-check.ensures.ok.1 c.in_ok-check.ensures.ok.0
    c.in-Err.is (sym c.halt_of.ensures ∙ c.in-Some.is) c.in-Err.ensures.err c.end.ensures.counts c.end.ensures.stands c.in-Err.ensures.hurts)
    c.stop.ensures.stops

pub returns-in-Some-clause-ends : goal.returns-in-Some-clause-ends
returns-in-Some-clause-ends g c = stop_ends c.args.pass c.args.clerk c.in-Some.halt c.args.self.now c.stop.new.self c.end.new.server c.end.new.keeper c.stop.result c.stop.ensures.result c.stop.ensures.stops

pub returns-in-Some-clause-caller : goal.returns-in-Some-clause-caller
returns-in-Some-clause-caller g c =
    let x : Step = record { pass = c.args.pass; deed = HaltedEnd c.args.clerk c.in-Some.halt; lost = false } in
    same_caller c.args.pass c.args.self.now.trace.items c.stop.new.self.trace.items x c.stop.ensures.stops.list refl refl

pub returns-in-None-clause-keeps : goal.returns-in-None-clause-keeps
returns-in-None-clause-keeps g c =
    broke g.K.Keeper.kept g.K.Keeper.counts g.K.Keeper.did g.K.Keeper.broke c.args.pass c.args.self.now c.breaks.new.self c.end.new.server c.end.new.keeper c.in_ok-check.ensures.ok.0
    (no_fault_up _ _ _ _ c.end.ensures.counts) c.end.ensures.stands c.in_ok-check.ensures.ok.1
    (in_doubt g.K.Keeper.kept g.K.Keeper.counts g.K.Keeper.did g.K.Keeper.broke c.in-Err.fault (session_ended c.args.clerk (state_of g.K.Keeper.kept c.args.self.now)) c.args.self.now.keeper c.end.new.keeper c.in-Err.ensures.hurts) c.breaks.ensures

pub returns-in-None-clause-ends : goal.returns-in-None-clause-ends
returns-in-None-clause-ends g c = fell_more c.args.pass c.args.self.now c.breaks.new.self c.end.new.server c.end.new.keeper c.breaks.ensures

pub returns-in-None-clause-caller : goal.returns-in-None-clause-caller
returns-in-None-clause-caller g c =
    let x : Step = record { pass = c.args.pass; deed = Broke; lost = true } in
    same_caller c.args.pass c.args.self.now.trace.items c.breaks.new.self.trace.items x c.breaks.ensures.list refl refl
