use Rattle.std.proofs.Common.{refl, rules}
use Rattle.ec_mount.proofs.Texts.{lanes_fail_all, all_written}
use Rattle.ec_mount.proofs.shown.write_came.Goals as goal

pub returns-in_err-write_lanes-clause-written : goal.returns-in_err-write_lanes-clause-written
returns-in_err-write_lanes-clause-written g c =
    let a = c.args.answers.now in
    let fails = lanes_fail_all c.args.rows.now a.lanes.items c.deref.result.now c.deref.ensures.value a.told.items a.told.items refl (g.K.Sink.held c.args.sink.now) (g.K.Sink.faults c.args.sink.now) (Unit {0}) (Unit {0})
    (g.K.Sink.held c.write_lanes.new.sink) (g.K.Sink.faults c.write_lanes.new.sink) c.in_err-write_lanes.field-0.0 c.in_err-write_lanes.ensures.written in
    search (rules, fails)

pub returns-clause-written : goal.returns-clause-written
returns-clause-written g c =
    let a = c.args.answers.now in
    all_written c.args.rows.now a.lanes.items c.deref.result.now c.deref.ensures.value a.told.items c.deref-2.result.now c.deref-2.ensures.value (g.K.Sink.held c.args.sink.now) (g.K.Sink.faults c.args.sink.now)
    (g.K.Sink.held c.write_lanes.new.sink) (g.K.Sink.faults c.write_lanes.new.sink) c.in_ok-write_lanes.ensures.written c.write_lanes.ensures.later (Unit {0})
    (g.K.Sink.held c.write_told.new.sink) (g.K.Sink.faults c.write_told.new.sink) c.write_told.result c.write_told.ensures.written
