use Rattle.std.proofs.Common.{◌+◌, drop, ap, rules}
use Rattle.std.specs.List.{flat_map}
use Rattle.ec_mount.specs.Shown.{told_text}
use Rattle.ec_mount.proofs.Texts.{sofar_next, sofar_fails, drop_one, told_some}
use Rattle.ec_mount.proofs.shown.write_told.Goals as goal

pub returns-in_err-write_line-clause-written : goal.returns-in_err-write_line-clause-written
returns-in_err-write_line-clause-written g c =
    let told = c.args.told.now in
    let ops = c.ops-item.result in
    let rest = drop (c.told.ops-index + 1) told in
    let is = ap (flat_map told_text) (drop_one told c.told.ops-index ops c.told-test.true c.ops-item.is) in
    let fails = sofar_fails (g.K.Sink.held c.args.sink.now) (g.K.Sink.held c.told.sink) (g.K.Sink.faults c.args.sink.now) (g.K.Sink.faults c.told.sink) _ _ c.told.invariant (told_text ops) (flat_map told_text rest) is
    (g.K.Sink.held c.write_line.new.sink) (g.K.Sink.faults c.write_line.new.sink) c.write_line.ensures.later (Unit {0}) (Unit {0}) c.in_err-write_line.field-0.0 (c.in_err-write_line.ensures.written (told_text ops) (told_some ops) c.told_line.ensures) in
    search (rules, fails)

pub told-preserved : goal.told-preserved
told-preserved g c =
    let told = c.args.told.now in
    let ops = c.ops-item.result in
    let rest = drop (c.told.ops-index + 1) told in
    let is = ap (flat_map told_text) (drop_one told c.told.ops-index ops c.told-test.true c.ops-item.is) in
    sofar_next (g.K.Sink.held c.args.sink.now) (g.K.Sink.held c.told.sink) (g.K.Sink.faults c.args.sink.now) (g.K.Sink.faults c.told.sink) _ _ c.told.invariant (told_text ops) (flat_map told_text rest) is
    (g.K.Sink.held c.write_line.new.sink) (g.K.Sink.faults c.write_line.new.sink) c.write_line.ensures.later (c.in_ok-write_line.ensures.written (told_text ops) (told_some ops) c.told_line.ensures)
