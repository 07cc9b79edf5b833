use Rattle.std.proofs.Common.{map}
use Rattle.ec_lease.specs.OfDrill.Lines.{read_of}
use Rattle.ec_lease.proofs.OfDrill.Ends.{too_many_bytes, too_many_lines}
use Rattle.ec_lease.proofs.OfDrill.Lines.{all_timed, few_lines}
use Rattle.ec_lease.proofs.drill.start.lease_drill.Goals as goal

pub drill_lines-requires-clause-few : goal.drill_lines-requires-clause-few
drill_lines-requires-clause-few g c = few_lines _ _ _ _ c.in-Ok.ensures.given

pub drill_lines-requires-clause-timed : goal.drill_lines-requires-clause-timed
drill_lines-requires-clause-timed g c = all_timed _ _ (map read_of c.in-Ok.lines.items) c.in-Ok.ensures.given.read

pub returns-in-Err-Bytes-clause-drilled : goal.returns-in-Err-Bytes-clause-drilled
returns-in-Err-Bytes-clause-drilled g c =
    too_many_bytes c.args.length c.args.most c.refuse.result (g.S.Source.left c.args.source.now) (g.S.Source.left c.script_of.new.source) (g.S.Source.faults c.args.source.now) (g.S.Source.faults c.script_of.new.source)
    (g.K.Sink.held c.args.sink.now) (g.K.Sink.held c.refuse.new.sink) (g.K.Sink.faults c.args.sink.now) (g.K.Sink.faults c.refuse.new.sink) g.D.Disk.tells (g.D.Disk.view c.args.disk.now) (g.D.Disk.counts c.args.disk.now)
    c.in-Err-Bytes.field-0 c.in-Err-Bytes.field-0-is c.in-Err-Bytes.ensures.given c.refuse.ensures.told

pub returns-in-Err-Lines-clause-drilled : goal.returns-in-Err-Lines-clause-drilled
returns-in-Err-Lines-clause-drilled g c =
    too_many_lines c.args.length c.args.most c.refuse-in-Err-Lines.result (g.S.Source.left c.args.source.now) (g.S.Source.left c.script_of.new.source) (g.S.Source.faults c.args.source.now) (g.S.Source.faults c.script_of.new.source)
    (g.K.Sink.held c.args.sink.now) (g.K.Sink.held c.refuse-in-Err-Lines.new.sink) (g.K.Sink.faults c.args.sink.now) (g.K.Sink.faults c.refuse-in-Err-Lines.new.sink) g.D.Disk.tells (g.D.Disk.view c.args.disk.now) (g.D.Disk.counts c.args.disk.now)
    c.in-Err-Lines.field-0 c.in-Err-Lines.count c.in-Err-Lines.field-0-is c.in-Err-Lines.ensures.given c.refuse-in-Err-Lines.ensures.told
