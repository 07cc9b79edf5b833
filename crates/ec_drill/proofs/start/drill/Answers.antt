use Rattle.ec_drill.proofs.Given.{few_read, over_bytes, over_lines}
use Rattle.ec_drill.proofs.start.drill.Goals as goal

pub drill_lines-requires-clause-few : goal.drill_lines-requires-clause-few
drill_lines-requires-clause-few g c = few_read _ _ c.in-Ok.ensures.given

pub returns-in-Err-Bytes-clause-drilled : goal.returns-in-Err-Bytes-clause-drilled
returns-in-Err-Bytes-clause-drilled g c =
    over_bytes c.args.max_objects c.refuse.result (g.S.Source.left c.args.source.now) (g.S.Source.left c.script_of.new.source) (g.S.Source.faults c.args.source.now) (g.S.Source.faults c.script_of.new.source)
    (g.K.Sink.held c.args.sink.now) (g.K.Sink.held c.refuse.new.sink) (g.K.Sink.faults c.args.sink.now) (g.K.Sink.faults c.refuse.new.sink) g.D.Disk.tells (g.D.Disk.view c.args.disk.now) (g.D.Disk.counts c.args.disk.now)
    c.in-Err-Bytes.field-0 c.in-Err-Bytes.field-0-is c.in-Err-Bytes.ensures.given c.refuse.ensures.told

pub returns-in-Err-Lines-clause-drilled : goal.returns-in-Err-Lines-clause-drilled
returns-in-Err-Lines-clause-drilled g c =
    over_lines c.args.max_objects c.refuse-in-Err-Lines.result (g.S.Source.left c.args.source.now) (g.S.Source.left c.script_of.new.source) (g.S.Source.faults c.args.source.now) (g.S.Source.faults c.script_of.new.source)
    (g.K.Sink.held c.args.sink.now) (g.K.Sink.held c.refuse-in-Err-Lines.new.sink) (g.K.Sink.faults c.args.sink.now) (g.K.Sink.faults c.refuse-in-Err-Lines.new.sink) g.D.Disk.tells (g.D.Disk.view c.args.disk.now) (g.D.Disk.counts c.args.disk.now)
    c.in-Err-Lines.field-0 c.in-Err-Lines.count c.in-Err-Lines.field-0-is c.in-Err-Lines.ensures.given c.refuse-in-Err-Lines.ensures.told
