use Rattle.std.proofs.Common.{refl}
use Rattle.ec_mount.specs.Mount.{Outside}
use Rattle.ec_mount.specs.Work as work
use Rattle.ec_mount.proofs.Endings.{refused, told_of}
use Rattle.ec_mount.proofs.mounting.mount.Goals as goal

pub returns-in-Err-clause-mounted : goal.returns-in-Err-clause-mounted
returns-in-Err-clause-mounted g c =
    let w : Outside = record {
      left = g.S.Source.left c.args.source.now;
      left_after = g.S.Source.left c.rows_of.new.source;
      reads = g.S.Source.faults c.args.source.now;
      reads_after = g.S.Source.faults c.rows_of.new.source;
      held = g.K.Sink.held c.args.sink.now;
      held_after = g.K.Sink.held c.refuse.new.sink;
      writes = g.K.Sink.faults c.args.sink.now;
      writes_after = g.K.Sink.faults c.refuse.new.sink;
      net = record { faults = g.N.Net.faults c.args.net.now; bad = g.N.Net.bad c.args.net.now; ended = g.N.Net.ended c.args.net.now };
      net_after = record { faults = g.N.Net.faults c.args.net.now; bad = g.N.Net.bad c.args.net.now; ended = g.N.Net.ended c.args.net.now };
    } in
    refused c.args.clerk c.args.boot w c.in-Err.why c.refuse.result refl c.in-Err.ensures.given c.refuse.ensures.refused

pub returns-clause-mounted : goal.returns-clause-mounted
returns-clause-mounted g c =
    let w : Outside = record {
      left = g.S.Source.left c.args.source.now;
      left_after = g.S.Source.left c.rows_of.new.source;
      reads = g.S.Source.faults c.args.source.now;
      reads_after = g.S.Source.faults c.rows_of.new.source;
      held = g.K.Sink.held c.args.sink.now;
      held_after = g.K.Sink.held c.tell.new.sink;
      writes = g.K.Sink.faults c.args.sink.now;
      writes_after = g.K.Sink.faults c.tell.new.sink;
      net = record { faults = g.N.Net.faults c.args.net.now; bad = g.N.Net.bad c.args.net.now; ended = g.N.Net.ended c.args.net.now };
      net_after = record { faults = g.N.Net.faults c.work-answers.new.net; bad = g.N.Net.bad c.work-answers.new.net; ended = g.N.Net.ended c.work-answers.new.net };
    } in
    told_of c.args.clerk c.args.boot w c.in-Ok.rows.items c.deref.result.now c.deref-2.result.now c.in-Ok-lanes_of.lanes.items c.in-Ok-lanes_of.ensures c.deref.ensures.value c.deref-2.ensures.value c.args.clerk refl (work.given_of c.work-answers.result) (work.given_of c.work-answers.result) refl c.tell.result c.in-Ok.ensures.given c.work-answers.ensures.works c.tell.ensures.told
