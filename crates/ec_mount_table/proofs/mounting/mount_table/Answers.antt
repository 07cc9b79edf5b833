use Rattle.std.proofs.Common.{◌∙◌, List, map, refl, sym, subst}
use Rattle.std.specs.String.{string_bytes}
use Rattle.ec_clerknode.specs.LaneRuns.{lists_of}
use Rattle.ec_mount.specs.Mount.{Outside}
use Rattle.ec_mount_words.specs.Mounts.{mount_path}
use Rattle.ec_script.specs.Lines.{lines_of}
use Rattle.ec_mount_table.specs.Going.{IsOrdered, items_of}
use Rattle.ec_mount_table.specs.Runs.{Each}
use Rattle.ec_mount_table.specs.declared.script.Row.{Row}
use Rattle.ec_mount_table.proofs.Endings.{refused, told_of}
use Rattle.ec_mount_table.proofs.Ordered.{rows_ordered}
use Rattle.ec_mount_table.proofs.mounting.mount_table.Goals as goal

pub returns-in-Err-clause-mounted : goal.returns-in-Err-clause-mounted
returns-in-Err-clause-mounted g c =
    let w : Outside = record {
      left = g.S.Source.left c.args.source.now;
      left_after = g.S.Source.left c.rows_of.new.source;
      reads = g.S.Source.faults c.args.source.now;
      reads_after = g.S.Source.faults c.rows_of.new.source;
      held = g.K.Sink.held c.args.sink.now;
      held_after = g.K.Sink.held c.refuse.new.sink;
      writes = g.K.Sink.faults c.args.sink.now;
      writes_after = g.K.Sink.faults c.refuse.new.sink;
      net = record { faults = g.N.Net.faults c.args.net.now; bad = g.N.Net.bad c.args.net.now; ended = g.N.Net.ended c.args.net.now };
      net_after = record { faults = g.N.Net.faults c.args.net.now; bad = g.N.Net.bad c.args.net.now; ended = g.N.Net.ended c.args.net.now };
    } in
    refused c.args.clerk c.args.boot (map mount_path (map string_bytes c.args.words.now)) w c.in-Err.why c.refuse.result refl c.in-Err.ensures.given c.refuse.ensures.refused

pub work-answers-requires-clause-table : goal.work-answers-requires-clause-table
work-answers-requires-clause-table g c κs within = c.deref.ensures.value ∙ c.in-Ok-table_of.ensures

pub work-answers-requires-clause-paths : goal.work-answers-requires-clause-paths
work-answers-requires-clause-paths g c κs within =
    let given = c.in-Ok.ensures.given in
    subst (λ (l : List Row). Each l (λ place row. IsOrdered row.call)) (sym c.deref-2.ensures.value) (rows_ordered 1 (lines_of given.script) c.in-Ok.rows.items given.read)

pub returns-clause-mounted : goal.returns-clause-mounted
returns-clause-mounted g c =
    let table = map mount_path (map string_bytes c.args.words.now) in
    let answers = c.work-answers.result in
    let w : Outside = record {
      left = g.S.Source.left c.args.source.now;
      left_after = g.S.Source.left c.rows_of.new.source;
      reads = g.S.Source.faults c.args.source.now;
      reads_after = g.S.Source.faults c.rows_of.new.source;
      held = g.K.Sink.held c.args.sink.now;
      held_after = g.K.Sink.held c.tell.new.sink;
      writes = g.K.Sink.faults c.args.sink.now;
      writes_after = g.K.Sink.faults c.tell.new.sink;
      net = record { faults = g.N.Net.faults c.args.net.now; bad = g.N.Net.bad c.args.net.now; ended = g.N.Net.ended c.args.net.now };
      net_after = record { faults = g.N.Net.faults c.work-answers.new.net; bad = g.N.Net.bad c.work-answers.new.net; ended = g.N.Net.ended c.work-answers.new.net };
    } in
    told_of c.args.clerk c.args.boot table w c.in-Ok.rows.items c.deref-2.result.now c.deref-4.result.now c.deref.result.now c.deref-3.result.now c.deref-2.ensures.value c.deref-4.ensures.value (c.deref.ensures.value ∙ c.in-Ok-table_of.ensures) (c.deref-3.ensures.value ∙ c.in-Ok-table_of.ensures)
    answers.mets.items answers.replies.items (lists_of answers.told) (items_of answers.last) c.tell.result c.in-Ok.ensures.given c.work-answers.ensures.works c.tell.ensures.told
