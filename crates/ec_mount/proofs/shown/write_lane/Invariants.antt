use Rattle.std.proofs.Common.{drop}
use Rattle.ec_mount.specs.Script.{rows_of}
use Rattle.ec_mount.specs.Shown.{answers_text}
use Rattle.ec_mount.proofs.Texts.{Sofar}
use Rattle.ec_mount.proofs.shown.write_lane.Given as goal

abbrev pub invariant-rows : goal.invariant-rows
invariant-rows g l =
    Sofar (g.K.Sink.held l.fn.sink) (g.K.Sink.held l.sink) (g.K.Sink.faults l.fn.sink) (g.K.Sink.faults l.sink) (answers_text (rows_of l.lane (drop l.row-index l.rows)) l.left) (answers_text (rows_of l.lane l.rows) l.replies)
