use Rattle.std.proofs.Common.{◌+◌, drop, sym, ◌∙◌, rules}
use Rattle.ec_mount.specs.Script.{rows_of}
use Rattle.ec_mount.specs.Shown.{row_text, answers_text}
use Rattle.ec_mount.proofs.Texts.{sofar_same, sofar_next, sofar_fails, drop_one, row_some, row_next, row_other}
use Rattle.ec_mount.proofs.shown.write_lane.Goals as goal
use Rattle.ec_mount.proofs.shown.write_lane.Goals.{then-from-lane+in-Some+in_ok-write_line, else-from-lane}

pub returns-in_err-write_line-clause-written : goal.returns-in_err-write_line-clause-written
returns-in_err-write_line-clause-written g c =
    let rows = c.args.rows.now in
    let row = c.row-item.result in
    let rest = drop (c.rows.row-index + 1) rows in
    let here = drop_one rows c.rows.row-index row c.rows-test.true c.row-item.is in
    let same = sym c.from.ensures ∙ c.if-from-lane.true in
    let is = row_next c.args.lane row (drop c.rows.row-index rows) rest c.rows.left.now c.in-Some.reply.now c.in-Some.rest.now here same c.in-Some.ensures.cases.0 in
    let fails = sofar_fails (g.K.Sink.held c.args.sink.now) (g.K.Sink.held c.rows.sink) (g.K.Sink.faults c.args.sink.now) (g.K.Sink.faults c.rows.sink) _ _ c.rows.invariant (row_text row c.in-Some.reply.now) (answers_text (rows_of c.args.lane rest) c.in-Some.rest.now) is
    (g.K.Sink.held c.write_line.new.sink) (g.K.Sink.faults c.write_line.new.sink) c.write_line.ensures.later (Unit {0}) (Unit {0}) c.in_err-write_line.field-0.0 (c.in_err-write_line.ensures.written (row_text row c.in-Some.reply.now) (row_some row c.in-Some.reply.now) c.row_line.ensures) in
    search (rules, fails)

pub rows-preserved : goal.rows-preserved
rows-preserved g c =
    let rows = c.args.rows.now in
    let row = c.row-item.result in
    let rest = drop (c.rows.row-index + 1) rows in
    let here = drop_one rows c.rows.row-index row c.rows-test.true c.row-item.is in
    elim c.if-from-lane.branch [
      | then-from-lane+in-Some+in_ok-write_line w ↦
          let same = sym c.from.ensures ∙ w.if-from-lane.true in
          let is = row_next c.args.lane row (drop c.rows.row-index rows) rest c.rows.left.now w.in-Some.reply.now w.in-Some.rest.now here same w.in-Some.ensures.cases.0 in
          let next = sofar_next (g.K.Sink.held c.args.sink.now) (g.K.Sink.held c.rows.sink) (g.K.Sink.faults c.args.sink.now) (g.K.Sink.faults c.rows.sink) _ _ c.rows.invariant (row_text row w.in-Some.reply.now) (answers_text (rows_of c.args.lane rest) w.in-Some.rest.now) is
          (g.K.Sink.held w.write_line.new.sink) (g.K.Sink.faults w.write_line.new.sink) w.write_line.ensures.later (w.in_ok-write_line.ensures.written (row_text row w.in-Some.reply.now) (row_some row w.in-Some.reply.now) w.row_line.ensures) in
          rw w.sink-is (rw w.left-is next)
      | else-from-lane w ↦
          let next = sofar_same (g.K.Sink.held c.args.sink.now) (g.K.Sink.held c.rows.sink) (g.K.Sink.faults c.args.sink.now) (g.K.Sink.faults c.rows.sink) _ _ c.rows.invariant (answers_text (rows_of c.args.lane rest) c.rows.left.now)
          (row_other c.args.lane row (drop c.rows.row-index rows) rest c.rows.left.now here (λ e. w.if-from-lane.false (c.from.ensures ∙ e))) in
          rw w.sink-is (rw w.left-is next)
    ]
