use Rattle.std.proofs.Common.{◌+◌, ◌++◌, map, drop, sym, ap, ◌∙◌, arith, rules}
use Rattle.ec_mount.specs.Script.{rows_of}
use Rattle.ec_mount.specs.Shown.{answers_text, lanes_text}
use Rattle.ec_mount.proofs.Texts.{sofar_next, sofar_fails, drop_one, lanes_next}
use Rattle.ec_mount.proofs.shown.write_lanes.Goals as goal

pub returns-in_err-write_lane-clause-written : goal.returns-in_err-write_lane-clause-written
returns-in_err-write_lane-clause-written g c =
    let lanes = c.args.lanes.now in
    let one = c.replies-item.result in
    let rest = drop (c.lanes.replies-index + 1) lanes in
    let is = lanes_next c.lanes.lane c.args.rows.now (drop c.lanes.replies-index lanes) one rest (drop_one lanes c.lanes.replies-index one c.lanes-test.true c.replies-item.is) ∙ ap (λ l. answers_text (rows_of c.lanes.lane c.args.rows.now) l ++ lanes_text (c.lanes.lane + 1) c.args.rows.now (map (λ w. w.items) rest)) (sym c.deref.ensures.value) in
    let fails = sofar_fails (g.K.Sink.held c.args.sink.now) (g.K.Sink.held c.lanes.sink) (g.K.Sink.faults c.args.sink.now) (g.K.Sink.faults c.lanes.sink) _ _ c.lanes.invariant.0 (answers_text (rows_of c.lanes.lane c.args.rows.now) c.deref.result.now) (lanes_text (c.lanes.lane + 1) c.args.rows.now (map (λ w. w.items) rest)) is
    (g.K.Sink.held c.write_lane.new.sink) (g.K.Sink.faults c.write_lane.new.sink) c.write_lane.ensures.later (Unit {0}) (Unit {0}) c.in_err-write_lane.field-0.0 c.in_err-write_lane.ensures.written in
    search (rules, fails)

pub lanes-preserved : goal.lanes-preserved
lanes-preserved g c =
    let lanes = c.args.lanes.now in
    let one = c.replies-item.result in
    let rest = drop (c.lanes.replies-index + 1) lanes in
    let is = lanes_next c.lanes.lane c.args.rows.now (drop c.lanes.replies-index lanes) one rest (drop_one lanes c.lanes.replies-index one c.lanes-test.true c.replies-item.is) ∙ ap (λ l. answers_text (rows_of c.lanes.lane c.args.rows.now) l ++ lanes_text (c.lanes.lane + 1) c.args.rows.now (map (λ w. w.items) rest)) (sym c.deref.ensures.value) in (
      sofar_next (g.K.Sink.held c.args.sink.now) (g.K.Sink.held c.lanes.sink) (g.K.Sink.faults c.args.sink.now) (g.K.Sink.faults c.lanes.sink) _ _ c.lanes.invariant.0 (answers_text (rows_of c.lanes.lane c.args.rows.now) c.deref.result.now) (lanes_text (c.lanes.lane + 1) c.args.rows.now (map (λ w. w.items) rest)) is
          (g.K.Sink.held c.write_lane.new.sink) (g.K.Sink.faults c.write_lane.new.sink) c.write_lane.ensures.later c.in_ok-write_lane.ensures.written,
      (let e = c.lanes.invariant.1 in omega arith),
    )
