use Rattle.std.proofs.Common.{◌≡◌, ◌+◌, map, drop}
use Rattle.ec_mount.specs.Shown.{lanes_text}
use Rattle.ec_mount.proofs.Texts.{Sofar}
use Rattle.ec_mount.proofs.shown.write_lanes.Given as goal

abbrev pub invariant-lanes : goal.invariant-lanes
invariant-lanes g l =
    Sofar (g.K.Sink.held l.fn.sink) (g.K.Sink.held l.sink) (g.K.Sink.faults l.fn.sink) (g.K.Sink.faults l.sink) (lanes_text l.lane l.rows (map (λ w. w.items) (drop l.replies-index l.lanes))) (lanes_text 1 l.rows (map (λ w. w.items) l.lanes))
    × (l.lane ≡ l.replies-index + 1)
