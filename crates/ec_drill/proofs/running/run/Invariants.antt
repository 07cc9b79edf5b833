use Rattle.std.proofs.Common.{◌+◌, ◌≤◌, Bool, length, map}
use Rattle.std.specs.Vec.Iter.{into_iter_items, into_iter_len}
use Rattle.ec_world.specs.Worlds.{view_of, IsInStep}
use Rattle.ec_drill.specs.Arms.{any_arm}
use Rattle.ec_drill.specs.ArmedSteps.{IsCalm, heard}
use Rattle.ec_drill.specs.Lines.{read_of}
use Rattle.ec_drill.specs.Limits.{most_lines}
use Rattle.ec_drill.specs.Steps.{Sofar, IsLater}
use Rattle.ec_drill.proofs.running.run.Given as goal

abbrev pub invariant-lines : goal.invariant-lines
invariant-lines g l =
    ((may_stop : Bool) → IsCalm may_stop (any_arm (map read_of l.fn.lines.items)) (g.D.Disk.counts l.fn.disk)
    → Sofar g.D.Disk.tells (heard may_stop (g.D.Disk.counts l.fn.disk)).stops (heard may_stop (g.D.Disk.counts l.disk)).stops l.means.bound (g.D.Disk.counts l.fn.disk).armed (g.D.Disk.counts l.disk).armed (map read_of l.fn.lines.items) (view_of l.fn.world) l.number (map read_of (into_iter_items l.ahead)) (view_of l.world)
    (g.K.Sink.held l.fn.sink) (g.K.Sink.held l.sink) × IsCalm may_stop (any_arm (map read_of (into_iter_items l.ahead))) (g.D.Disk.counts l.disk))
    × IsInStep g.D.Disk.tells (g.D.Disk.view l.disk) l.world
    × IsLater (g.D.Disk.counts l.fn.disk) (g.D.Disk.counts l.disk) ⊥
    × (g.K.Sink.faults l.fn.sink ≤ g.K.Sink.faults l.sink)
    × (l.number + length (into_iter_items l.ahead) ≤ most_lines + 1)

abbrev pub decreases-lines : goal.decreases-lines
decreases-lines g l = into_iter_len l.ahead
