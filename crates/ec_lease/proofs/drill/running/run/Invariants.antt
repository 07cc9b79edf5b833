use Rattle.std.proofs.Common.{◌+◌, ◌≤◌, length, map}
use Rattle.std.specs.Vec.Iter.{into_iter_items, into_iter_len}
use Rattle.ec_lease.specs.Worlds.{IsInStep, leased}
use Rattle.ec_lease.specs.OfDrill.Lines.{AreTimed, read_of}
use Rattle.ec_lease.specs.OfDrill.Script.{most_lines}
use Rattle.ec_lease.specs.OfDrill.Steps.{AreLater, IsInTime, Sofar}
use Rattle.ec_lease.proofs.drill.running.run.Given as goal

abbrev pub invariant-lines : goal.invariant-lines
invariant-lines g l =
    Sofar g.D.Disk.tells (g.D.Disk.counts l.fn.disk).stops (g.D.Disk.counts l.disk).stops l.means.bound (map read_of l.fn.lines.items) (leased l.fn.world) l.number (map read_of (into_iter_items l.ahead)) (leased l.world) (g.K.Sink.held l.fn.sink) (g.K.Sink.held l.sink)
    × IsInStep g.D.Disk.tells (g.D.Disk.view l.disk) l.world
    × AreLater (g.D.Disk.counts l.fn.disk) (g.D.Disk.counts l.disk) ⊥
    × (g.K.Sink.faults l.fn.sink ≤ g.K.Sink.faults l.sink)
    × (l.number + length (into_iter_items l.ahead) ≤ most_lines + 1)
    × AreTimed (leased l.world).most (map read_of (into_iter_items l.ahead))
    × IsInTime (leased l.world).most l.number (leased l.world)

abbrev pub decreases-lines : goal.decreases-lines
decreases-lines g l = into_iter_len l.ahead
