use Rattle.std.proofs.Common.{◌-◌, ◌≤◌, length, take}
use Rattle.std.specs.Io.KnownBytes.{Appends}
use Rattle.ec_streams.proofs.streams.write_whole.Given as goal

abbrev pub invariant-writing : goal.invariant-writing
invariant-writing g l = Appends (g.K.Sink.held l.fn.sink) (g.K.Sink.held l.sink) (take l.at l.piece) × (g.K.Sink.faults l.fn.sink ≤ g.K.Sink.faults l.sink) × (l.at ≤ length l.piece)

abbrev pub decreases-writing : goal.decreases-writing
decreases-writing g l = length l.piece - l.at
