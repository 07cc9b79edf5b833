use Rattle.std.proofs.Common.{◌+◌, ◌-◌, ◌≤◌, length, vec_len}
use Rattle.std.specs.Io.KnownBytes.{Consumes}
use Rattle.ec_streams.proofs.streams.read_whole.Given as goal

abbrev pub invariant-reading : goal.invariant-reading
invariant-reading g l = Consumes (g.S.Source.left l.fn.source) (g.S.Source.left l.source) l.bytes.items × (g.S.Source.faults l.fn.source ≤ g.S.Source.faults l.source) × (length l.bytes.items ≤ l.limit + 1)

abbrev pub decreases-reading : goal.decreases-reading
decreases-reading g l = l.limit + 1 - vec_len l.bytes
