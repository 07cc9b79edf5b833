use Rattle.std.proofs.Common.{◌≤◌, take}
use Rattle.std.specs.Io.KnownBytes.{Appends}
use Rattle.ec_lease_machine.specs.OfWords.Text.{lease_texts}
use Rattle.ec_lease.proofs.drill.writing.write_lines.Given as goal

abbrev pub invariant-writing : goal.invariant-writing
invariant-writing g l = Appends (g.K.Sink.held l.fn.sink) (g.K.Sink.held l.sink) (lease_texts (take l.line-index l.lines)) × (g.K.Sink.faults l.fn.sink ≤ g.K.Sink.faults l.sink)
