use Rattle.std.proofs.Common.{◌≤◌, take}
use Rattle.std.specs.Io.KnownBytes.{Appends}
use Rattle.ec_words.specs.OfText.Lines.{text_of}
use Rattle.ec_drill.proofs.writing.write_lines.Given as goal

abbrev pub invariant-writing : goal.invariant-writing
invariant-writing g l = Appends (g.K.Sink.held l.fn.sink) (g.K.Sink.held l.sink) (text_of (take l.line-index l.lines)) × (g.K.Sink.faults l.fn.sink ≤ g.K.Sink.faults l.sink)
