use Rattle.std.proofs.Common.{◌+◌, ◌≤◌, length}
use Rattle.ec_script.specs.Lines.{lines_of}
use Rattle.ec_legal.proofs.OfTranscript.Reading.{Read}
use Rattle.ec_legal.proofs.transcript.lines.read_lines.Given as goal

abbrev pub invariant-lines : goal.invariant-lines
invariant-lines l = Read (lines_of l.bytes) (lines_of l.rest) l.lines.items × (length l.lines.items + length l.rest ≤ length l.bytes)

abbrev pub decreases-lines : goal.decreases-lines
decreases-lines l = length l.rest
