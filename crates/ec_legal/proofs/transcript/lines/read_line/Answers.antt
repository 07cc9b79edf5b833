use Rattle.ec_legal.proofs.OfTranscript.Reading.{ok-bounded}
use Rattle.ec_legal.proofs.transcript.lines.read_line.Goals as goal

pub returns-clause-bounded : goal.returns-clause-bounded
returns-clause-bounded c = ok-bounded c.args.line.now c.read.result c.read.ensures
