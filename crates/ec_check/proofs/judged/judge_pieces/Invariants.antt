use Rattle.std.proofs.Common.{length}
use Rattle.ec_legal.specs.Tried.{IsTried}
use Rattle.ec_legal.specs.OfTranscript.LinesRead.{IsReadTo}
use Rattle.ec_check.proofs.judged.judge_pieces.Given as goal

abbrev pub invariant-pieces : goal.invariant-pieces
invariant-pieces g l = IsReadTo l.bytes l.rest l.shown.items × IsTried l.most l.trial l.shown.items

abbrev pub decreases-pieces : goal.decreases-pieces
decreases-pieces g l = length l.rest
