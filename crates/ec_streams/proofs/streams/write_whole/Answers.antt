use Rattle.std.proofs.Common.{arith}
use Rattle.ec_streams.proofs.Pieces.{take_on}
use Rattle.ec_streams.proofs.streams.write_whole.Goals as goal
use Rattle.ec_base.proofs.Lists.{appends_two}

pub writing-preserved : goal.writing-preserved
writing-preserved g c =
    let gave = c.in-Bytes.ensures in
    (appends_two _ _ _ _ _ _ c.writing.invariant.0 gave.answer.0 (take_on c.writing.at c.in-Bytes.count c.args.piece.now), omega (arith, gave.counts, c.writing.invariant.1), omega (arith, gave.answer.2, c.writing-test.true))
