use Rattle.std.proofs.Common.{◌<◌, ◌≤◌, length, arith, add-one}
use Rattle.std.proofs.lemmas.List.{take_rest}
use Rattle.ec_words.specs.PieceLengths.{piece_len}
use Rattle.ec_script.proofs.Splits.{with_end, without_end}
use Rattle.ec_script.proofs.script.split_line.Goals as goal

pub returns-then-at-bytes-clause-lines : goal.returns-then-at-bytes-clause-lines
returns-then-at-bytes-clause-lines c =
    let lt : piece_len 10 c.args.bytes.now < length c.args.bytes.now = omega arith in
    rw (take_rest, c.piece_len-at.ensures, add-one) (with_end c.args.bytes.now lt)

pub returns-else-at-bytes-clause-lines : goal.returns-else-at-bytes-clause-lines
returns-else-at-bytes-clause-lines c =
    let le : length c.args.bytes.now ≤ piece_len 10 c.args.bytes.now = omega arith in
    without_end c.args.bytes.now c.requires le
