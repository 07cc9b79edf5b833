use Rattle.std.proofs.Common.{◌<◌, ◌≤◌, length, arith, add-one}
use Rattle.std.proofs.lemmas.List.{take_rest}
use Rattle.ec_words.specs.PieceLengths.{piece_len}
use Rattle.ec_words.proofs.Splits.{with_space, without_space}
use Rattle.ec_words.proofs.cursor.split_word.Goals as goal

pub returns-then-at-bytes : goal.returns-then-at-bytes
returns-then-at-bytes c =
    let lt : piece_len 32 c.args.bytes.now < length c.args.bytes.now = omega arith in
    rw (take_rest, c.piece_len-at.ensures, add-one) (with_space c.args.bytes.now lt)

pub returns-else-at-bytes : goal.returns-else-at-bytes
returns-else-at-bytes c =
    let le : length c.args.bytes.now ≤ piece_len 32 c.args.bytes.now = omega arith in
    without_space c.args.bytes.now le
