use Rattle.ec_words.specs.RowsLeft.{left}
use Rattle.ec_words.proofs.Misfits.{returned, row_lacks, row_has}
use Rattle.std.specs.Prelude.{codes}
use Rattle.ec_words.specs.Spelling.{IsSmallNumber}
use Rattle.ec_shown.specs.Spelling.{IsOwner}
use Rattle.ec_shown.specs.Rows.{Tail}
use Rattle.ec_shown.specs.Answers.{Sized}
use Rattle.ec_shown.proofs.Said.{a_size}
use Rattle.ec_shown.proofs.answer.sized.Goals as goal

pub returns-in_err-size : goal.returns-in_err-size
returns-in_err-size c =
    let ws = left c.args.words in
    returned (Sized) ws _ _ c.from_residual.ensures.1 (row_lacks IsSmallNumber (Tail (codes "owner") IsOwner) ws _ a_size c.in_err-size.ensures)

pub returns-in_err-owner : goal.returns-in_err-owner
returns-in_err-owner c =
    let ws = left c.args.words in
    let t = c.in_ok-size.ensures in
    returned (Sized) ws _ _ c.from_residual-in_err-owner.ensures.1 (row_has IsSmallNumber (Tail (codes "owner") IsOwner) ws t.0 _ _ _ t.1.0 t.1.1 c.in_err-owner.ensures)
