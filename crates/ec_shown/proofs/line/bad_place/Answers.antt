use Rattle.ec_words.specs.RowsLeft.{left}
use Rattle.std.specs.Prelude.{codes}
use Rattle.ec_words.proofs.Misfits.{returned}
use Rattle.ec_shown.specs.Rows.{Marked}
use Rattle.ec_shown.proofs.Behind.{marked_lacks, marked_has, marked_is}
use Rattle.ec_words.specs.Rows.{Last}
use Rattle.ec_words.specs.Spelling.{IsNumber}
use Rattle.ec_shown.proofs.Said.{place_begins}
use Rattle.ec_shown.proofs.line.bad_place.Goals as goal

pub returns-in_err-rest : goal.returns-in_err-rest
returns-in_err-rest c =
    let ws = left c.args.words in
    returned (Marked (codes "bad") (Last IsNumber)) ws _ _ c.from_residual.ensures.1 (marked_lacks (codes "bad") (Last IsNumber) ws _ place_begins c.in_err-rest.ensures)

pub returns-in_err-place : goal.returns-in_err-place
returns-in_err-place c =
    let ws = left c.args.words in
    returned (Marked (codes "bad") (Last IsNumber)) ws _ _ c.from_residual-in_err-place.ensures.1 (marked_has (codes "bad") (Last IsNumber) ws _ _ c.in_ok-rest.ensures c.in_err-place.ensures)

pub returns : goal.returns
returns c = marked_is (codes "bad") (Last IsNumber) (left c.args.words) _ _ c.in_ok-rest.ensures c.in_ok-place.ensures
