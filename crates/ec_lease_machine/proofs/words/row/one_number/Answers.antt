use Rattle.ec_words.specs.Rows.{Last}
use Rattle.ec_words.specs.RowsLeft.{left}
use Rattle.ec_words.specs.Spelling.{IsNumberIn}
use Rattle.ec_words.proofs.Misfits.{returned, last_lacks, last_has}
use Rattle.ec_lease_machine.proofs.OfWords.Numbers.{a_number_in}
use Rattle.ec_lease_machine.proofs.words.row.one_number.Goals as goal

pub returns-in_err-number : goal.returns-in_err-number
returns-in_err-number c =
    let P = IsNumberIn c.args.least c.args.most in
    let ws = left c.args.words in
    returned (Last P) ws _ _ c.from_residual.ensures.1 (last_lacks P ws _ (a_number_in c.args.least c.args.most c.requires) c.in_err-number.ensures)

pub returns-in_err-no_more : goal.returns-in_err-no_more
returns-in_err-no_more c =
    let P = IsNumberIn c.args.least c.args.most in
    let ws = left c.args.words in
    let t = c.in_ok-number.ensures in
    returned (Last P) ws _ _ c.from_residual-in_err-no_more.ensures.1 (last_has P ws t.0 _ _ _ t.1.0 t.1.1 c.in_err-no_more.ensures)
