use Rattle.std.proofs.Common.{ℕ, ◌≤◌, arith}
use Rattle.ec_words.specs.Examples.{a_clerk}
use Rattle.ec_words.specs.Rows.{◌▸◌, Last}
use Rattle.ec_words.specs.RowsLeft.{left}
use Rattle.ec_words.specs.Spelling.{IsClerk, IsNumberIn}
use Rattle.ec_words.specs.declared.cursor.Misfit.TheVariants as misfit
use Rattle.ec_words.proofs.Misfits.{returned, row_lacks, row_has, begins_row, begins_last}
use Rattle.ec_lease_machine.proofs.OfWords.Numbers.{a_number_in, lacks_none, lacks_word}
use Rattle.ec_lease_machine.proofs.words.row.clerk_and_number.Goals as goal

pub returns-in_default : goal.returns-in_default
returns-in_default c =
    let P = IsNumberIn 0 c.args.most in
    let ws = left c.args.words in
    row_lacks IsClerk (Last P) ws (misfit.Unfit 0) (begins_row IsClerk (Last P) a_clerk (begins_last P (a_number_in 0 c.args.most (omega arith)))) (lacks_none IsClerk ws c.in_default.ensures)

pub returns-in_default-clerk_of : goal.returns-in_default-clerk_of
returns-in_default-clerk_of c =
    let P = IsNumberIn 0 c.args.most in
    let ws = left c.args.words in
    row_lacks IsClerk (Last P) ws (misfit.Unfit c.len.result) (begins_row IsClerk (Last P) a_clerk (begins_last P (a_number_in 0 c.args.most (omega arith)))) (lacks_word IsClerk ws c.in-Some.word.now (left c.in-Some.rest) c.len.result c.in-Some.ensures c.len.ensures c.in_default-clerk_of.ensures)

pub returns-in_err-number : goal.returns-in_err-number
returns-in_err-number c =
    let G = Last (IsNumberIn 0 c.args.most) in
    let ws = left c.args.words in
    returned (IsClerk ▸ G) ws _ _ c.from_residual.ensures.1 (row_has IsClerk G ws c.in-Some.word.now (left c.in-Some.rest) c.in-Some-clerk_of.clerk _ c.in-Some.ensures c.in-Some-clerk_of.ensures c.in_err-number.ensures)
