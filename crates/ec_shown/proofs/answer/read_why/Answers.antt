use Rattle.ec_words.specs.RowsLeft.{left}
use Rattle.ec_plain.specs.declared.call.Refusal.TheVariants as refusal
use Rattle.ec_words.specs.Rows.{Last}
use Rattle.ec_words.proofs.Misfits.{asked, made}
use Rattle.ec_shown.specs.declared.name.Why.TheVariants as why
use Rattle.ec_shown.specs.Spelling.{IsPlace}
use Rattle.ec_shown.specs.Answers.{Refuses}
use Rattle.ec_shown.proofs.Behind.{chosen}
use Rattle.ec_shown.proofs.answer.read_why.Goals as goal

pub returns-in_err-place-in-NotFound : goal.returns-in_err-place-in-NotFound
returns-in_err-place-in-NotFound c =
    let ws = left c.args.words in
    asked Refuses _ why.NotFound ws _ _ c.in-NotFound.is c.from_residual.ensures.1 (made (Last IsPlace) refusal.NotFound ws _ c.in_err-place-in-NotFound.ensures)

pub returns-in_err-place-in-NotDir : goal.returns-in_err-place-in-NotDir
returns-in_err-place-in-NotDir c =
    let ws = left c.args.words in
    asked Refuses _ why.NotDir ws _ _ c.in-NotDir.is c.from_residual-in_err-place-in-NotDir.ensures.1 (made (Last IsPlace) refusal.NotDir ws _ c.in_err-place-in-NotDir.ensures)

pub returns-in-IsDir : goal.returns-in-IsDir
returns-in-IsDir c = chosen Refuses _ why.IsDir (left c.args.words) _ c.in-IsDir.is c.alone.ensures

pub returns-in-Exists : goal.returns-in-Exists
returns-in-Exists c = chosen Refuses _ why.Exists (left c.args.words) _ c.in-Exists.is c.alone-in-Exists.ensures

pub returns-in-NotEmpty : goal.returns-in-NotEmpty
returns-in-NotEmpty c = chosen Refuses _ why.NotEmpty (left c.args.words) _ c.in-NotEmpty.is c.alone-in-NotEmpty.ensures

pub returns-in-TooLong : goal.returns-in-TooLong
returns-in-TooLong c = chosen Refuses _ why.TooLong (left c.args.words) _ c.in-TooLong.is c.alone-in-TooLong.ensures

pub returns-in-DirFull : goal.returns-in-DirFull
returns-in-DirFull c = chosen Refuses _ why.DirFull (left c.args.words) _ c.in-DirFull.is c.alone-in-DirFull.ensures

pub returns-in-Root : goal.returns-in-Root
returns-in-Root c = chosen Refuses _ why.Root (left c.args.words) _ c.in-Root.is c.alone-in-Root.ensures

pub returns-in-Loop : goal.returns-in-Loop
returns-in-Loop c = chosen Refuses _ why.Loop (left c.args.words) _ c.in-Loop.is c.alone-in-Loop.ensures
