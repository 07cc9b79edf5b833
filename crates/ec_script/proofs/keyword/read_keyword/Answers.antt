use Rattle.std.proofs.Common.{refl, sym, ap}
use Rattle.ec_words.specs.declared.name.Keyword.TheVariants as keyword
use Rattle.ec_words.specs.Rows.{◌▸◌, End, Last}
use Rattle.ec_words.specs.RowsLeft.{left}
use Rattle.ec_words.specs.Spelling.{IsClerk, IsSmallNumber, IsNumber, IsArmed, IsKind, IsChoice}
use Rattle.ec_words.proofs.Misfits.{asked, asked_is, made}
use Rattle.ec_script.specs.declared.line.Line.TheVariants as line
use Rattle.ec_script.specs.Grammar.{Says}
use Rattle.ec_script.proofs.keyword.read_keyword.Goals as goal

pub returns-in_err-clerk-in-Push : goal.returns-in_err-clerk-in-Push
returns-in_err-clerk-in-Push c =
    let ws = left c.args.words in
    asked Says _ keyword.Push ws _ _ c.in-Push.is c.from_residual.ensures.1 (made (IsClerk ▸ Last IsNumber) (λ x. line.Push x.0 x.1) ws _ c.in_err-clerk-in-Push.ensures)

pub returns-in_err-one-in-Cut : goal.returns-in_err-one-in-Cut
returns-in_err-one-in-Cut c =
    let ws = left c.args.words in
    asked Says _ keyword.Cut ws _ _ c.in-Cut.is c.from_residual-in_err-one-in-Cut.ensures.1 (made (Last IsClerk) line.Cut ws _ c.in_err-one-in-Cut.ensures)

pub returns-in_err-one-in-Uncut : goal.returns-in_err-one-in-Uncut
returns-in_err-one-in-Uncut c =
    let ws = left c.args.words in
    asked Says _ keyword.Uncut ws _ _ c.in-Uncut.is c.from_residual-in_err-one-in-Uncut.ensures.1 (made (Last IsClerk) line.Uncut ws _ c.in_err-one-in-Uncut.ensures)

pub returns-in_err-clerk-in-Drop : goal.returns-in_err-clerk-in-Drop
returns-in_err-clerk-in-Drop c =
    let ws = left c.args.words in
    asked Says _ keyword.Drop ws _ _ c.in-Drop.is c.from_residual-in_err-clerk-in-Drop.ensures.1 (made (IsClerk ▸ IsKind ▸ Last IsSmallNumber) (λ x. line.Drop x.0 x.1.0 x.1.1) ws _ c.in_err-clerk-in-Drop.ensures)

pub returns-in_err-clerk-in-Repeat : goal.returns-in_err-clerk-in-Repeat
returns-in_err-clerk-in-Repeat c =
    let ws = left c.args.words in
    asked Says _ keyword.Repeat ws _ _ c.in-Repeat.is c.from_residual-in_err-clerk-in-Repeat.ensures.1 (made (IsClerk ▸ IsKind ▸ Last IsSmallNumber) (λ x. line.Repeat x.0 x.1.0 x.1.1) ws _ c.in_err-clerk-in-Repeat.ensures)

pub returns-in_err-clerk-in-Deliver : goal.returns-in_err-clerk-in-Deliver
returns-in_err-clerk-in-Deliver c =
    let ws = left c.args.words in
    asked Says _ keyword.Deliver ws _ _ c.in-Deliver.is c.from_residual-in_err-clerk-in-Deliver.ensures.1 (made (IsClerk ▸ IsKind ▸ Last IsSmallNumber) (λ x. line.Deliver x.0 x.1.0 x.1.1) ws _ c.in_err-clerk-in-Deliver.ensures)

pub returns-in_err-one-in-Resend : goal.returns-in_err-one-in-Resend
returns-in_err-one-in-Resend c =
    let ws = left c.args.words in
    asked Says _ keyword.Resend ws _ _ c.in-Resend.is c.from_residual-in_err-one-in-Resend.ensures.1 (made (Last IsClerk) line.Resend ws _ c.in_err-one-in-Resend.ensures)

pub returns-in_err-one-in-Crash : goal.returns-in_err-one-in-Crash
returns-in_err-one-in-Crash c =
    let ws = left c.args.words in
    asked Says _ keyword.Crash ws _ _ c.in-Crash.is c.from_residual-in_err-one-in-Crash.ensures.1 (made (Last IsClerk) line.Crash ws _ c.in_err-one-in-Crash.ensures)

pub returns-in_err-one-in-End : goal.returns-in_err-one-in-End
returns-in_err-one-in-End c =
    let ws = left c.args.words in
    asked Says _ keyword.End ws _ _ c.in-End.is c.from_residual-in_err-one-in-End.ensures.1 (made (Last IsClerk) line.End ws _ c.in_err-one-in-End.ensures)

pub returns-in_err-no_more-in-Stop : goal.returns-in_err-no_more-in-Stop
returns-in_err-no_more-in-Stop c =
    let ws = left c.args.words in
    asked Says _ keyword.Stop ws _ _ c.in-Stop.is c.from_residual-in_err-no_more-in-Stop.ensures.1 (made End (λ x. line.Stop) ws _ c.in_err-no_more-in-Stop.ensures)

pub returns-in_err-calls-in-Arm : goal.returns-in_err-calls-in-Arm
returns-in_err-calls-in-Arm c =
    let ws = left c.args.words in
    asked Says _ keyword.Arm ws _ _ c.in-Arm.is c.from_residual-in_err-calls-in-Arm.ensures.1 (made (IsArmed ▸ Last IsChoice) (λ x. line.Arm x.0 x.1) ws _ c.in_err-calls-in-Arm.ensures)

pub returns-in_err-no_more-in-Restart : goal.returns-in_err-no_more-in-Restart
returns-in_err-no_more-in-Restart c =
    let ws = left c.args.words in
    asked Says _ keyword.Restart ws _ _ c.in-Restart.is c.from_residual-in_err-no_more-in-Restart.ensures.1 (made End (λ x. line.Restart) ws _ c.in_err-no_more-in-Restart.ensures)

pub returns-in_ok-clerk-in-Push : goal.returns-in_ok-clerk-in-Push
returns-in_ok-clerk-in-Push c = asked_is Says _ keyword.Push (left c.args.words) _ c.in-Push.is (_, (c.in_ok-clerk-in-Push.ensures, refl))

pub returns-in_ok-clerk-in-Drop : goal.returns-in_ok-clerk-in-Drop
returns-in_ok-clerk-in-Drop c = asked_is Says _ keyword.Drop (left c.args.words) _ c.in-Drop.is (_, (c.in_ok-clerk-in-Drop.ensures, refl))

pub returns-in_ok-clerk-in-Repeat : goal.returns-in_ok-clerk-in-Repeat
returns-in_ok-clerk-in-Repeat c = asked_is Says _ keyword.Repeat (left c.args.words) _ c.in-Repeat.is (_, (c.in_ok-clerk-in-Repeat.ensures, refl))

pub returns-in_ok-clerk-in-Deliver : goal.returns-in_ok-clerk-in-Deliver
returns-in_ok-clerk-in-Deliver c = asked_is Says _ keyword.Deliver (left c.args.words) _ c.in-Deliver.is (_, (c.in_ok-clerk-in-Deliver.ensures, refl))

pub returns-in_ok-calls-in-Arm : goal.returns-in_ok-calls-in-Arm
returns-in_ok-calls-in-Arm c = asked_is Says _ keyword.Arm (left c.args.words) _ c.in-Arm.is (_, (c.in_ok-calls-in-Arm.ensures, ap (λ n. line.Arm n c.in_ok-calls-in-Arm.choice) (sym c.calls.view_is)))
