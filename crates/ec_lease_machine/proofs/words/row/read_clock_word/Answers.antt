use Rattle.std.proofs.Common.{◌*◌, refl}
use Rattle.ec_words.specs.Rows.{◌▸◌, Last}
use Rattle.ec_words.specs.RowsLeft.{left}
use Rattle.ec_words.specs.Spelling.{IsClerk, IsNumberIn, IsSmallNumber}
use Rattle.ec_words.proofs.Misfits.{asked, asked_is, made}
use Rattle.ec_lease_machine.specs.OfWords.Grammar.{ClockSays, most_ticks}
use Rattle.ec_lease_machine.specs.declared.words.line.LeaseLine.TheVariants as line
use Rattle.ec_lease_machine.specs.declared.words.name.ClockWord.TheVariants as clock
use Rattle.ec_lease_machine.proofs.words.row.read_clock_word.Goals as goal

pub returns-in_err-one_number-in-Tick : goal.returns-in_err-one_number-in-Tick
returns-in_err-one_number-in-Tick c =
    let ws = left c.args.words in
    asked (ClockSays c.args.most) _ clock.Tick ws _ _ c.in-Tick.is c.from_residual.ensures.1 (made (Last (IsNumberIn 1 most_ticks)) line.Tick ws _ c.in_err-one_number-in-Tick.ensures)

pub returns-in_err-clerk-in-Skew : goal.returns-in_err-clerk-in-Skew
returns-in_err-clerk-in-Skew c =
    let ws = left c.args.words in
    asked (ClockSays c.args.most) _ clock.Skew ws _ _ c.in-Skew.is c.from_residual-in_err-clerk-in-Skew.ensures.1 (made (IsClerk ▸ Last (IsNumberIn 0 (2 * c.args.most))) (λ x. line.Skew x.0 x.1) ws _ c.in_err-clerk-in-Skew.ensures)

pub returns-in_err-one-in-Grant : goal.returns-in_err-one-in-Grant
returns-in_err-one-in-Grant c =
    let ws = left c.args.words in
    asked (ClockSays c.args.most) _ clock.Grant ws _ _ c.in-Grant.is c.from_residual-in_err-one-in-Grant.ensures.1 (made (Last IsClerk) line.Grant ws _ c.in_err-one-in-Grant.ensures)

pub returns-in_err-clerk-in-Hand : goal.returns-in_err-clerk-in-Hand
returns-in_err-clerk-in-Hand c =
    let ws = left c.args.words in
    asked (ClockSays c.args.most) _ clock.Hand ws _ _ c.in-Hand.is c.from_residual-in_err-clerk-in-Hand.ensures.1 (made (IsClerk ▸ Last IsSmallNumber) (λ x. line.Hand x.0 x.1) ws _ c.in_err-clerk-in-Hand.ensures)

pub returns-in_ok-clerk-in-Skew : goal.returns-in_ok-clerk-in-Skew
returns-in_ok-clerk-in-Skew c = asked_is (ClockSays c.args.most) _ clock.Skew (left c.args.words) _ c.in-Skew.is (_, (c.in_ok-clerk-in-Skew.ensures, refl))

pub returns-in_ok-clerk-in-Hand : goal.returns-in_ok-clerk-in-Hand
returns-in_ok-clerk-in-Hand c = asked_is (ClockSays c.args.most) _ clock.Hand (left c.args.words) _ c.in-Hand.is (_, (c.in_ok-clerk-in-Hand.ensures, refl))
