use Rattle.std.proofs.Common.{refl}
use Rattle.ec_words.proofs.Misfits.{asked, asked_is, made}
use Rattle.std.specs.Prelude.{codes}
use Rattle.ec_history.specs.declared.shown.Shown.TheVariants as shown
use Rattle.ec_words.specs.Rows.{◌▸◌, End, Last}
use Rattle.ec_words.specs.RowsLeft.{left}
use Rattle.ec_words.specs.Spelling.{IsClerk, IsSmallNumber, IsNumber}
use Rattle.ec_shown.specs.declared.name.Head.TheVariants as head
use Rattle.ec_shown.specs.Spelling.{IsLimit, IsCounter}
use Rattle.ec_shown.specs.Rows.{Marked, SpellsList}
use Rattle.ec_shown.specs.Lines.{Says}
use Rattle.ec_shown.proofs.line.read_head.Goals as goal

pub returns-in_err-clerk-in-Durable : goal.returns-in_err-clerk-in-Durable
returns-in_err-clerk-in-Durable c =
    let ws = left c.args.words in
    asked Says _ head.Durable ws _ _ c.in-Durable.is c.from_residual.ensures.1 (made (IsClerk ▸ SpellsList) (λ x. shown.Durable x.0 x.1) ws _ c.in_err-clerk-in-Durable.ensures)

pub returns-in_ok-clerk-in-Durable : goal.returns-in_ok-clerk-in-Durable
returns-in_ok-clerk-in-Durable c = asked_is Says _ head.Durable (left c.args.words) _ c.in-Durable.is (_, (c.in_ok-clerk-in-Durable.ensures, refl))

pub returns-in_err-clerk-in-Ended : goal.returns-in_err-clerk-in-Ended
returns-in_err-clerk-in-Ended c =
    let ws = left c.args.words in
    asked Says _ head.Ended ws _ _ c.in-Ended.is c.from_residual-in_err-clerk-in-Ended.ensures.1 (made (IsClerk ▸ Marked (codes "lost") SpellsList) (λ x. shown.Ended x.0 x.1) ws _ c.in_err-clerk-in-Ended.ensures)

pub returns-in_ok-clerk-in-Ended : goal.returns-in_ok-clerk-in-Ended
returns-in_ok-clerk-in-Ended c = asked_is Says _ head.Ended (left c.args.words) _ c.in-Ended.is (_, (c.in_ok-clerk-in-Ended.ensures, refl))

pub returns-in_err-clerk-in-Unseen : goal.returns-in_err-clerk-in-Unseen
returns-in_err-clerk-in-Unseen c =
    let ws = left c.args.words in
    asked Says _ head.Unseen ws _ _ c.in-Unseen.is c.from_residual-in_err-clerk-in-Unseen.ensures.1 (made (Last IsClerk) (shown.Unseen) ws _ c.in_err-clerk-in-Unseen.ensures)

pub returns-in_ok-clerk-in-Unseen : goal.returns-in_ok-clerk-in-Unseen
returns-in_ok-clerk-in-Unseen c = asked_is Says _ head.Unseen (left c.args.words) _ c.in-Unseen.is (_, (c.in_ok-clerk-in-Unseen.ensures, refl))

pub returns-in_err-clerk-in-Told : goal.returns-in_err-clerk-in-Told
returns-in_err-clerk-in-Told c =
    let ws = left c.args.words in
    asked Says _ head.Told ws _ _ c.in-Told.is c.from_residual-in_err-clerk-in-Told.ensures.1 (made (IsClerk ▸ Marked (codes "lost") SpellsList) (λ x. shown.Told x.0 x.1) ws _ c.in_err-clerk-in-Told.ensures)

pub returns-in_ok-clerk-in-Told : goal.returns-in_ok-clerk-in-Told
returns-in_ok-clerk-in-Told c = asked_is Says _ head.Told (left c.args.words) _ c.in-Told.is (_, (c.in_ok-clerk-in-Told.ensures, refl))

pub returns-in_err-clerk-in-Crashed : goal.returns-in_err-clerk-in-Crashed
returns-in_err-clerk-in-Crashed c =
    let ws = left c.args.words in
    asked Says _ head.Crashed ws _ _ c.in-Crashed.is c.from_residual-in_err-clerk-in-Crashed.ensures.1 (made (Last IsClerk) (shown.Crashed) ws _ c.in_err-clerk-in-Crashed.ensures)

pub returns-in_ok-clerk-in-Crashed : goal.returns-in_ok-clerk-in-Crashed
returns-in_ok-clerk-in-Crashed c = asked_is Says _ head.Crashed (left c.args.words) _ c.in-Crashed.is (_, (c.in_ok-clerk-in-Crashed.ensures, refl))

pub returns-in_err-no_more-in-Stopped : goal.returns-in_err-no_more-in-Stopped
returns-in_err-no_more-in-Stopped c =
    let ws = left c.args.words in
    asked Says _ head.Stopped ws _ _ c.in-Stopped.is c.from_residual-in_err-no_more-in-Stopped.ensures.1 (made (End) (λ u. shown.Stopped) ws _ c.in_err-no_more-in-Stopped.ensures)

pub returns-in_err-no_more-in-Started : goal.returns-in_err-no_more-in-Started
returns-in_err-no_more-in-Started c =
    let ws = left c.args.words in
    asked Says _ head.Started ws _ _ c.in-Started.is c.from_residual-in_err-no_more-in-Started.ensures.1 (made (End) (λ u. shown.Started) ws _ c.in_err-no_more-in-Started.ensures)

pub returns-in_err-no_more-in-Nothing : goal.returns-in_err-no_more-in-Nothing
returns-in_err-no_more-in-Nothing c =
    let ws = left c.args.words in
    asked Says _ head.Nothing ws _ _ c.in-Nothing.is c.from_residual-in_err-no_more-in-Nothing.ensures.1 (made (End) (λ u. shown.Nothing) ws _ c.in_err-no_more-in-Nothing.ensures)

pub returns-in_err-no_more-in-Unsettled : goal.returns-in_err-no_more-in-Unsettled
returns-in_err-no_more-in-Unsettled c =
    let ws = left c.args.words in
    asked Says _ head.Unsettled ws _ _ c.in-Unsettled.is c.from_residual-in_err-no_more-in-Unsettled.ensures.1 (made (End) (λ u. shown.Unsettled) ws _ c.in_err-no_more-in-Unsettled.ensures)

pub returns-in_err-line-in-Bad : goal.returns-in_err-line-in-Bad
returns-in_err-line-in-Bad c =
    let ws = left c.args.words in
    asked Says _ head.Bad ws _ _ c.in-Bad.is c.from_residual-in_err-line-in-Bad.ensures.1 (made (IsSmallNumber ▸ Marked (codes "col") (Last IsSmallNumber)) (λ x. shown.Bad x.0 x.1) ws _ c.in_err-line-in-Bad.ensures)

pub returns-in_ok-line-in-Bad : goal.returns-in_ok-line-in-Bad
returns-in_ok-line-in-Bad c = asked_is Says _ head.Bad (left c.args.words) _ c.in-Bad.is (_, (c.in_ok-line-in-Bad.ensures, refl))

pub returns-in_err-place-in-Disk : goal.returns-in_err-place-in-Disk
returns-in_err-place-in-Disk c =
    let ws = left c.args.words in
    asked Says _ head.Disk ws _ _ c.in-Disk.is c.from_residual-in_err-place-in-Disk.ensures.1 (made (Marked (codes "bad") (Last IsNumber)) (shown.DiskBad) ws _ c.in_err-place-in-Disk.ensures)

pub returns-in_ok-place-in-Disk : goal.returns-in_ok-place-in-Disk
returns-in_ok-place-in-Disk c = asked_is Says _ head.Disk (left c.args.words) _ c.in-Disk.is (_, (c.in_ok-place-in-Disk.ensures, refl))

pub returns-in_err-name-in-Limit : goal.returns-in_err-name-in-Limit
returns-in_err-name-in-Limit c =
    let ws = left c.args.words in
    asked Says _ head.Limit ws _ _ c.in-Limit.is c.from_residual-in_err-name-in-Limit.ensures.1 (made (IsLimit ▸ Last IsNumber) (λ x. shown.Limit x.0 x.1) ws _ c.in_err-name-in-Limit.ensures)

pub returns-in_ok-name-in-Limit : goal.returns-in_ok-name-in-Limit
returns-in_ok-name-in-Limit c = asked_is Says _ head.Limit (left c.args.words) _ c.in-Limit.is (_, (c.in_ok-name-in-Limit.ensures, refl))

pub returns-in_err-counter-in-Spent : goal.returns-in_err-counter-in-Spent
returns-in_err-counter-in-Spent c =
    let ws = left c.args.words in
    asked Says _ head.Spent ws _ _ c.in-Spent.is c.from_residual-in_err-counter-in-Spent.ensures.1 (made (Last IsCounter) (shown.Spent) ws _ c.in_err-counter-in-Spent.ensures)

pub returns-in_ok-counter-in-Spent : goal.returns-in_ok-counter-in-Spent
returns-in_ok-counter-in-Spent c = asked_is Says _ head.Spent (left c.args.words) _ c.in-Spent.is (_, (c.in_ok-counter-in-Spent.ensures, refl))
