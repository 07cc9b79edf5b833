use Rattle.std.proofs.Common.{refl, ap}
use Rattle.ec_words.proofs.Misfits.{asked, asked_is, made}
use Rattle.std.specs.Prelude.{codes, None}
use Rattle.ec_history.specs.declared.entry.Answer.TheVariants as answer
use Rattle.ec_plain.specs.declared.call.Reply.TheVariants as reply
use Rattle.ec_words.specs.Rows.{◌▸◌, End, Last, ◌⊳◌}
use Rattle.ec_words.specs.RowsLeft.{left}
use Rattle.ec_words.specs.Spelling.{IsSmallNumber, IsNumber}
use Rattle.ec_shown.specs.declared.answer.Outcome.TheVariants as outcome
use Rattle.ec_shown.specs.declared.name.Said.TheVariants as said
use Rattle.ec_shown.specs.Spelling.{IsNameText, IsWhy}
use Rattle.ec_shown.specs.Rows.{Tail, Times, SpellsList}
use Rattle.ec_shown.specs.Answers.{TextOf, Refuses, Properties, stat_reply, Tells}
use Rattle.ec_shown.proofs.answer.read_told.Goals as goal

pub returns-in_err-no_more-in-Waits : goal.returns-in_err-no_more-in-Waits
returns-in_err-no_more-in-Waits c =
    let ws = left c.args.words in
    asked Tells _ said.Waits ws _ _ c.in-Waits.is c.from_residual.ensures.1 (made (End) (λ u. outcome.Waits) ws _ c.in_err-no_more-in-Waits.ensures)

pub returns-in_err-op-in-Ok : goal.returns-in_err-op-in-Ok
returns-in_err-op-in-Ok c =
    let ws = left c.args.words in
    asked Tells _ said.Ok ws _ _ c.in-Ok.is c.from_residual-in_err-op-in-Ok.ensures.1 (made (Tail (codes "op") IsNumber) (outcome.Answered (answer.Reply reply.Ok)) ws _ c.in_err-op-in-Ok.ensures)

pub returns-in_ok-op-in-Ok : goal.returns-in_ok-op-in-Ok
returns-in_ok-op-in-Ok c = asked_is Tells _ said.Ok (left c.args.words) _ c.in-Ok.is (_, (c.in_ok-op-in-Ok.ensures, refl))

pub returns-in_err-bytes-in-Data : goal.returns-in_err-bytes-in-Data
returns-in_err-bytes-in-Data c =
    let ws = left c.args.words in
    asked Tells _ said.Data ws _ _ c.in-Data.is c.from_residual-in_err-bytes-in-Data.ensures.1 (made (IsNumber ⊳ TextOf) (λ bytes. outcome.Answered (answer.Reply (reply.Data bytes)) None) ws _ c.in_err-bytes-in-Data.ensures)

pub returns-in_ok-bytes-in-Data : goal.returns-in_ok-bytes-in-Data
returns-in_ok-bytes-in-Data c = asked_is Tells _ said.Data (left c.args.words) _ c.in-Data.is (_, (c.in_ok-bytes-in-Data.ensures, refl))

pub returns-in_err-reply-in-Stat : goal.returns-in_err-reply-in-Stat
returns-in_err-reply-in-Stat c =
    let ws = left c.args.words in
    asked Tells _ said.Stat ws _ _ c.in-Stat.is c.from_residual-in_err-reply-in-Stat.ensures.1 (made (Properties) (λ x. outcome.Answered (answer.Reply (stat_reply x)) None) ws _ c.in_err-reply-in-Stat.ensures)

pub returns-in_ok-reply-in-Stat : goal.returns-in_ok-reply-in-Stat
returns-in_ok-reply-in-Stat c = asked_is Tells _ said.Stat (left c.args.words) _ c.in-Stat.is (let g = c.in_ok-reply-in-Stat.ensures in (g.0, (g.1.0, ap (λ r. outcome.Answered (answer.Reply r) None) g.1.1)))

pub returns-in_err-names-in-Names : goal.returns-in_err-names-in-Names
returns-in_err-names-in-Names c =
    let ws = left c.args.words in
    asked Tells _ said.Names ws _ _ c.in-Names.is c.from_residual-in_err-names-in-Names.ensures.1 (made (IsNumber ⊳ Times IsNameText) (λ names. outcome.Answered (answer.Reply (reply.Names names)) None) ws _ c.in_err-names-in-Names.ensures)

pub returns-in_ok-names-in-Names : goal.returns-in_ok-names-in-Names
returns-in_ok-names-in-Names c = asked_is Tells _ said.Names (left c.args.words) _ c.in-Names.is (_, (c.in_ok-names-in-Names.ensures, refl))

pub returns-in_err-why-in-Refused : goal.returns-in_err-why-in-Refused
returns-in_err-why-in-Refused c =
    let ws = left c.args.words in
    asked Tells _ said.Refused ws _ _ c.in-Refused.is c.from_residual-in_err-why-in-Refused.ensures.1 (made (IsWhy ⊳ Refuses) (λ why. outcome.Answered (answer.Reply (reply.Refused why)) None) ws _ c.in_err-why-in-Refused.ensures)

pub returns-in_ok-why-in-Refused : goal.returns-in_ok-why-in-Refused
returns-in_ok-why-in-Refused c = asked_is Tells _ said.Refused (left c.args.words) _ c.in-Refused.is (_, (c.in_ok-why-in-Refused.ensures, refl))

pub returns-in_err-live-in-NoRoom : goal.returns-in_err-live-in-NoRoom
returns-in_err-live-in-NoRoom c =
    let ws = left c.args.words in
    asked Tells _ said.NoRoom ws _ _ c.in-NoRoom.is c.from_residual-in_err-live-in-NoRoom.ensures.1 (made (IsSmallNumber ▸ Last IsSmallNumber) (λ x. outcome.Answered (answer.NoRoom x.0 x.1) None) ws _ c.in_err-live-in-NoRoom.ensures)

pub returns-in_ok-live-in-NoRoom : goal.returns-in_ok-live-in-NoRoom
returns-in_ok-live-in-NoRoom c = asked_is Tells _ said.NoRoom (left c.args.words) _ c.in-NoRoom.is (_, (c.in_ok-live-in-NoRoom.ensures, refl))

pub returns-in_err-ops-in-Lost : goal.returns-in_err-ops-in-Lost
returns-in_err-ops-in-Lost c =
    let ws = left c.args.words in
    asked Tells _ said.Lost ws _ _ c.in-Lost.is c.from_residual-in_err-ops-in-Lost.ensures.1 (made (SpellsList) (λ ops. outcome.Answered (answer.Lost ops) None) ws _ c.in_err-ops-in-Lost.ensures)

pub returns-in_ok-ops-in-Lost : goal.returns-in_ok-ops-in-Lost
returns-in_ok-ops-in-Lost c = asked_is Tells _ said.Lost (left c.args.words) _ c.in-Lost.is (_, (c.in_ok-ops-in-Lost.ensures, refl))
