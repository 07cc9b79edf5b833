use Rattle.std.proofs.Common.{inl, sym, ap, ◌∙◌}
use Rattle.ec_words.specs.Rows.{◌▸◌}
use Rattle.ec_words.specs.RowsLeft.{left}
use Rattle.ec_words.specs.Spelling.{IsClerk}
use Rattle.ec_words.specs.Examples.{a_clerk}
use Rattle.ec_words.proofs.Misfits.{returned, made, row_lacks, row_has, row_is, begins_row}
use Rattle.ec_shown.specs.Calls.{SpellsAsked}
use Rattle.ec_shown.specs.Lines.{Begun, asked_line}
use Rattle.ec_shown.proofs.Said.{an_asked}
use Rattle.ec_shown.proofs.line.read_call.Goals as goal

pub returns-in_err-letter : goal.returns-in_err-letter
returns-in_err-letter c =
    let ws = left c.args.words in
    let n = c.args.number in
    returned (Begun (inl n)) ws _ _ c.from_residual.ensures.1 (made (IsClerk ▸ SpellsAsked) (λ x. asked_line n x.0 x.1.0 x.1.1) ws _ (row_lacks IsClerk SpellsAsked ws _ (begins_row IsClerk SpellsAsked a_clerk an_asked) c.in_err-letter.ensures))

pub returns-in_err-call : goal.returns-in_err-call
returns-in_err-call c =
    let ws = left c.args.words in
    let n = c.args.number in
    let t = c.in_ok-letter.ensures in
    returned (Begun (inl n)) ws _ _ c.from_residual-in_err-call.ensures.1 (made (IsClerk ▸ SpellsAsked) (λ x. asked_line n x.0 x.1.0 x.1.1) ws _ (row_has IsClerk SpellsAsked ws t.0 (left c.in_ok-letter.rest) c.in_ok-letter.letter _ t.1.0 t.1.1 c.in_err-call.ensures))

pub returns : goal.returns
returns c =
    let ws = left c.args.words in
    let n = c.args.number in
    let t = c.in_ok-letter.ensures in
    let call = c.in_ok-call.call in
    let outcome = c.in_ok-call.outcome in
    ((c.in_ok-letter.letter, (call, outcome)), (row_is IsClerk SpellsAsked ws t.0 (left c.in_ok-letter.rest) c.in_ok-letter.letter (call, outcome) t.1.0 t.1.1 c.in_ok-call.ensures, ap (λ k. asked_line n k call outcome) (sym c.letter.view_is) ∙ sym c.asked_line.ensures))
