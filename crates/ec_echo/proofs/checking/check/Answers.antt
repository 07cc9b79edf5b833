use Rattle.std.proofs.Common.{refl}
use Rattle.ec_history.specs.declared.shown.Shown.TheVariants as shown
use Rattle.ec_history.specs.declared.shown.LimitName.TheVariants as limit
use Rattle.ec_words.specs.OfText.Lines.{shown_text}
use Rattle.ec_echo.specs.Check.{illegal_text}
use Rattle.ec_echo.specs.declared.status.Status.TheVariants as status
use Rattle.ec_echo.proofs.Judging.{told, told-made}
use Rattle.ec_echo.proofs.checking.check.Goals as goal

pub returns-in-Ok-Legal-clause-judged : goal.returns-in-Ok-Legal-clause-judged
returns-in-Ok-Legal-clause-judged g c =
    told c.args.max_objects _ _ status.Done c.write_text.result _ (rw c.in-Ok-Legal.field-0-is at c.in-Ok-Legal.ensures.ok, refl) c.write_text.ensures.written

pub returns-in-Ok-Illegal-clause-judged : goal.returns-in-Ok-Illegal-clause-judged
returns-in-Ok-Illegal-clause-judged g c =
    let line = c.in-Ok-Illegal.line in
    let rule = c.in-Ok-Illegal.rule in
    told-made c.illegal_text.result (λ t. t.items) c.args.max_objects _ _ status.Illegal c.write_made.result (illegal_text line rule)
    (line, rule, rw c.in-Ok-Illegal.field-0-is at c.in-Ok-Illegal.ensures.ok, refl) c.illegal_text.ensures c.write_made.ensures.written

pub returns-in-Err-BadLine-clause-judged : goal.returns-in-Err-BadLine-clause-judged
returns-in-Err-BadLine-clause-judged g c =
    let line = c.in-Err-BadLine.line in
    let column = c.in-Err-BadLine.column in
    told-made c.line_text-text.result (λ t. t.items) c.args.max_objects _ _ status.BadLine c.write_made-in-Err-BadLine.result (shown_text (shown.Bad line column))
    (line, column, rw c.in-Err-BadLine.field-0-is at c.in-Err-BadLine.ensures.err, refl) c.line_text-text.ensures c.write_made-in-Err-BadLine.ensures.written

pub returns-in-Err-Limit-clause-judged : goal.returns-in-Err-Limit-clause-judged
returns-in-Err-Limit-clause-judged g c =
    let bytes = c.in-Err-Limit.bytes in
    told-made c.line_text-text-in-Err-Limit.result (λ t. t.items) c.args.max_objects _ _ status.Limit c.write_made-in-Err-Limit.result (shown_text (shown.Limit limit.Bytes bytes))
    (bytes, rw c.in-Err-Limit.field-0-is at c.in-Err-Limit.ensures.err, refl) c.line_text-text-in-Err-Limit.ensures c.write_made-in-Err-Limit.ensures.written
