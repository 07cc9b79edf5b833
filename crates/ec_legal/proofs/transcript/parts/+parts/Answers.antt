use Rattle.std.proofs.Common.{◌≡◌, ◌+◌, ◌++◌, sym, ap, subst, ◌∙◌, arith, rules, length, length-append}
use Rattle.std.specs.Prelude.{Err}
use Rattle.std.proofs.lemmas.Result.{err_from_is_err_and}
use Rattle.ec_legal.specs.declared.transcript.lines.ReadFault.TheVariants as fault
use Rattle.ec_legal.specs.OfTranscript.LinesRead.{TranscriptIsRead, HasBadLine}
use Rattle.ec_legal.proofs.OfTranscript.Halves.{read-both, above-fault, bad-below, bad-few, if-ok, ok-of, err-of}
use Rattle.ec_legal.proofs.transcript.parts.+parts.Goals as goal

pub returns-in-Ok-clause-read : goal.returns-in-Ok-clause-read
returns-in-Ok-clause-read g t c =
    let bs = c.args.bytes.now in
    let front = c.cut.result.0.now in
    let back = c.cut.result.1.now in
    let above = ok-of (λ v. TranscriptIsRead front v.items) c.join-above.result.0 c.in_ok-lines.lines c.in_ok-lines.was c.join-above.ensures.first.0 in
    let below = ok-of (λ v. TranscriptIsRead back v.items) c.join-above.result.1 c.in-Ok.more c.in-Ok.is c.join-above.ensures.second.0 in
    if-ok (λ v. v.items ≡ c.in_ok-lines.lines.items ++ c.in-Ok.more.items) (λ v. TranscriptIsRead bs v.items) c.append.result
    (λ v e. subst (TranscriptIsRead bs) (sym e) (read-both bs front back c.in_ok-lines.lines.items c.in-Ok.more.items c.cut.ensures.lines c.cut.ensures.bytes above below))
    c.append.ensures.items

pub returns-in_err-lines-clause-fault : goal.returns-in_err-lines-clause-fault
returns-in_err-lines-clause-fault g t c =
    let front = c.cut.result.0.now in
    let p = err_from_is_err_and c.from_residual.result c.from_residual.ensures.1 in
    let bad = err-of (HasBadLine front) c.join-above.result.0 c.in_err-lines.field-0.0 c.in_err-lines.was c.join-above.ensures.first.1 in
    rw (p.1, p.2) (above-fault c.args.bytes.now front c.cut.result.1.now c.in_err-lines.field-0.0 c.cut.ensures.lines bad)

pub overflow_add-result : goal.overflow_add-result
overflow_add-result g t c =
    let bs = c.args.bytes.now in
    let front = c.cut.result.0.now in
    let back = c.cut.result.1.now in
    let above = ok-of (λ v. TranscriptIsRead front v.items) c.join-above.result.0 c.in_ok-lines.lines c.in_ok-lines.was c.join-above.ensures.first.0 in
    let is : c.join-above.result.1 ≡ Err (fault.BadLine c.in-Err-BadLine.number c.in-Err-BadLine.column) = search rules in
    let bad = err-of (HasBadLine back) c.join-above.result.1 (fault.BadLine c.in-Err-BadLine.number c.in-Err-BadLine.column) is c.join-above.ensures.second.1 in
    let long : length bs ≡ length front + length back = ap length c.cut.ensures.bytes ∙ length-append front back in
    omega (arith, above.few, bad-few back c.in-Err-BadLine.number c.in-Err-BadLine.column bad, long, c.requires, c.len.ensures)

pub returns-in-Err-BadLine-clause-fault : goal.returns-in-Err-BadLine-clause-fault
returns-in-Err-BadLine-clause-fault g t c =
    let bs = c.args.bytes.now in
    let front = c.cut.result.0.now in
    let back = c.cut.result.1.now in
    let lines = c.in_ok-lines.lines.items in
    let above = ok-of (λ v. TranscriptIsRead front v.items) c.join-above.result.0 c.in_ok-lines.lines c.in_ok-lines.was c.join-above.ensures.first.0 in
    let is : c.join-above.result.1 ≡ Err (fault.BadLine c.in-Err-BadLine.number c.in-Err-BadLine.column) = search rules in
    let bad = err-of (HasBadLine back) c.join-above.result.1 (fault.BadLine c.in-Err-BadLine.number c.in-Err-BadLine.column) is c.join-above.ensures.second.1 in
    let sum : c.len.result + c.in-Err-BadLine.number ≡ length lines + c.in-Err-BadLine.number = omega (arith, c.len.ensures) in
    bad-below bs front back lines (c.len.result + c.in-Err-BadLine.number) c.in-Err-BadLine.number c.in-Err-BadLine.column c.cut.ensures.lines above bad sum
