use Rattle.std.proofs.Common.{◌≡◌, ◌<◌, ◌+◌, ◌++◌, sym, ap, ◌∙◌, arith, rules, length, take, drop, get_or}
use Rattle.ec_script.specs.Lines.{lines_of}
use Rattle.ec_legal.proofs.OfTranscript.Halves.{cut-at}
use Rattle.ec_legal.proofs.transcript.parts.cut.Goals as goal

pub returns-then-bytes-at-eq10-clause-lines : goal.returns-then-bytes-at-eq10-clause-lines
returns-then-bytes-at-eq10-clause-lines c =
    let bs = c.args.bytes.now in
    let i = c.loop-at.at in
    let within : i < length bs = omega (arith, c.loop-at-test.true) in
    let ten : get_or bs i 0 ≡ 10 = search rules in
    let front : c.split_at.result.0.now ≡ take (i + 1) bs = search rules in
    let back : c.split_at.result.1.now ≡ drop (i + 1) bs = search rules in
    cut-at bs i within ten ∙ ap (λ x. lines_of x ++ lines_of (drop (i + 1) bs)) (sym front) ∙ ap (λ x. lines_of c.split_at.result.0.now ++ lines_of x) (sym back)
