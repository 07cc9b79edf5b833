use Rattle.std.proofs.Common.{◌≡◌, ◌+◌, ◌++◌, ◌∷◌, [], sym, ap, subst, ◌∙◌, arith, rules, length, length-append}
use Rattle.ec_script.specs.Lines.{lines_of}
use Rattle.ec_legal.proofs.OfTranscript.Reading.{Read, reads-on, bad-line}
use Rattle.ec_legal.proofs.transcript.lines.read_lines.Goals as goal

pub returns-in-Err-At-clause-fault : goal.returns-in-Err-At-clause-fault
returns-in-Err-At-clause-fault c =
    let m : c.len.result + 1 ≡ length c.lines.lines.items + 1 = omega (arith, c.len.ensures) in
    rw c.in-Err-At.field-0-is
    (bad-line c.args.bytes.now (lines_of c.lines.rest.now) (lines_of c.split_line.result.1.now) c.lines.lines.items c.split_line.result.0.now (c.len.result + 1) _
    c.lines.invariant.0 c.split_line.ensures.lines m (rw c.in-Err-At.field-0-is at c.in-Err-At.ensures.shown))

pub lines-preserved : goal.lines-preserved
lines-preserved c =
    let e : c.add.new.lines.items ≡ c.lines.lines.items ++ c.in-Ok.shown ∷ [] = search rules in
    let n : length c.add.new.lines.items ≡ length c.lines.lines.items + 1 = ap length e ∙ length-append c.lines.lines.items (c.in-Ok.shown ∷ []) in (
      subst (Read (lines_of c.args.bytes.now) (lines_of c.split_line.result.1.now)) (sym e)
          (reads-on (lines_of c.args.bytes.now) (lines_of c.lines.rest.now) (lines_of c.split_line.result.1.now) c.lines.lines.items c.split_line.result.0.now c.in-Ok.shown
          c.lines.invariant.0 c.split_line.ensures.lines c.in-Ok.ensures.shown c.in-Ok.ensures.bounded),
      omega (arith, n),
    )
