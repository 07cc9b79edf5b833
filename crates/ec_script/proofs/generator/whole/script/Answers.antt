use Rattle.std.proofs.Common.{◌≡◌, ◌∙◌, ap, arith}
use Rattle.ec_script.specs.OfGenerator.Generator.{script_of}
use Rattle.ec_script.proofs.OfGenerator.Drawing.{one_more_line, one_more_state}
use Rattle.ec_script.proofs.generator.whole.script.Goals as goal

pub loop-before-preserved : goal.loop-before-preserved
loop-before-preserved c =
    let was = c.loop-before.invariant in let more = c.in_ok-push_line.ensures in (
      one_more_line c.loop-before.out.items c.push_line.new.out.items c.args.number c.loop-before.before c.loop-before.draws.state was.0 was.1 more.text,
      one_more_state c.args.number c.loop-before.before c.loop-before.draws.state c.push_line.new.draws.state was.1 more.draws,
    )

pub returns : goal.returns
returns c =
    let whole : c.loop-before.before ≡ c.args.lines = omega (arith, c.loop-before.auto.before-end, c.loop-before-test.false) in
    c.loop-before.invariant.0 ∙ ap (script_of c.args.number) whole
