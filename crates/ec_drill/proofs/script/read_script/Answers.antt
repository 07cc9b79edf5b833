use Rattle.std.proofs.Common.{refl, sym, subst, ◌∙◌, List, [], map}
use Rattle.ec_drill.specs.Lines.{read_of}
use Rattle.ec_drill.specs.Script.{AreRead}
use Rattle.ec_drill.specs.declared.script.ScriptLine.{ScriptLine}
use Rattle.ec_drill.proofs.Lines.{line_read, all_read}
use Rattle.ec_drill.proofs.script.read_script.Goals as goal
use Rattle.ec_base.proofs.Lists.{none_left}

pub lines-init : goal.lines-init
lines-init c = ([], refl, subst (λ (ls : List ScriptLine). AreRead [] (map read_of ls)) (sym c.new-lines.ensures.items) tt)

pub lines-preserved : goal.lines-preserved
lines-preserved c =
    let done = c.lines.invariant in
    line_read c.args.script.now done.0 c.lines.ahead.now c.split_line.result.1.now c.split_line.result.0.now c.lines.lines.items c.push.new.self.items c.in_ok-read.field-0
    done.1 done.2 c.split_line.ensures.lines c.in_ok-read.ensures c.in_ok-push.ensures.items

pub returns : goal.returns
returns c =
    let done = c.lines.invariant in
    all_read c.args.script.now c.lines.ahead.now done.0 c.lines.lines.items done.1 (none_left c.lines.ahead.now (sym c.lines-test.false ∙ c.is_empty.ensures)) done.2
