use Rattle.std.proofs.Common.{refl, sym, subst, ◌∙◌, List, [], map}
use Rattle.ec_base.proofs.Lists.{none_left}
use Rattle.ec_lease.specs.OfDrill.Lines.{read_of}
use Rattle.ec_lease.specs.OfDrill.Script.{AreRead}
use Rattle.ec_lease.specs.declared.drill.script.ScriptLine.{ScriptLine}
use Rattle.ec_lease.proofs.OfDrill.Lines.{read_all, read_one}
use Rattle.ec_lease.proofs.drill.script.read_script.Goals as goal

pub lines-init : goal.lines-init
lines-init c = ([], refl, subst (λ (ls : List ScriptLine). AreRead c.args.most [] (map read_of ls)) (sym c.new-lines.ensures.items) tt)

pub lines-preserved : goal.lines-preserved
lines-preserved c =
    let done = c.lines.invariant in
    read_one c.args.most c.args.script.now done.0 c.lines.ahead.now c.split_line.result.1.now c.split_line.result.0.now c.lines.lines.items c.push.new.self.items c.in_ok-read.field-0
    done.1 done.2 c.split_line.ensures.lines c.in_ok-read.ensures c.in_ok-push.ensures.items

pub returns : goal.returns
returns c =
    let done = c.lines.invariant in
    read_all c.args.most c.args.script.now c.lines.ahead.now done.0 c.lines.lines.items done.1 (none_left c.lines.ahead.now (sym c.lines-test.false ∙ c.is_empty.ensures)) done.2
