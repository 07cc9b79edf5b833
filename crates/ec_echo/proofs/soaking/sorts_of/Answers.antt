use Rattle.std.proofs.Common.{refl, sym, subst, ◌∙◌, []}
use Rattle.ec_echo.specs.Soak.{AreSorts}
use Rattle.ec_echo.proofs.Soaks.{line_sorted, all_sorted, no_bytes}
use Rattle.ec_echo.proofs.soaking.sorts_of.Goals as goal

pub lines-init : goal.lines-init
lines-init c = ([], refl, subst (AreSorts []) (sym c.new-sorts.ensures.items) tt)

pub lines-preserved : goal.lines-preserved
lines-preserved c =
    let done = c.lines.invariant in
    line_sorted c.args.transcript.now done.0 c.lines.ahead.now c.split_line.result.1.now c.split_line.result.0.now c.lines.sorts.items c.push.new.self.items c.in_ok-sort_in.field-0
    done.1 done.2 c.split_line.ensures.lines c.in_ok-sort_in.ensures c.in_ok-push.ensures.items

pub returns : goal.returns
returns c =
    let done = c.lines.invariant in
    all_sorted c.args.transcript.now c.lines.ahead.now done.0 c.lines.sorts.items done.1 (no_bytes c.lines.ahead.now (sym c.is_empty.ensures ∙ c.lines-test.false)) done.2
