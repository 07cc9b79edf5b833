use Rattle.std.proofs.Common.{◌≡◌, ◌++◌, [], sym, ap, subst, inl, ◌∙◌, arith, length, append-nil}
use Rattle.ec_legal.specs.Ahead.{placed_from}
use Rattle.ec_legal.proofs.Judged.{placed-end}
use Rattle.ec_legal.proofs.history.place_all.Goals as goal

pub returns : goal.returns
returns c =
    let ss = c.args.lines.now.shown.now in
    let old = c.args.entries.now.items in
    let new = c.place_lines.new.entries.items in
    let none = append-nil ss in
    let given = subst (λ ts. old ++ placed_from ts 0 ≡ new ++ placed_from ts (length ss)) none (c.in_ok-place_lines.ensures.entries [] (inl (ap length (sym none)))) in
    sym (append-nil new) ∙ ap (λ h. new ++ h) (sym (placed-end ss (length ss) (omega arith))) ∙ sym given
