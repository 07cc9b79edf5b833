use Rattle.std.proofs.Common.{◌-◌, ◌∷◌, ◌++◌, [], sym, ap, ◌∙◌}
use Rattle.ec_volume.specs.Limits.{max_ordered}
use Rattle.ec_words.specs.Rows.{◌▸◌}
use Rattle.ec_words.specs.RowsLeft.{IsMisfit, left}
use Rattle.ec_words.proofs.Misfits.{failed, row_lacks, row_has, row_is, begins_row}
use Rattle.ec_shown.specs.Spelling.{IsPathShown}
use Rattle.ec_shown.specs.Examples.{a_path}
use Rattle.ec_shown.specs.Calls.{Paths}
use Rattle.ec_shown.proofs.Said.{no_paths}
use Rattle.ec_shown.proofs.call.read_paths.Goals as goal

pub returns-in_err-path : goal.returns-in_err-path
returns-in_err-path c =
    let ws = left c.args.words in
    let G = Paths (max_ordered - 1) in
    failed _ (IsMisfit (IsPathShown ▸ G) ws) _ _ c.from_residual.ensures.1 (row_lacks IsPathShown G ws _ (begins_row IsPathShown G a_path (no_paths (max_ordered - 1))) c.in_err-path.ensures)

pub returns-in_err-outcome : goal.returns-in_err-outcome
returns-in_err-outcome c =
    let ws = left c.args.words in
    let G = Paths (max_ordered - 1) in
    let t = c.in_ok-path.ensures in
    failed _ (IsMisfit (IsPathShown ▸ G) ws) _ _ c.from_residual-in_err-outcome.ensures.1 (row_has IsPathShown G ws t.0 (left c.in_ok-path.rest) c.in_ok-path.path _ t.1.0 t.1.1 c.in_err-outcome.ensures)

pub returns : goal.returns
returns c =
    let G = Paths (max_ordered - 1) in
    let t = c.in_ok-path.ensures in
    let more = c.in_ok-outcome.ensures in
    ((c.in_ok-path.path, (more.0, c.in_ok-outcome.outcome)), (row_is IsPathShown G (left c.args.words) t.0 (left c.in_ok-path.rest) c.in_ok-path.path (more.0, c.in_ok-outcome.outcome) t.1.0 t.1.1 more.1.1, ap (λ ps. (ps, c.in_ok-outcome.outcome)) (sym (c.of.ensures ∙ more.1.0 ∙ ap (λ xs. xs ++ more.0) (c.in_ok-push.ensures.items ∙ ap (λ xs. xs ++ c.path.inside.0 ∷ []) c.new-paths.ensures.items ∙ ap (λ p. p ∷ []) c.path.view_is)))))
