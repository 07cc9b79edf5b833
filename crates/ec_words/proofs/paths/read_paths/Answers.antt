use Rattle.std.proofs.Common.{◌-◌, ◌∷◌, ◌++◌, [], sym, ap, ◌∙◌}
use Rattle.ec_volume.specs.Limits.{max_ordered}
use Rattle.ec_words.specs.Rows.{◌▸◌, UpTo}
use Rattle.ec_words.specs.RowsLeft.{IsMisfit, left}
use Rattle.ec_words.specs.Spelling.{IsPathText}
use Rattle.ec_words.specs.Examples.{a_path}
use Rattle.ec_words.proofs.Misfits.{failed, row_lacks, row_has, row_is, begins_row, begins_up_to}
use Rattle.ec_words.proofs.paths.read_paths.Goals as goal

pub returns-in_err-path : goal.returns-in_err-path
returns-in_err-path c =
    let ws = left c.args.words in
    let G = UpTo IsPathText (max_ordered - 1) in
    failed _ (IsMisfit (IsPathText ▸ G) ws) _ _ c.from_residual.ensures.1 (row_lacks IsPathText G ws _ (begins_row IsPathText G a_path (begins_up_to IsPathText (max_ordered - 1))) c.in_err-path.ensures)

pub returns-in_err-more_paths : goal.returns-in_err-more_paths
returns-in_err-more_paths c =
    let ws = left c.args.words in
    let G = UpTo IsPathText (max_ordered - 1) in
    let taken = c.in_ok-path.ensures in
    failed _ (IsMisfit (IsPathText ▸ G) ws) _ _ c.from_residual-in_err-more_paths.ensures.1 (row_has IsPathText G ws taken.0 (left c.in_ok-path.rest) c.in_ok-path.path _ taken.1.0 taken.1.1 c.in_err-more_paths.ensures)

pub returns : goal.returns
returns c =
    let G = UpTo IsPathText (max_ordered - 1) in
    let taken = c.in_ok-path.ensures in
    let more = c.in_ok-more_paths.ensures in
    ((c.in_ok-path.path, more.0), (row_is IsPathText G (left c.args.words) taken.0 (left c.in_ok-path.rest) c.in_ok-path.path more.0 taken.1.0 taken.1.1 more.1.1, sym (c.of.ensures ∙ more.1.0 ∙ ap (λ xs. xs ++ more.0) (c.in_ok-push.ensures.items ∙ ap (λ xs. xs ++ c.in_ok-path.path ∷ []) c.new-paths.ensures.items))))
