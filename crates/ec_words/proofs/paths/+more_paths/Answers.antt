use Rattle.std.proofs.Common.{◌-◌, ◌∷◌, ◌++◌, [], sym, ap, ◌∙◌, arith, append_assoc}
use Rattle.std.proofs.lemmas.List.{append-nil}
use Rattle.ec_words.specs.Rows.{UpTo}
use Rattle.ec_words.specs.RowsLeft.{IsMisfit, left}
use Rattle.ec_words.specs.Spelling.{IsPathText}
use Rattle.ec_words.proofs.Misfits.{failed, up_to_none, up_to_lacks, up_to_has, up_to_is}
use Rattle.ec_words.proofs.paths.+more_paths.Goals as goal

pub returns-then-is_empty : goal.returns-then-is_empty
returns-then-is_empty t c = ([], (sym (append-nil c.args.paths.now.items), up_to_none IsPathText c.args.most (left c.args.words) c.if-is_empty.ensures))

pub returns-in_err-path : goal.returns-in_err-path
returns-in_err-path t c =
    let ws = left c.args.words in
    let most = c.args.most in
    failed _ (IsMisfit (UpTo IsPathText most) ws) _ _ c.from_residual.ensures.1 (up_to_lacks IsPathText most (most - 1) ws _ (omega arith) c.if-is_empty.ensures c.in_err-path.ensures)

pub returns-in_err-more_paths : goal.returns-in_err-more_paths
returns-in_err-more_paths t c =
    let ws = left c.args.words in
    let most = c.args.most in
    let taken = c.in_ok-path.ensures in
    failed _ (IsMisfit (UpTo IsPathText most) ws) _ _ c.from_residual-in_err-more_paths.ensures.1 (up_to_has IsPathText most (most - 1) ws taken.0 (left c.in_ok-path.rest) c.in_ok-path.path _ (omega arith) taken.1.0 taken.1.1 c.in_err-more_paths.ensures)

pub returns : goal.returns
returns t c =
    let most = c.args.most in
    let taken = c.in_ok-path.ensures in
    let more = c.in_ok-more_paths.ensures in
    (c.in_ok-path.path ∷ more.0, (more.1.0 ∙ ap (λ xs. xs ++ more.0) c.in_ok-push.ensures.items ∙ append_assoc c.args.paths.now.items (c.in_ok-path.path ∷ []) more.0, up_to_is IsPathText most (most - 1) (left c.args.words) taken.0 (left c.in_ok-path.rest) c.in_ok-path.path more.0 (omega arith) taken.1.0 taken.1.1 more.1.1))
