use Rattle.std.proofs.Common.{◌-◌, ◌∷◌, ◌++◌, [], subst, ap, ◌∙◌, arith, append_assoc}
use Rattle.ec_words.specs.RowsLeft.{IsMisfit, left}
use Rattle.ec_words.proofs.Misfits.{failed}
use Rattle.ec_shown.specs.Calls.{Paths}
use Rattle.ec_shown.proofs.Ordered.{FoundPath, paths_missing, paths_end, paths_over, paths_other, paths_has, paths_is}
use Rattle.ec_shown.proofs.call.+more_paths.Goals as goal

pub returns-in_default : goal.returns-in_default
returns-in_default t c = paths_missing c.args.most (left c.args.words) c.in_default.ensures

pub returns-in_err-outcome : goal.returns-in_err-outcome
returns-in_err-outcome t c =
    let ws = left c.args.words in
    let most = c.args.most in
    failed _ (IsMisfit (Paths most) ws) _ _ c.from_residual.ensures.1 (paths_end most ws c.in-Some.word.now (left c.in-Some.rest) _ c.in-Some.ensures c.if-is_word.ensures c.in_err-outcome.ensures)

pub returns-then-most-eq0 : goal.returns-then-most-eq0
returns-then-most-eq0 t c =
    let ws = left c.args.words in
    let most = c.args.most in
    paths_over most c.len.result ws c.in-Some.word.now (left c.in-Some.rest) (omega arith) c.in-Some.ensures c.if-is_word.ensures c.len.ensures

pub returns-in_default-2 : goal.returns-in_default-2
returns-in_default-2 t c =
    let ws = left c.args.words in
    let most = c.args.most in
    paths_other most c.len-in_default-2.result ws c.in-Some.word.now (left c.in-Some.rest) c.in-Some.ensures c.if-is_word.ensures (subst (FoundPath c.in-Some.word.now) c.in_default-2.is c.in_ok-path.ensures) c.len-in_default-2.ensures

pub returns-in_err-outcome-2 : goal.returns-in_err-outcome-2
returns-in_err-outcome-2 t c =
    let ws = left c.args.words in
    let most = c.args.most in
    failed _ (IsMisfit (Paths most) ws) _ _ c.from_residual-in_err-outcome-2.ensures.1 (paths_has most (most - 1) ws c.in-Some.word.now (left c.in-Some.rest) c.in-Some-2.path _ (omega arith) c.in-Some.ensures c.if-is_word.ensures (subst (FoundPath c.in-Some.word.now) c.in-Some-2.is c.in_ok-path.ensures) c.in_err-outcome-2.ensures)

pub returns : goal.returns
returns t c =
    let ws = left c.args.words in
    let most = c.args.most in
    let more = c.in_ok-outcome-2.ensures in
    (c.in-Some-2.path ∷ more.0, (more.1.0 ∙ ap (λ xs. xs ++ more.0) (c.in_ok-push.ensures.items ∙ ap (λ p. c.args.paths.now.items ++ p ∷ []) c.path.view_is) ∙ append_assoc c.args.paths.now.items (c.in-Some-2.path ∷ []) more.0, paths_is most (most - 1) ws c.in-Some.word.now (left c.in-Some.rest) c.in-Some-2.path more.0 c.in_ok-outcome-2.outcome (omega arith) c.in-Some.ensures (subst (FoundPath c.in-Some.word.now) c.in-Some-2.is c.in_ok-path.ensures) more.1.1))
