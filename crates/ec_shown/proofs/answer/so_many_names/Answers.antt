use Rattle.ec_words.specs.RowsLeft.{left}
use Rattle.std.proofs.Common.{◌-◌, ◌++◌, ◌∷◌, [], ◌∙◌, ap, arith}
use Rattle.ec_words.specs.RowsLeft.{IsMisfit}
use Rattle.ec_words.proofs.Misfits.{failed}
use Rattle.ec_shown.specs.Spelling.{IsNameText}
use Rattle.ec_shown.specs.Examples.{a_name}
use Rattle.ec_shown.specs.Rows.{Times}
use Rattle.ec_shown.proofs.Counted.{read_one, read_lacks, read_more, read_all}
use Rattle.ec_shown.proofs.answer.so_many_names.Goals as goal

pub returns-in_err-name : goal.returns-in_err-name
returns-in_err-name c =
    failed _ (IsMisfit (Times IsNameText c.args.count) (left c.args.words)) _ _ c.from_residual.ensures.1 (read_lacks IsNameText a_name c.args.count (left c.args.words) c.names.names.items c.names.missing (c.names.missing - 1) (left c.names.rest) _ c.names.invariant (omega arith) c.in_err-name.ensures)

pub names-preserved : goal.names-preserved
names-preserved c =
    let t = c.in_ok-name.ensures in
    read_one IsNameText c.args.count (left c.args.words) c.names.names.items c.names.missing (c.names.missing - 1) (left c.names.rest) t.0 (left c.in_ok-name.others) c.in_ok-name.name _ c.names.invariant (omega arith) t.1.0 t.1.1 (c.in_ok-push.ensures.items ∙ ap (λ p. c.names.names.items ++ p ∷ []) c.name.view_is)

pub returns-in_err-no_more : goal.returns-in_err-no_more
returns-in_err-no_more c =
    failed _ (IsMisfit (Times IsNameText c.args.count) (left c.args.words)) _ _ c.from_residual-in_err-no_more.ensures.1 (read_more IsNameText c.args.count (left c.args.words) c.names.names.items c.names.missing (left c.names.rest) _ c.names.invariant (omega arith) c.in_err-no_more.ensures)

pub returns : goal.returns
returns c = read_all IsNameText c.args.count (left c.args.words) c.names.names.items c.names.missing (left c.names.rest) c.names.invariant (omega arith) c.in_ok-no_more.ensures
