use Rattle.ec_words.specs.RowsLeft.{left}
use Rattle.ec_words.specs.RowsLeft.{IsMisfit}
use Rattle.ec_words.proofs.Misfits.{failed}
use Rattle.ec_shown.specs.Rows.{Rises}
use Rattle.ec_shown.proofs.Rising.{read_one, read_all, rises_lacks}
use Rattle.ec_shown.proofs.list.risen.Goals as goal

pub returns-in_err-op : goal.returns-in_err-op
returns-in_err-op c =
    failed _ (IsMisfit (Rises c.args.first) (left c.args.words)) _ _ c.from_residual-in_err-op.ensures.1 (c.words.invariant.off _ (rises_lacks c.words.last (left c.words.rest) _ c.if-is_empty.ensures c.in_err-op.ensures))

pub words-preserved : goal.words-preserved
words-preserved c =
    let t = c.in_ok-op.ensures in
    read_one c.args.first (left c.args.words) c.words.ops.items c.words.last (left c.words.rest) t.0 (left c.in_ok-op.behind) c.in_ok-op.op _ c.words.invariant t.1.0 t.1.1 c.in_ok-push-2.ensures.items

pub returns-then-is_empty : goal.returns-then-is_empty
returns-then-is_empty c = read_all c.args.first (left c.args.words) c.words.ops.items c.words.last (left c.words.rest) c.words.invariant c.if-is_empty.ensures
