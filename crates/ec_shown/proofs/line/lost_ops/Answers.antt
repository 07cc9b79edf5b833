use Rattle.ec_words.specs.RowsLeft.{left}
use Rattle.std.specs.Prelude.{codes}
use Rattle.ec_words.proofs.Misfits.{returned}
use Rattle.ec_shown.specs.Rows.{Marked}
use Rattle.ec_shown.proofs.Behind.{marked_lacks, marked_has, marked_is}
use Rattle.ec_shown.specs.Rows.{SpellsList}
use Rattle.ec_shown.proofs.Said.{lost_begins}
use Rattle.ec_shown.proofs.line.lost_ops.Goals as goal

pub returns-in_err-rest : goal.returns-in_err-rest
returns-in_err-rest c =
    let ws = left c.args.words in
    returned (Marked (codes "lost") SpellsList) ws _ _ c.from_residual.ensures.1 (marked_lacks (codes "lost") SpellsList ws _ lost_begins c.in_err-rest.ensures)

pub returns-in_err-ops : goal.returns-in_err-ops
returns-in_err-ops c =
    let ws = left c.args.words in
    returned (Marked (codes "lost") SpellsList) ws _ _ c.from_residual-in_err-ops.ensures.1 (marked_has (codes "lost") SpellsList ws _ _ c.in_ok-rest.ensures c.in_err-ops.ensures)

pub returns : goal.returns
returns c = marked_is (codes "lost") SpellsList (left c.args.words) _ _ c.in_ok-rest.ensures c.in_ok-ops.ensures
