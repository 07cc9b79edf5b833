use Rattle.ec_words.specs.Rows.{◌▸◌}
use Rattle.ec_words.specs.RowsLeft.{left}
use Rattle.ec_words.proofs.Misfits.{returned, row_lacks, row_has, begins_row}
use Rattle.ec_words.specs.Spelling.{IsClerk}
use Rattle.ec_words.specs.Examples.{a_clerk}
use Rattle.ec_shown.specs.Rows.{SpellsList}
use Rattle.ec_shown.proofs.Rising.{begins_list}
use Rattle.ec_shown.proofs.line.clerk_ops.Goals as goal

pub returns-in_err-letter : goal.returns-in_err-letter
returns-in_err-letter c =
    let ws = left c.args.words in
    returned (IsClerk ▸ SpellsList) ws _ _ c.from_residual.ensures.1 (row_lacks IsClerk SpellsList ws _ (begins_row IsClerk SpellsList a_clerk begins_list) c.in_err-letter.ensures)

pub returns-in_err-ops : goal.returns-in_err-ops
returns-in_err-ops c =
    let ws = left c.args.words in
    let t = c.in_ok-letter.ensures in
    returned (IsClerk ▸ SpellsList) ws _ _ c.from_residual-in_err-ops.ensures.1 (row_has IsClerk SpellsList ws t.0 _ _ _ t.1.0 t.1.1 c.in_err-ops.ensures)
