use Rattle.ec_words.specs.Rows.{◌▸◌}
use Rattle.ec_words.specs.RowsLeft.{left}
use Rattle.ec_words.proofs.Misfits.{returned, row_lacks, row_has, begins_row}
use Rattle.ec_words.specs.Spelling.{IsClerk}
use Rattle.ec_words.specs.Examples.{a_clerk}
use Rattle.ec_shown.specs.Rows.{SpellsList}
use Rattle.std.specs.Prelude.{codes}
use Rattle.ec_shown.specs.Rows.{Marked}
use Rattle.ec_shown.proofs.Said.{lost_begins}
use Rattle.ec_shown.proofs.line.clerk_lost.Goals as goal

pub returns-in_err-letter : goal.returns-in_err-letter
returns-in_err-letter c =
    let ws = left c.args.words in
    returned (IsClerk ▸ Marked (codes "lost") SpellsList) ws _ _ c.from_residual.ensures.1 (row_lacks IsClerk (Marked (codes "lost") SpellsList) ws _ (begins_row IsClerk (Marked (codes "lost") SpellsList) a_clerk lost_begins) c.in_err-letter.ensures)

pub returns-in_err-ops : goal.returns-in_err-ops
returns-in_err-ops c =
    let ws = left c.args.words in
    let t = c.in_ok-letter.ensures in
    returned (IsClerk ▸ Marked (codes "lost") SpellsList) ws _ _ c.from_residual-in_err-ops.ensures.1 (row_has IsClerk (Marked (codes "lost") SpellsList) ws t.0 _ _ _ t.1.0 t.1.1 c.in_err-ops.ensures)
