use Rattle.ec_words.specs.Rows.{◌▸◌}
use Rattle.ec_words.specs.RowsLeft.{left}
use Rattle.ec_words.proofs.Misfits.{returned, row_lacks, row_has, begins_row}
use Rattle.ec_shown.specs.Answers.{SpellsOutcome}
use Rattle.ec_shown.proofs.Said.{an_outcome}
use Rattle.ec_shown.proofs.call.three_more.Goals as goal

pub returns-in_err-value : goal.returns-in_err-value
returns-in_err-value g c =
    let P = g.T.Spelled.stands in
    let G = g.U.Spelled.stands ▸ g.V.Spelled.stands ▸ SpellsOutcome in
    let ws = left c.args.words in
    returned (P ▸ G) ws _ _ c.from_residual.ensures.1 (row_lacks P G ws _ (begins_row P G g.T.Spelled.example (begins_row g.U.Spelled.stands (g.V.Spelled.stands ▸ SpellsOutcome) g.U.Spelled.example (begins_row g.V.Spelled.stands SpellsOutcome g.V.Spelled.example an_outcome))) c.in_err-value.ensures)

pub returns-in_err-others : goal.returns-in_err-others
returns-in_err-others g c =
    let P = g.T.Spelled.stands in
    let G = g.U.Spelled.stands ▸ g.V.Spelled.stands ▸ SpellsOutcome in
    let ws = left c.args.words in
    let t = c.in_ok-value.ensures in
    returned (P ▸ G) ws _ _ c.from_residual-in_err-others.ensures.1 (row_has P G ws t.0 _ _ _ t.1.0 t.1.1 c.in_err-others.ensures)
