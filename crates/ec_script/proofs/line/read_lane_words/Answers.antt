use Rattle.ec_words.specs.RowsLeft.{left}
use Rattle.ec_words.specs.Spelling.{IsLane}
use Rattle.ec_words.specs.Examples.{a_lane}
use Rattle.ec_words.specs.SomeCall.{a_call}
use Rattle.ec_words.specs.Calls.{SpellsCall}
use Rattle.ec_script.specs.Grammar.{SpellsLane}
use Rattle.ec_words.proofs.Misfits.{returned, row_lacks, row_has, begins_row}
use Rattle.ec_script.proofs.line.read_lane_words.Goals as goal

pub returns-in_err-lane : goal.returns-in_err-lane
returns-in_err-lane c =
    let ws = left c.args.words in
    returned SpellsLane ws _ _ c.from_residual.ensures.1 (row_lacks IsLane SpellsCall ws _ (begins_row IsLane SpellsCall a_lane a_call) c.in_err-lane.ensures)

pub returns-in_err-call : goal.returns-in_err-call
returns-in_err-call c =
    let ws = left c.args.words in
    let t = c.in_ok-lane.ensures in
    returned SpellsLane ws _ _ c.from_residual-in_err-call.ensures.1 (row_has IsLane SpellsCall ws t.0 (left c.in_ok-lane.rest) _ _ t.1.0 t.1.1 c.in_err-call.ensures)
