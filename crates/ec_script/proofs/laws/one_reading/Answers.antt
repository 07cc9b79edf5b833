use Rattle.ec_words.proofs.Splits.{column_within}
use Rattle.ec_script.specs.Grammar.{Spells}
use Rattle.ec_script.proofs.LinedOnce.{line_once, lane_once, outside_once}
use Rattle.ec_script.proofs.laws.one_reading.Goals as goal

pub returns-clause-line_once : goal.returns-clause-line_once
returns-clause-line_once c = line_once

pub returns-clause-lane_once : goal.returns-clause-lane_once
returns-clause-lane_once c = lane_once

pub returns-clause-column_once : goal.returns-clause-column_once
returns-clause-column_once c = λ bytes i j g h. outside_once Spells bytes i j g.1 h.1

pub returns-clause-within : goal.returns-clause-within
returns-clause-within c = column_within
