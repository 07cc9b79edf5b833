use Rattle.ec_history.proofs.OfLaws.ForPlacing.Late.{place-answer, place-ended}
use Rattle.ec_history.proofs.OfLaws.ForPlacing.Held.{place-late, place-other}
use Rattle.ec_history.proofs.laws.placing.each_line_is_placed.Goals as goal

pub returns-clause-answer : goal.returns-clause-answer
returns-clause-answer c = place-answer

pub returns-clause-late_answer : goal.returns-clause-late_answer
returns-clause-late_answer c = place-late

pub returns-clause-ended : goal.returns-clause-ended
returns-clause-ended c = place-ended

pub returns-clause-other : goal.returns-clause-other
returns-clause-other c = place-other
