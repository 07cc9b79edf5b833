use Rattle.ec_words.specs.Words.{words_of}
use Rattle.ec_script.proofs.LinedOnce.{outside_once}
use Rattle.ec_shown.specs.Lines.{SpellsShown}
use Rattle.ec_shown.proofs.One.{shown_once}
use Rattle.ec_shown.proofs.Printed.{printed_so}
use Rattle.ec_shown.proofs.Back.{read_back}
use Rattle.ec_shown.proofs.Ranges.{in_ranges}
use Rattle.ec_shown.proofs.laws.one_reading.Goals as goal

pub returns-clause-value_once : goal.returns-clause-value_once
returns-clause-value_once c = λ bytes a b g h. shown_once (words_of bytes) a b g h

pub returns-clause-spelling_once : goal.returns-clause-spelling_once
returns-clause-spelling_once c = printed_so

pub returns-clause-column_once : goal.returns-clause-column_once
returns-clause-column_once c = outside_once SpellsShown

pub returns-clause-read_back : goal.returns-clause-read_back
returns-clause-read_back c = read_back

pub returns-clause-ranges : goal.returns-clause-ranges
returns-clause-ranges c = in_ranges
