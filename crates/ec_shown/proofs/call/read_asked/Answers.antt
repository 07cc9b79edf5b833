use Rattle.ec_words.specs.RowsLeft.{left}
use Rattle.ec_words.proofs.Misfits.{returned, choice_lacks, choice_has, choice_is}
use Rattle.ec_words.specs.Spelling.{IsVerb}
use Rattle.ec_shown.specs.Calls.{Asks, SpellsAsked}
use Rattle.ec_shown.proofs.Said.{an_asked}
use Rattle.ec_words.proofs.Named.{verb_once}
use Rattle.ec_shown.proofs.call.read_asked.Goals as goal

pub returns-in_err-verb : goal.returns-in_err-verb
returns-in_err-verb c =
    let ws = left c.args.words in
    returned (SpellsAsked) ws _ _ c.from_residual.ensures.1 (choice_lacks IsVerb Asks ws _ an_asked c.in_err-verb.ensures)

pub returns-in_err-asked : goal.returns-in_err-asked
returns-in_err-asked c =
    let ws = left c.args.words in
    let t = c.in_ok-verb.ensures in
    returned (SpellsAsked) ws _ _ c.from_residual-in_err-asked.ensures.1 (choice_has IsVerb Asks ws t.0 (left c.in_ok-verb.rest) c.in_ok-verb.verb _ (λ u p. verb_once t.0 u c.in_ok-verb.verb p t.1.1) t.1.0 t.1.1 c.in_err-asked.ensures)

pub returns : goal.returns
returns c =
    let t = c.in_ok-verb.ensures in
    choice_is IsVerb Asks (left c.args.words) t.0 (left c.in_ok-verb.rest) c.in_ok-verb.verb c.in_ok-asked.asked t.1.0 t.1.1 c.in_ok-asked.ensures
