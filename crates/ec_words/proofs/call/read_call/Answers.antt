use Rattle.ec_words.specs.RowsLeft.{left}
use Rattle.ec_words.specs.Spelling.{IsVerb}
use Rattle.ec_words.specs.SomeCall.{a_call}
use Rattle.ec_words.specs.Calls.{Asks, SpellsCall}
use Rattle.ec_words.proofs.Misfits.{returned, choice_lacks, choice_has, choice_is}
use Rattle.ec_words.proofs.Named.{verb_once}
use Rattle.ec_words.proofs.call.read_call.Goals as goal

pub returns-in_err-verb : goal.returns-in_err-verb
returns-in_err-verb c =
    let ws = left c.args.words in
    returned SpellsCall ws _ _ c.from_residual.ensures.1 (choice_lacks IsVerb Asks ws _ a_call c.in_err-verb.ensures)

pub returns-in_err-call : goal.returns-in_err-call
returns-in_err-call c =
    let ws = left c.args.words in
    let t = c.in_ok-verb.ensures in
    returned SpellsCall ws _ _ c.from_residual-in_err-call.ensures.1 (choice_has IsVerb Asks ws t.0 (left c.in_ok-verb.rest) c.in_ok-verb.verb _ (λ u p. verb_once t.0 u c.in_ok-verb.verb p t.1.1) t.1.0 t.1.1 c.in_err-call.ensures)

pub returns : goal.returns
returns c =
    let t = c.in_ok-verb.ensures in
    choice_is IsVerb Asks (left c.args.words) t.0 (left c.in_ok-verb.rest) c.in_ok-verb.verb c.in_ok-call.call t.1.0 t.1.1 c.in_ok-call.ensures
