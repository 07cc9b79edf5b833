use Rattle.std.proofs.Common.{sym, ◌∙◌}
use Rattle.ec_words.specs.RowsLeft.{left}
use Rattle.ec_script.proofs.Lasts.{last_none, last_one, last_more}
use Rattle.ec_script.proofs.place.last_len.Goals as goal

pub returns-in_default : goal.returns-in_default
returns-in_default c = last_none (left c.words.rest) c.in_default.ensures ∙ sym c.words.invariant

pub returns-then-is_empty : goal.returns-then-is_empty
returns-then-is_empty c = last_one (left c.words.rest) c.in-Some.word.now (left c.in-Some.behind) c.in-Some.ensures c.if-is_empty.ensures ∙ sym c.words.invariant

pub words-preserved : goal.words-preserved
words-preserved c = c.words.invariant ∙ last_more (left c.words.rest) c.in-Some.word.now (left c.in-Some.behind) c.in-Some.ensures c.if-is_empty.ensures
