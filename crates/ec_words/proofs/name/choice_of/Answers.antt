use Rattle.ec_words.proofs.Named.{no_choice}
use Rattle.ec_words.proofs.name.choice_of.Goals as goal

pub returns-else-is_word-3 : goal.returns-else-is_word-3
returns-else-is_word-3 c = no_choice c.args.word.now c.if-is_word.ensures c.if-is_word-2.ensures c.if-is_word-3.ensures
