use Rattle.ec_words.proofs.Named.{no_verb}
use Rattle.ec_words.proofs.name.verb_of.Goals as goal

pub returns-else-is_word-16 : goal.returns-else-is_word-16
returns-else-is_word-16 c = no_verb c.args.word.now c.if-is_word.ensures c.if-is_word-2.ensures c.if-is_word-3.ensures c.if-is_word-4.ensures c.if-is_word-5.ensures c.if-is_word-6.ensures c.if-is_word-7.ensures c.if-is_word-8.ensures c.if-is_word-9.ensures c.if-is_word-10.ensures c.if-is_word-11.ensures c.if-is_word-12.ensures c.if-is_word-13.ensures c.if-is_word-14.ensures c.if-is_word-15.ensures c.if-is_word-16.ensures
