use Rattle.ec_words.proofs.Named.{no_keyword}
use Rattle.ec_words.proofs.name.keyword_of.Goals as goal

pub returns-else-is_word-12 : goal.returns-else-is_word-12
returns-else-is_word-12 c = no_keyword c.args.word.now c.if-is_word.ensures c.if-is_word-2.ensures c.if-is_word-3.ensures c.if-is_word-4.ensures c.if-is_word-5.ensures c.if-is_word-6.ensures c.if-is_word-7.ensures c.if-is_word-8.ensures c.if-is_word-9.ensures c.if-is_word-10.ensures c.if-is_word-11.ensures c.if-is_word-12.ensures
