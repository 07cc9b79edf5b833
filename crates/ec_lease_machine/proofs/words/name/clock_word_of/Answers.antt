use Rattle.ec_lease_machine.proofs.OfWords.Clocks.{no_clock}
use Rattle.ec_lease_machine.proofs.words.name.clock_word_of.Goals as goal

pub returns-else-is_word-4 : goal.returns-else-is_word-4
returns-else-is_word-4 c = no_clock c.args.word.now c.if-is_word.ensures c.if-is_word-2.ensures c.if-is_word-3.ensures c.if-is_word-4.ensures
