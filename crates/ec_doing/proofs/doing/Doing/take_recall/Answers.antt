use Rattle.std.proofs.lemmas.Bool.{le-ltb}
use Rattle.ec_doing.proofs.Steps.{on_ok, recall_taken}
use Rattle.ec_doing.proofs.doing.Doing.take_recall.Goals as goal

pub returns : goal.returns
returns c = on_ok c.keep_recall.result (λ p ws. recall_taken ws c.args.self.now c.args.obj c.args.number c.args.to c.mark_recall.new.cache _ (le-ltb c.args.number _ (rw c.last.ensures at c.if-number-last.false)) c.mark_recall.ensures (p ws)) c.keep_recall.ensures
