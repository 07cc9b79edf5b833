use Rattle.std.proofs.Common.{◌++◌, sym, ap, ◌∙◌}
use Rattle.std.specs.Prelude.{map}
use Rattle.std.proofs.lemmas.List.{map-id}
use Rattle.std.proofs.lemmas.Iterator.Adapters.{YieldsList-from_vec}
use Rattle.std.proofs.lemmas.Iterator.Consumers.{YieldsList-end}
use Rattle.ec_lease_machine.specs.declared.world.LeaseShown.TheVariants as show
use Rattle.ec_lease.proofs.world.LeaseWorld.show_all.Goals as goal

pub returns-clause-piece : goal.returns-clause-piece
returns-clause-piece c =
    let lines = c.args.lines in
    let gives = c.into_iter-line-iterator.ensures.into_iter_gives in
    let all = YieldsList-end (YieldsList-from_vec lines.items gives.0 (gives.1 ∙ lines.ok.0)) c.lines.yielded c.lines.line-iterator c.lines.yielded_by c.next.result c.next.new.self c.in-None.is c.next.ensures.steps in
    c.lines.invariant.0 ∙ ap (λ l. c.args.self.now.piece.items ++ map show.Line l) (sym (map-id c.lines.yielded) ∙ all.0)
