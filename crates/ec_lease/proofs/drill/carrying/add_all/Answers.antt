use Rattle.std.proofs.Common.{◌++◌, sym, ap, ◌∙◌}
use Rattle.std.proofs.lemmas.List.{map-id}
use Rattle.std.proofs.lemmas.Iterator.Adapters.{YieldsList-from_vec}
use Rattle.std.proofs.lemmas.Iterator.Consumers.{YieldsList-end}
use Rattle.ec_lease.proofs.drill.carrying.add_all.Goals as goal

pub returns-clause-ok : goal.returns-clause-ok
returns-clause-ok c =
    let lines = c.args.lines in
    let gives = c.into_iter-line-iterator.ensures.into_iter_gives in
    let all = YieldsList-end (YieldsList-from_vec lines.items gives.0 (gives.1 ∙ lines.ok.0)) c.adding.yielded c.adding.line-iterator c.adding.yielded_by c.next.result c.next.new.self c.in-None.is c.next.ensures.steps in
    c.adding.invariant ∙ ap (λ l. c.args.piece.now.items ++ l) (sym (map-id c.adding.yielded) ∙ all.0)
