use Rattle.std.proofs.Common.{sym, ◌∙◌}
use Rattle.ec_base.specs.Tables.{at}
use Rattle.ec_protocol.proofs.OfPool.Laws.{forgets_one, none_of}
use Rattle.ec_protocol.proofs.pool.forget.let_go.Goals as goal

pub returns-then-not-contains-clause-forgets : goal.returns-then-not-contains-clause-forgets
returns-then-not-contains-clause-forgets c = λ sent passed.
    forgets_one c.args.number c.args.kept.now.entries c.remove.new.self.entries c.args.pending.now sent
    (none_of (at c.args.number c.args.pending.now) (sym c.contains.ensures ∙ c.if-not-contains.true)) passed
    c.remove.ensures.entries c.remove.ensures.updates.0 c.remove.ensures.ordered
