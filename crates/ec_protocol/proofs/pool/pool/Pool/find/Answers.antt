use Rattle.std.proofs.Common.{ap, subst, is_some, IsTrue, IfSome}
use Rattle.ec_base.specs.Tables.{at}
use Rattle.ec_protocol.specs.OfPool.Pools.{Pooled}
use Rattle.ec_protocol.proofs.OfPool.Laws.{find_is, key_found}
use Rattle.ec_protocol.proofs.pool.pool.Pool.find.Goals as goal

pub returns-clause-number : goal.returns-clause-number
returns-clause-number c = λ w.
    find_is w c.args.self.now c.self.inside.kept.entries c.args.clerk c.args.kind c.args.nth c.from.result c.first_of.result (ap (λ (p : Pooled). p.pool) c.self.view_is) c.from.ensures c.first_of.ensures

pub returns-clause-kept : goal.returns-clause-kept
returns-clause-kept c =
    subst (λ (p : Pooled). IfSome c.first_of.result (λ n. IsTrue (is_some (at n p.pool)))) c.self.view_is
    (key_found c.first_of.result _ c.self.inside.kept.entries c.first_of.ensures)
