use Rattle.std.proofs.Common.{sym, ap, subst, ◌∙◌, is_some, IsTrue}
use Rattle.ec_base.specs.Tables.{at}
use Rattle.ec_volume.specs.Update.{member}
use Rattle.ec_protocol.specs.OfPool.Pools.{Pooled}
use Rattle.ec_protocol.proofs.OfPool.Laws.{are_kept}
use Rattle.ec_protocol.proofs.OfPool.Lists.{member_keys}
use Rattle.ec_protocol.proofs.pool.pool.Pool.is_pending.Goals as goal

pub returns-clause-value : goal.returns-clause-value
returns-clause-value c = λ w. ap (λ (p : Pooled). member c.args.number p.pending) (sym c.self.view_is) ∙ member_keys c.args.number c.self.inside.pending ∙ sym c.contains.ensures

pub returns-clause-kept : goal.returns-clause-kept
returns-clause-kept c = λ h.
    subst (λ (p : Pooled). IsTrue (is_some (at c.args.number p.pool))) c.self.view_is
    (are_kept c.self.inside.kept.entries c.self.inside.pending c.self.invariant.linked c.args.number (sym c.contains.ensures ∙ h))
