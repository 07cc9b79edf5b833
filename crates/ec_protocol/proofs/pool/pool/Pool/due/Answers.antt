use Rattle.std.proofs.Common.{subst, ◌∙◌, is_some, IsTrue, IfSome}
use Rattle.ec_base.specs.Tables.{Table, at}
use Rattle.ec_volume.specs.Update.{member}
use Rattle.ec_protocol.specs.OfPool.Pools.{Pooled}
use Rattle.ec_protocol.specs.declared.pool.links.Link.{Link}
use Rattle.ec_protocol.proofs.OfPool.Laws.{due_of, key_found, if_some, are_kept}
use Rattle.ec_protocol.proofs.OfPool.Lists.{member_keys}
use Rattle.ec_protocol.proofs.pool.pool.Pool.due.Goals as goal

pub returns-clause-number : goal.returns-clause-number
returns-clause-number c =
    let p = c.self.inside in
    due_of p.sent p.counts.items p.kept.entries p.pending p.cut.items c.args.self.now c.self.view_is c.args.server_is_running c.first_due.result c.deref.result.now c.items.result.now
    c.items.ensures.value c.deref.ensures.value c.first_due.ensures c.self.invariant.linked

pub returns-clause-kept : goal.returns-clause-kept
returns-clause-kept c =
    subst (λ (p : Pooled). IfSome c.first_due.result (λ n. IsTrue (is_some (at n p.pool)))) c.self.view_is
    (if_some c.first_due.result (are_kept c.self.inside.kept.entries c.self.inside.pending c.self.invariant.linked)
    (subst (λ (qs : Table Link). IfSome c.first_due.result (λ n. IsTrue (is_some (at n qs)))) c.items.ensures.value (key_found c.first_due.result _ c.items.result.now c.first_due.ensures)))

pub returns-clause-pending : goal.returns-clause-pending
returns-clause-pending c =
    subst (λ (p : Pooled). IfSome c.first_due.result (λ n. IsTrue (member n p.pending))) c.self.view_is
    (if_some c.first_due.result (λ n h. member_keys n c.self.inside.pending ∙ h)
    (subst (λ (qs : Table Link). IfSome c.first_due.result (λ n. IsTrue (is_some (at n qs)))) c.items.ensures.value (key_found c.first_due.result _ c.items.result.now c.first_due.ensures)))
