use Rattle.std.proofs.Common.{sym, ap, ◌∙◌, is_some, vec_capacity}
use Rattle.ec_base.specs.Tables.{at}
use Rattle.ec_protocol.proofs.OfPool.Laws.{settled_is, settled_on, unsettled_holds, none_of, pushed}
use Rattle.ec_protocol.proofs.pool.pool.Pool.settle.Goals as goal

pub invariant_of-self : goal.invariant_of-self
invariant_of-self c =
    let p = c.self.inside in
    settled_on p.sent p.counts.items p.kept.entries p.pending p.cut.items p.settled.items p.forgotten_at (vec_capacity p.settled) c.self.invariant c.args.number c.remove.new.self c.push.new.self.items (vec_capacity c.push.new.self)
    (ap is_some (sym c.remove.ensures.value) ∙ sym c.is_some.ensures ∙ c.if-is_some.true) c.remove.ensures.others (pushed c.push.result c.unwrap.result c.push.new.self.items p.settled.items c.args.number c.unwrap.ensures c.push.ensures.items) c.push.ensures.capacity

pub invariant_of-self-else-is_some : goal.invariant_of-self-else-is_some
invariant_of-self-else-is_some c =
    let p = c.self.inside in
    unsettled_holds p.sent p.counts.items p.kept.entries p.pending p.cut.items p.settled.items p.forgotten_at (vec_capacity p.settled) c.self.invariant c.args.number c.remove.new.self
    (none_of (at c.args.number p.pending) (ap is_some (sym c.remove.ensures.value) ∙ sym c.is_some.ensures ∙ c.if-is_some.false)) c.remove.ensures.others

pub returns-then-is_some : goal.returns-then-is_some
returns-then-is_some c =
    let p = c.self.inside in
    settled_is p.sent p.counts.items p.kept.entries p.pending p.cut.items c.args.self.now c.self.view_is c.args.number c.remove.new.self c.remove.ensures.others

pub returns-else-is_some : goal.returns-else-is_some
returns-else-is_some c =
    let p = c.self.inside in
    settled_is p.sent p.counts.items p.kept.entries p.pending p.cut.items c.args.self.now c.self.view_is c.args.number c.remove.new.self c.remove.ensures.others
