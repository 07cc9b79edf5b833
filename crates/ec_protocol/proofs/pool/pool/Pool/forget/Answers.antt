use Rattle.std.proofs.Common.{vec_capacity}
use Rattle.ec_protocol.proofs.OfPool.Laws.{forgot_on, forgot_is}
use Rattle.ec_protocol.proofs.pool.pool.Pool.forget.Goals as goal

pub invariant_of-self : goal.invariant_of-self
invariant_of-self c =
    let p = c.self.inside in
    forgot_on p.sent p.counts.items p.kept.entries p.pending p.cut.items p.settled.items p.forgotten_at (vec_capacity p.settled) c.self.invariant
    c.forget_settled.new.kept.entries c.forget_passed.new.kept.entries c.deref.result.now c.deref.ensures.value c.forget_settled.ensures.forgets c.forget_passed.ensures.forgets
    c.forget_settled.ensures.all c.forget_passed.ensures.all c.clear.new.self.items (vec_capacity c.clear.new.self) c.clear.ensures.items c.clear.ensures.capacity

pub returns : goal.returns
returns c =
    let p = c.self.inside in
    forgot_is p.sent p.counts.items p.kept.entries p.pending p.cut.items p.settled.items p.forgotten_at (vec_capacity p.settled) c.self.invariant
    c.forget_settled.new.kept.entries c.forget_passed.new.kept.entries c.deref.result.now c.deref.ensures.value c.forget_settled.ensures.forgets c.forget_passed.ensures.forgets
    c.forget_settled.ensures.all c.forget_passed.ensures.all c.args.self.now c.self.view_is
