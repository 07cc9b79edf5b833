use Rattle.ec_protocol.proofs.OfPool.Goings.{due_but_of}
use Rattle.ec_protocol.proofs.pool.pool.Pool.due_but.Goals as goal

pub returns : goal.returns
returns c =
    let p = c.self.inside in
    due_but_of p.sent p.counts.items p.kept.entries p.pending p.cut.items c.args.self.now c.self.view_is c.args.server_is_running c.args.held.now c.first_due_but.result c.deref.result.now c.items.result.now
    c.items.ensures.value c.deref.ensures.value c.first_due_but.ensures c.self.invariant.linked
