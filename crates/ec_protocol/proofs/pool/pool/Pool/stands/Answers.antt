use Rattle.std.proofs.Common.{subst, vec_capacity}
use Rattle.ec_protocol.specs.OfPool.Pools.{Stands}
use Rattle.ec_protocol.proofs.OfPool.Laws.{stands}
use Rattle.ec_protocol.proofs.pool.pool.Pool.stands.Goals as goal

pub returns : goal.returns
returns c =
    let p = c.self.inside in
    subst Stands c.self.view_is (stands p.sent p.counts.items p.kept.entries p.pending p.settled.items p.cut.items p.forgotten_at (vec_capacity p.settled) c.self.invariant c.items.ensures.sorted)
