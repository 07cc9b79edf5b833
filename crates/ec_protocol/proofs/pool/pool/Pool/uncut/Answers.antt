use Rattle.ec_protocol.proofs.OfPool.Laws.{uncut_is}
use Rattle.ec_protocol.proofs.pool.pool.Pool.uncut.Goals as goal

pub returns : goal.returns
returns c =
    let p = c.self.inside in
    uncut_is p.sent p.counts.items p.kept.entries p.pending p.cut.items c.args.self.now c.self.view_is c.args.clerk c.mend.new.clerks.items c.requires c.mend.ensures
