use Rattle.std.proofs.Common.{sym}
use Rattle.ec_world.specs.Worlds as worlds
use Rattle.ec_lease.proofs.world.LeaseWorld.open.Goals as goal

pub returns-clause-ok : goal.returns-clause-ok
returns-clause-ok g c =
    let w = worlds.view_of c.in-Ok.world in
    let ok = c.in-Ok.ensures.ok in (ok.0, w, ok.1, ok.2, sym (c.new.ensures w))
