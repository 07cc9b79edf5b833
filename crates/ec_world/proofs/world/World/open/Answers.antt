use Rattle.std.proofs.Common.{}
use Rattle.ec_store.specs.Store.{view_of}
use Rattle.ec_world.proofs.FirstSteps.{opens_ok, unopened_unread, unopened_in}
use Rattle.ec_world.proofs.Reaching.{opened}
use Rattle.ec_world.proofs.Unread.{counted_two}
use Rattle.ec_world.proofs.world.World.open.Goals as goal

pub returns-in-Err-clause-err : goal.returns-in-Err-clause-err
returns-in-Err-clause-err g c = unopened_unread c.in-Err.fault g.D.Disk.tells (g.D.Disk.view c.args.disk.now).gives (g.D.Disk.view c.store_on.new.disk).gives (g.D.Disk.view c.store_on.new.disk).may_leave c.args.max_objects c.in-Err.ensures.err

pub returns-clause-ok : goal.returns-clause-ok
returns-clause-ok g c = opens_ok c.world_on.result g.D.Disk.tells (g.D.Disk.view c.args.disk.now).gives c.args.max_objects (view_of c.in-Ok.store) c.in-Ok.ensures.opens c.world_on.ensures.ok

pub returns-clause-reached : goal.returns-clause-reached
returns-clause-reached g c = opened c.world_on.result g.D.Disk.tells (g.D.Disk.view c.args.disk.now).gives c.args.max_objects (returns-clause-ok g c)

pub returns-clause-err : goal.returns-clause-err
returns-clause-err g c = unopened_in c.world_on.result g.D.Disk.tells (g.D.Disk.view c.args.disk.now).gives (g.D.Disk.view c.world_on.new.disk).gives (g.D.Disk.view c.world_on.new.disk).may_leave c.args.max_objects (view_of c.in-Ok.store) c.in-Ok.ensures.opens c.world_on.ensures.err

pub returns-clause-counts : goal.returns-clause-counts
returns-clause-counts g c = counted_two _ _ _ _ _ _ _ c.store_on.ensures.counts c.world_on.ensures.counts
