use Rattle.std.proofs.Common.{ap}
use Rattle.ec_store.specs.Store.{view_of as state_of}
use Rattle.ec_world.proofs.Arms.{arms_done, arms_stopped}
use Rattle.ec_world.proofs.Finish.{done_finishes, done_steps, done_left, stopped_finishes, stopped_left, failed_left, wants_left, on_ok, if_err}
use Rattle.ec_world.proofs.Starting.{err_is}
use Rattle.ec_world.proofs.world.World.finish.Goals as goal

pub returns-in_ok-go_on-in-Done-clause-ok : goal.returns-in_ok-go_on-in-Done-clause-ok
returns-in_ok-go_on-in-Done-clause-ok g c = λ done d s armed came at.
    done_finishes g.D.Disk.tells done d s armed c.args.self.now c.go_on.new.self (g.D.Disk.view c.args.disk.now) c.args.came c.in-Done.served c.in-Done.mark c.in-Done.is c.requires.piece came c.in_ok-go_on-in-Done.ensures.ok

pub returns-in_ok-go_on-in-Done-clause-in_step : goal.returns-in_ok-go_on-in-Done-clause-in_step
returns-in_ok-go_on-in-Done-clause-in_step g c = λ done d came.
    done_steps g.D.Disk.tells done d c.args.self.now c.go_on.new.self (g.D.Disk.view c.args.disk.now) c.args.came c.in-Done.served c.in-Done.mark c.in-Done.is c.requires.stands came c.in_ok-go_on-in-Done.ensures.same

pub returns-in_err-go_on-in-Done-clause-left : goal.returns-in_err-go_on-in-Done-clause-left
returns-in_err-go_on-in-Done-clause-left g c =
    err_is c.from_residual.result c.from_residual.ensures.1
    (λ f gives told done d s came image left. done_left g.D.Disk.tells done d s c.args.self.now (g.D.Disk.view c.args.disk.now) c.args.came c.in-Done.served c.in-Done.mark image c.in-Done.is came told left)

pub returns-in-Stopped-clause-ok : goal.returns-in-Stopped-clause-ok
returns-in-Stopped-clause-ok g c =
    on_ok c.stop_in.result c.stop_in.ensures.ok
    (λ shows done d s armed came at. stopped_finishes g.D.Disk.tells done d s armed c.args.self.now c.stop_in.new.self (g.D.Disk.view c.args.disk.now) c.args.came c.in-Stopped.mark c.in-Stopped.is came at shows)

pub returns-in-Stopped-clause-left : goal.returns-in-Stopped-clause-left
returns-in-Stopped-clause-left g c =
    if_err c.stop_in.result c.stop_in.ensures.err
    (λ f breaks told done d s came image left.
    stopped_left g.D.Disk.tells done d s c.args.self.now (g.D.Disk.view c.args.disk.now) (g.D.Disk.view c.stop_in.new.disk) c.args.came c.in-Stopped.mark image c.in-Stopped.is c.stop_in.ensures.left came told left)

pub returns-in-DiskFailed-clause-left : goal.returns-in-DiskFailed-clause-left
returns-in-DiskFailed-clause-left g c = λ told done d s came image left.
    failed_left g.D.Disk.tells done d s c.args.self.now (g.D.Disk.view c.args.disk.now) c.args.came image c.in-DiskFailed.is came told left

pub returns-in-NoMemory-clause-left : goal.returns-in-NoMemory-clause-left
returns-in-NoMemory-clause-left g c = λ told done d s came image left.
    wants_left g.D.Disk.tells done d s c.args.self.now (g.D.Disk.view c.args.disk.now) c.args.came image c.in-NoMemory.is came told left

pub returns-in_ok-go_on-in-Done-clause-arms : goal.returns-in_ok-go_on-in-Done-clause-arms
returns-in_ok-go_on-in-Done-clause-arms g c = arms_done c.args.came c.in-Done.served c.in-Done.mark (state_of c.args.self.now.store) (state_of c.go_on.new.self.store) (g.D.Disk.counts c.args.disk.now).armed c.in-Done.is (ap state_of c.in_ok-go_on-in-Done.ensures.same.store)

pub returns-in-Stopped-clause-arms : goal.returns-in-Stopped-clause-arms
returns-in-Stopped-clause-arms g c =
    on_ok c.stop_in.result c.stop_in.ensures.disarmed (λ none. arms_stopped c.args.came c.in-Stopped.mark (state_of c.args.self.now.store) (state_of c.stop_in.new.self.store) (g.D.Disk.counts c.args.disk.now).armed (g.D.Disk.counts c.stop_in.new.disk).armed c.in-Stopped.is none)
