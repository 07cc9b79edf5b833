use Rattle.std.proofs.Common.{ap, ◌∙◌}
use Rattle.ec_store.specs.Store.{view_of as state_of}
use Rattle.ec_world.proofs.Arms.{arms_done, arms_stopped}
use Rattle.ec_world.proofs.Starting.{done_restarts, stopped_restarts, err_is, done_left, stopped_left, failed_left, wants_left}
use Rattle.ec_world.proofs.world.World.start_up.Goals as goal

pub returns-in_ok-come_up-in-Done-clause-ok : goal.returns-in_ok-come_up-in-Done-clause-ok
returns-in_ok-come_up-in-Done-clause-ok g c = λ d armed came at.
    done_restarts g.D.Disk.tells d armed c.args.self.now (g.D.Disk.view c.args.disk.now) c.args.came c.in-Done.made c.in-Done.mark c.in-Some.mark c.come_up.new.self c.in-Done.is c.in-Some.is c.requires.piece came c.in_ok-come_up-in-Done.ensures.ok

pub returns-in_ok-show_line-in-Stopped-clause-ok : goal.returns-in_ok-show_line-in-Stopped-clause-ok
returns-in_ok-show_line-in-Stopped-clause-ok g c = λ d armed came at.
    stopped_restarts g.D.Disk.tells d armed c.args.self.now c.cut_off.new.self c.show_line.new.self (g.D.Disk.view c.args.disk.now) c.args.came c.in-Stopped.mark c.in_ok-cut_off-in-Stopped.field-0 c.in-Stopped.is c.requires.none came at c.in_ok-cut_off-in-Stopped.ensures.ok
    (ap (λ p. p.items) c.in_ok-cut_off-in-Stopped.ensures.piece ∙ c.requires.piece) c.in_ok-show_line-in-Stopped.ensures.ok c.in_ok-cut_off-in-Stopped.ensures.chosen

pub returns-in_err-come_up-in-Done-clause-left : goal.returns-in_err-come_up-in-Done-clause-left
returns-in_err-come_up-in-Done-clause-left g c =
    err_is c.from_residual.result c.from_residual.ensures.1
    (λ f gives told d came image left. done_left g.D.Disk.tells d c.args.self.now (g.D.Disk.view c.args.disk.now) c.args.came c.in-Done.made c.in-Done.mark image c.in-Done.is came told left)

pub returns-in_err-cut_off-in-Stopped-clause-left : goal.returns-in_err-cut_off-in-Stopped-clause-left
returns-in_err-cut_off-in-Stopped-clause-left g c =
    err_is c.from_residual-in_err-cut_off-in-Stopped.result c.from_residual-in_err-cut_off-in-Stopped.ensures.1
    (λ f gives told d came image left. stopped_left g.D.Disk.tells d c.args.self.now (g.D.Disk.view c.args.disk.now) (g.D.Disk.view c.cut_off.new.disk) c.args.came c.in-Stopped.mark image c.in-Stopped.is c.in_err-cut_off-in-Stopped.ensures.left came told left)

pub returns-in_err-show_line-in-Stopped-clause-left : goal.returns-in_err-show_line-in-Stopped-clause-left
returns-in_err-show_line-in-Stopped-clause-left g c =
    err_is c.from_residual-in_err-show_line-in-Stopped.result c.from_residual-in_err-show_line-in-Stopped.ensures.1
    (λ f gives told d came image left. stopped_left g.D.Disk.tells d c.args.self.now (g.D.Disk.view c.args.disk.now) (g.D.Disk.view c.cut_off.new.disk) c.args.came c.in-Stopped.mark image c.in-Stopped.is c.in_ok-cut_off-in-Stopped.ensures.left came told left)

pub returns-in-DiskFailed-clause-left : goal.returns-in-DiskFailed-clause-left
returns-in-DiskFailed-clause-left g c = λ told d came image left.
    failed_left g.D.Disk.tells d c.args.self.now (g.D.Disk.view c.args.disk.now) c.args.came image c.in-DiskFailed.is came told left

pub returns-in-NoMemory-clause-left : goal.returns-in-NoMemory-clause-left
returns-in-NoMemory-clause-left g c = λ told d came image left.
    wants_left g.D.Disk.tells d c.args.self.now (g.D.Disk.view c.args.disk.now) c.args.came image c.in-NoMemory.is came told left

pub returns-in_ok-come_up-in-Done-clause-arms : goal.returns-in_ok-come_up-in-Done-clause-arms
returns-in_ok-come_up-in-Done-clause-arms g c = arms_done c.args.came c.in-Done.made c.in-Done.mark (state_of c.args.self.now.store) (state_of c.come_up.new.self.store) (g.D.Disk.counts c.args.disk.now).armed c.in-Done.is (ap state_of c.in_ok-come_up-in-Done.ensures.same.store)

pub returns-in_ok-show_line-in-Stopped-clause-arms : goal.returns-in_ok-show_line-in-Stopped-clause-arms
returns-in_ok-show_line-in-Stopped-clause-arms g c =
    arms_stopped c.args.came c.in-Stopped.mark (state_of c.args.self.now.store) (state_of c.show_line.new.self.store) (g.D.Disk.counts c.args.disk.now).armed (g.D.Disk.counts c.cut_off.new.disk).armed c.in-Stopped.is c.in_ok-cut_off-in-Stopped.ensures.disarmed
