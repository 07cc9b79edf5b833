use Rattle.std.proofs.Common.{◌≡◌, ◌∙◌, None, rules, sym}
use Rattle.ec_protocol.specs.World.{restart_server}
use Rattle.ec_store.specs.Store.{view_of as state_of}
use Rattle.ec_world.proofs.Finish.{on_both, if_err, on_ok}
use Rattle.ec_world.proofs.Restarts.{restart_nothing, restart_finishes, restart_left}
use Rattle.ec_world.proofs.Delivering.{runs_to_nothing, spent_left, nothing_left}
use Rattle.ec_world.proofs.Starting.{err_is}
use Rattle.ec_world.specs.Worlds.{view_of}
use Rattle.ec_world.proofs.world.World.restart.Goals as goal

pub returns-then-is_some-clause-ok : goal.returns-then-is_some-clause-ok
returns-then-is_some-clause-ok g c =
    let w = c.args.self.now in
    runs_to_nothing g.D.Disk.tells w c.show_nothing.new.self (g.D.Disk.counts c.args.disk.now) (λ fate. restart_server fate (view_of w).server (view_of w)) (restart_nothing w (sym c.is_some.ensures ∙ c.if-is_some.true)) c.in_ok-show_nothing.ensures.ok c.show_nothing.ensures.same

pub returns-in-Ok-clause-ok : goal.returns-in-Ok-clause-ok
returns-in-Ok-clause-ok g c =
    let none : c.args.self.now.server ≡ None = search rules in
    on_both c.start_up.result c.start_up.ensures.ok c.start_up.ensures.arms
    (λ up arms.
    restart_finishes g.D.Disk.tells _ _ c.args.self.now c.start-started.new.store c.start_up.new.self (g.D.Disk.view c.start-started.new.disk) c.in-Ok.came (g.D.Disk.counts c.args.disk.now) (g.D.Disk.counts c.start-started.new.disk) (g.D.Disk.counts c.start_up.new.disk) none
    c.in-Ok.ensures.came c.in-Ok.ensures.stops up c.in-Ok.ensures.counts c.start_up.ensures.counts c.in-Ok.ensures.ran arms)

pub returns-in-Ok-clause-in_step : goal.returns-in-Ok-clause-in_step
returns-in-Ok-clause-in_step g c = on_ok c.start_up.result c.start_up.ensures.in_step (λ up. up (state_of c.args.self.now.store) c.in-Ok.ensures.came c.in-Ok.ensures.stands)

pub returns-in-Ok-clause-left : goal.returns-in-Ok-clause-left
returns-in-Ok-clause-left g c =
    let none : c.args.self.now.server ≡ None = search rules in
    if_err c.start_up.result c.start_up.ensures.left (λ f up told image left. restart_left c.args.self.now c.start-started.new.store image none (up told (state_of c.args.self.now.store) c.in-Ok.ensures.came image left))

pub returns-in-Err-clause-left : goal.returns-in-Err-clause-left
returns-in-Err-clause-left g c = λ told image left.
    spent_left g.D.Disk.tells (g.D.Disk.view c.start-started.new.disk) c.in-Err.counter _ c.args.self.now.store c.start-started.new.store _ image c.in-Err.ensures.spent told left

pub returns-in_err-show_nothing-clause-left : goal.returns-in_err-show_nothing-clause-left
returns-in_err-show_nothing-clause-left g c =
    err_is c.from_residual.result c.from_residual.ensures.1 (λ f gives told image left. nothing_left g.D.Disk.tells (g.D.Disk.view c.args.disk.now) c.args.self.now _ image c.requires.in_step told left)
