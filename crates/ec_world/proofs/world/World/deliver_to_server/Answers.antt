use Rattle.std.proofs.Common.{◌≡◌, Some, None, true, sym, subst, refl, rules}
use Rattle.ec_protocol.specs.Server as server
use Rattle.ec_protocol.specs.World as machine
use Rattle.ec_protocol.specs.World.{is_for_server}
use Rattle.ec_server.specs.Servers.{standing}
use Rattle.ec_store.specs.Store.{view_of as state_of}
use Rattle.ec_clerk.specs.OfRunning.Faults.{of_step}
use Rattle.ec_world.specs.Serving.{serves}
use Rattle.ec_world.specs.StepEnds.{IsLeft, under}
use Rattle.ec_world.specs.Worlds.{view_of}
use Rattle.ec_world.proofs.Delivering.{behind_take, deliver_is, deliver_takes, deliver_nothing, runs_to_nothing, is_for_sent, spends, nothing_left, spent_left, breaks_refuse}
use Rattle.ec_world.proofs.Finish.{finished, counts_on, on_ok, on_both, if_err}
use Rattle.ec_world.proofs.Starting.{err_is}
use Rattle.ec_world.proofs.world.World.deliver_to_server.Goals as goal

pub returns-in_default-server-clause-ok : goal.returns-in_default-server-clause-ok
returns-in_default-server-clause-ok g c =
    let w = c.args.self.now in
    let s = c.in-Some.sent.now in
    let n = c.args.number in
    let whose : is_for_server s ≡ true = is_for_sent n w.pool c.requires.message.message s c.requires.message.kept c.in-Some.ensures.value c.requires.message.is_for in
    let stopped : w.server ≡ None = search rules in
    runs_to_nothing g.D.Disk.tells w c.show_nothing.new.self (g.D.Disk.counts c.args.disk.now) (λ fate. machine.deliver fate n (view_of w)) (deliver_nothing n s w (sym c.in-Some.ensures.value) whose stopped machine.runs) c.in_ok-show_nothing.ensures.ok c.show_nothing.ensures.same

pub returns-in-Ok-clause-ok : goal.returns-in-Ok-clause-ok
returns-in-Ok-clause-ok g c =
    let w = c.args.self.now in
    let v = c.in-Some-server.server in
    let s = c.in-Some.sent.now in
    let d = state_of w.store in
    let n = c.args.number in
    let counts = g.D.Disk.counts in
    let done = server.take s.clerk s.msg (standing d v) in
    let mid = behind_take w c.take-taken.new.store c.take-taken.new.server c.settle.new.self in
    let whose : is_for_server s ≡ true = is_for_sent n w.pool c.requires.message.message s c.requires.message.kept c.in-Some.ensures.value c.requires.message.is_for in
    on_both c.finish.result c.finish.ensures.ok c.finish.ensures.arms
    (λ h arms. finished c.in-Ok.came g.D.Disk.tells _ _ d (state_of c.take-taken.new.store) (counts c.args.disk.now) (counts c.take-taken.new.disk) (counts c.finish.new.disk) w.choice (view_of w).shown (λ fate. machine.served fate done (serves (Some (standing d v)) d (view_of mid))) (λ fate. machine.deliver fate n (view_of w)) (under c.finish.new.self)
    (h done d (Some (standing d v)) (counts c.args.disk.now).armed c.in-Ok.ensures.came c.in-Ok.ensures.stops) (deliver_is n s w v c.take-taken.new.server c.take-taken.new.store c.settle.new.self (sym c.in-Some.ensures.value) whose c.in-Some-server.is c.settle.ensures)
    c.in-Ok.ensures.counts c.finish.ensures.counts c.in-Ok.ensures.ran arms)

pub returns-in-Ok-clause-in_step : goal.returns-in-Ok-clause-in_step
returns-in-Ok-clause-in_step g c =
    let w = c.args.self.now in
    let s = c.in-Some.sent.now in
    let d = state_of w.store in
    on_ok c.finish.result c.finish.ensures.in_step (λ h. h (server.take s.clerk s.msg (standing d c.in-Some-server.server)) d c.in-Ok.ensures.came)

pub returns-in-Ok-clause-err : goal.returns-in-Ok-clause-err
returns-in-Ok-clause-err g c = if_err c.finish.result c.finish.ensures.err (λ f b. breaks_refuse f _ _ _ _ b)

pub returns-in-Ok-clause-counts : goal.returns-in-Ok-clause-counts
returns-in-Ok-clause-counts g c = counts_on _ c.in-Ok.came c.finish.result _ _ _ c.in-Ok.ensures.counts c.finish.ensures.counts

pub returns-in-Ok-clause-left : goal.returns-in-Ok-clause-left
returns-in-Ok-clause-left g c =
    let w = c.args.self.now in
    let v = c.in-Some-server.server in
    let s = c.in-Some.sent.now in
    let d = state_of w.store in
    let n = c.args.number in
    let done = server.take s.clerk s.msg (standing d v) in
    let whose : is_for_server s ≡ true = is_for_sent n w.pool c.requires.message.message s c.requires.message.kept c.in-Some.ensures.value c.requires.message.is_for in
    let same = deliver_is n s w v c.take-taken.new.server c.take-taken.new.store c.settle.new.self (sym c.in-Some.ensures.value) whose c.in-Some-server.is c.settle.ensures machine.runs in
    if_err c.finish.result c.finish.ensures.left
    (λ f h told image left. subst (λ (m : machine.Moving). IsLeft d m image) (sym same) (h told done d (Some (standing d v)) c.in-Ok.ensures.came image left))

pub returns-in-Err-clause-err : goal.returns-in-Err-clause-err
returns-in-Err-clause-err g c =
    let w = c.args.self.now in
    let v = c.in-Some-server.server in
    let s = c.in-Some.sent.now in
    let n = c.args.number in
    let done = server.take s.clerk s.msg (standing (state_of w.store) v) in
    let whose : is_for_server s ≡ true = is_for_sent n w.pool c.requires.message.message s c.requires.message.kept c.in-Some.ensures.value c.requires.message.is_for in
    spends g.D.Disk.tells (g.D.Disk.view c.take-taken.new.disk) c.in-Err.counter done (machine.deliver machine.runs n (view_of w)) (machine.settled n (view_of w)) w
    (record w { store = c.take-taken.new.store; server = Some c.take-taken.new.server }) v c.take-taken.new.server
    (deliver_takes n s w v (sym c.in-Some.ensures.value) whose c.in-Some-server.is machine.runs) c.in-Err.ensures.spent c.in-Err.ensures.same c.in-Some-server.is refl c.in-Err.ensures.stands

pub returns-in-Err-clause-left : goal.returns-in-Err-clause-left
returns-in-Err-clause-left g c =
    let w = c.args.self.now in
    λ told image left.
    spent_left g.D.Disk.tells (g.D.Disk.view c.take-taken.new.disk) c.in-Err.counter _ w.store c.take-taken.new.store (machine.deliver machine.runs c.args.number (view_of w)) image c.in-Err.ensures.spent told left

pub returns-in_err-show_nothing-clause-left : goal.returns-in_err-show_nothing-clause-left
returns-in_err-show_nothing-clause-left g c =
    let w = c.args.self.now in
    err_is c.from_residual.result c.from_residual.ensures.1
    (λ f gives told image left. nothing_left g.D.Disk.tells (g.D.Disk.view c.args.disk.now) w (machine.deliver machine.runs c.args.number (view_of w)) image c.requires.in_step told left)
