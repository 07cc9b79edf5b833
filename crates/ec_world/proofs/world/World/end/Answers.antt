use Rattle.std.proofs.Common.{◌≡◌, Some, None, true, sym, subst, refl, rules, ◌∙◌}
use Rattle.ec_protocol.specs.Server as server
use Rattle.ec_protocol.specs.World as machine
use Rattle.ec_server.specs.Servers.{standing}
use Rattle.ec_store.specs.Store.{view_of as state_of}
use Rattle.ec_clerk.specs.OfRunning.Faults.{of_step}
use Rattle.ec_world.specs.Serving.{serves}
use Rattle.ec_world.specs.StepEnds.{IsLeft, under}
use Rattle.ec_world.specs.Worlds.{view_of}
use Rattle.ec_world.proofs.Delivering.{behind_end, end_is, end_stopped, end_closed, runs_to_nothing, runs_to_nothing_on, spends, nothing_left, spent_left, breaks_refuse}
use Rattle.ec_world.proofs.Finish.{finished, counts_on, on_ok, on_both, if_err}
use Rattle.ec_world.proofs.Starting.{err_is}
use Rattle.ec_world.proofs.world.World.end.Goals as goal

pub returns-in_default-clause-ok : goal.returns-in_default-clause-ok
returns-in_default-clause-ok g c =
    let w = c.args.self.now in
    let n = c.args.clerk in
    let stopped : w.server ≡ None = search rules in
    runs_to_nothing g.D.Disk.tells w c.show_nothing.new.self (g.D.Disk.counts c.args.disk.now) (λ fate. machine.end fate n (view_of w).server (view_of w)) (end_stopped n w stopped machine.runs) c.in_ok-show_nothing.ensures.ok c.show_nothing.ensures.same

pub returns-then-not-is_open-clause-ok : goal.returns-then-not-is_open-clause-ok
returns-then-not-is_open-clause-ok g c =
    let w = c.args.self.now in
    let v = c.in-Some.server in
    let n = c.args.clerk in
    let steps : machine.Fate → machine.Moving = λ fate. machine.end fate n (view_of w).server (view_of w) in
    runs_to_nothing_on g.D.Disk.tells w c.show_nothing-then-not-is_open.new.self v (g.D.Disk.counts c.args.disk.now) steps c.in-Some.is (end_closed n w v (sym c.if-not-is_open.ensures) c.in-Some.is machine.runs) c.in_ok-show_nothing-2.ensures.ok c.show_nothing-then-not-is_open.ensures.same

pub returns-in-Ok-clause-ok : goal.returns-in-Ok-clause-ok
returns-in-Ok-clause-ok g c =
    let w = c.args.self.now in
    let v = c.in-Some.server in
    let d = state_of w.store in
    let n = c.args.clerk in
    let done = server.end n (standing d v) in
    let counts = g.D.Disk.counts in
    let mid = behind_end w c.end-ended.new.store c.end-ended.new.server in
    on_both c.finish.result c.finish.ensures.ok c.finish.ensures.arms
    (λ h arms. finished c.in-Ok.came g.D.Disk.tells _ _ d (state_of c.end-ended.new.store) (counts c.args.disk.now) (counts c.end-ended.new.disk) (counts c.finish.new.disk) w.choice (view_of w).shown (λ fate. machine.served fate done (serves (Some (standing d v)) d (view_of mid))) (λ fate. machine.end fate n (view_of w).server (view_of w)) (under c.finish.new.self)
    (h done d (Some (standing d v)) (counts c.args.disk.now).armed c.in-Ok.ensures.came c.in-Ok.ensures.stops) (end_is n w v c.end-ended.new.server c.end-ended.new.store (sym c.if-not-is_open.ensures) c.in-Some.is)
    c.in-Ok.ensures.counts c.finish.ensures.counts c.in-Ok.ensures.ran arms)

pub returns-in-Ok-clause-in_step : goal.returns-in-Ok-clause-in_step
returns-in-Ok-clause-in_step g c =
    let d = state_of c.args.self.now.store in
    on_ok c.finish.result c.finish.ensures.in_step (λ h. h (server.end c.args.clerk (standing d c.in-Some.server)) d c.in-Ok.ensures.came)

pub returns-in-Ok-clause-err : goal.returns-in-Ok-clause-err
returns-in-Ok-clause-err g c = if_err c.finish.result c.finish.ensures.err (λ f b. breaks_refuse f _ _ _ _ b)

pub returns-in-Ok-clause-counts : goal.returns-in-Ok-clause-counts
returns-in-Ok-clause-counts g c = counts_on _ c.in-Ok.came c.finish.result _ _ _ c.in-Ok.ensures.counts c.finish.ensures.counts

pub returns-in-Ok-clause-left : goal.returns-in-Ok-clause-left
returns-in-Ok-clause-left g c =
    let w = c.args.self.now in
    let v = c.in-Some.server in
    let d = state_of w.store in
    let n = c.args.clerk in
    let done = server.end n (standing d v) in
    let same = end_is n w v c.end-ended.new.server c.end-ended.new.store (sym c.if-not-is_open.ensures) c.in-Some.is machine.runs in
    if_err c.finish.result c.finish.ensures.left
    (λ f h told image left. subst (λ (m : machine.Moving). IsLeft d m image) (sym same) (h told done d (Some (standing d v)) c.in-Ok.ensures.came image left))

pub returns-in-Err-clause-err : goal.returns-in-Err-clause-err
returns-in-Err-clause-err g c =
    let w = c.args.self.now in
    let v = c.in-Some.server in
    let d = state_of w.store in
    let n = c.args.clerk in
    let done = server.end n (standing d v) in
    let mid = behind_end w c.end-ended.new.store c.end-ended.new.server in
    spends g.D.Disk.tells (g.D.Disk.view c.end-ended.new.disk) c.in-Err.counter done (machine.end machine.runs n (view_of w).server (view_of w)) (serves (Some (standing d v)) d (view_of mid)) w mid v c.end-ended.new.server
    (end_is n w v c.end-ended.new.server c.end-ended.new.store (sym c.if-not-is_open.ensures) c.in-Some.is machine.runs) c.in-Err.ensures.spent c.in-Err.ensures.same c.in-Some.is refl c.in-Err.ensures.stands

pub returns-in-Err-clause-left : goal.returns-in-Err-clause-left
returns-in-Err-clause-left g c =
    let w = c.args.self.now in
    let d = state_of w.store in
    λ told image left.
    spent_left g.D.Disk.tells (g.D.Disk.view c.end-ended.new.disk) c.in-Err.counter (server.end c.args.clerk (standing d c.in-Some.server)) w.store c.end-ended.new.store
    (machine.end machine.runs c.args.clerk (view_of w).server (view_of w)) image c.in-Err.ensures.spent told left

pub returns-in_err-show_nothing-clause-left : goal.returns-in_err-show_nothing-clause-left
returns-in_err-show_nothing-clause-left g c =
    let w = c.args.self.now in
    err_is c.from_residual.result c.from_residual.ensures.1
    (λ f gives told image left. nothing_left g.D.Disk.tells (g.D.Disk.view c.args.disk.now) w (machine.end machine.runs c.args.clerk (view_of w).server (view_of w)) image c.requires.in_step told left)

pub returns-in_err-show_nothing-2-clause-left : goal.returns-in_err-show_nothing-2-clause-left
returns-in_err-show_nothing-2-clause-left g c =
    let w = c.args.self.now in
    err_is c.from_residual-in_err-show_nothing-2.result c.from_residual-in_err-show_nothing-2.ensures.1
    (λ f gives told image left. nothing_left g.D.Disk.tells (g.D.Disk.view c.args.disk.now) w (machine.end machine.runs c.args.clerk (view_of w).server (view_of w)) image c.requires.in_step told left)
