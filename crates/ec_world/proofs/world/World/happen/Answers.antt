use Rattle.std.proofs.Common.{◌≡◌, ◌∙◌, refl, sym, ap, Err}
use Rattle.std.proofs.lemmas.Result.{err_from_is_err_and}
use Rattle.ec_protocol.specs.World as machine
use Rattle.ec_protocol.specs.declared.world.Event.{Event}
use Rattle.ec_protocol.specs.declared.world.Event.TheVariants as event
use Rattle.ec_store.specs.Store.{view_of as state_of}
use Rattle.ec_world.specs.Laws.{in_step_rests, in_step_keeps}
use Rattle.ec_world.specs.Worlds.{view_of}
use Rattle.ec_world.specs.StepEnds.{under}
use Rattle.ec_world.specs.declared.world.World.{World}
use Rattle.ec_world.proofs.Quiet.{in_step, not_failed, left_as_was, uncounted}
use Rattle.ec_world.proofs.Happens.{acted, acts, acts_not, happens, leaves, out_of_memory, refuses_nothing, not_failed_there, stopped_in_step, armed, arm_counts, still_counts}
use Rattle.ec_world.proofs.world.World.happen.Goals as goal

pub returns-in-Call-clause-ok : goal.returns-in-Call-clause-ok
returns-in-Call-clause-ok g c = acts c.call.result g.D.Disk.tells (g.D.Disk.counts c.args.disk.now) (g.D.Disk.counts c.args.disk.now) c.args.event (event.Call c.in-Call.clerk c.in-Call.line c.in-Call.call) (view_of c.args.self.now) (under c.call.new.self) c.in-Call.is refl (ap state_of c.call.ensures.same.store) c.call.ensures.ok

pub returns-in-Call-clause-in_step : goal.returns-in-Call-clause-in_step
returns-in-Call-clause-in_step g c = in_step c.call.result g.D.Disk.tells (g.D.Disk.view c.args.disk.now) c.args.self.now c.call.new.self c.call.ensures.same c.requires.in_step

pub returns-in-Call-clause-err : goal.returns-in-Call-clause-err
returns-in-Call-clause-err g c =
    acts_not c.call.result c.args.event (event.Call c.in-Call.clerk c.in-Call.line c.in-Call.call) (view_of c.args.self.now) (view_of c.call.new.self) _ c.in-Call.is c.call.ensures.err
    (in_step_keeps g.D.Disk.tells (g.D.Disk.view c.args.disk.now) c.args.self.now c.call.new.self c.call.ensures.same c.requires.in_step)

pub returns-in-Call-clause-counts : goal.returns-in-Call-clause-counts
returns-in-Call-clause-counts g c = still_counts c.args.event (event.Call c.in-Call.clerk c.in-Call.line c.in-Call.call) (g.D.Disk.counts c.args.disk.now) _ _ c.in-Call.is (uncounted (g.D.Disk.counts c.args.disk.now) _ (not_failed c.call.result (machine.happen machine.runs (event.Call c.in-Call.clerk c.in-Call.line c.in-Call.call) (view_of c.args.self.now)) (view_of c.args.self.now) (view_of c.call.new.self) c.call.ensures.err))

pub returns-in-Call-clause-left : goal.returns-in-Call-clause-left
returns-in-Call-clause-left g c = left_as_was c.call.result g.D.Disk.tells (g.D.Disk.view c.args.disk.now) c.args.self.now _ c.requires.in_step

pub returns-in-Push-clause-ok : goal.returns-in-Push-clause-ok
returns-in-Push-clause-ok g c = acts c.push.result g.D.Disk.tells (g.D.Disk.counts c.args.disk.now) (g.D.Disk.counts c.args.disk.now) c.args.event (event.Push c.in-Push.clerk c.in-Push.op) (view_of c.args.self.now) (under c.push.new.self) c.in-Push.is refl (ap state_of c.push.ensures.same.store) c.push.ensures.ok

pub returns-in-Push-clause-in_step : goal.returns-in-Push-clause-in_step
returns-in-Push-clause-in_step g c = in_step c.push.result g.D.Disk.tells (g.D.Disk.view c.args.disk.now) c.args.self.now c.push.new.self c.push.ensures.same c.requires.in_step

pub returns-in-Push-clause-err : goal.returns-in-Push-clause-err
returns-in-Push-clause-err g c =
    acts_not c.push.result c.args.event (event.Push c.in-Push.clerk c.in-Push.op) (view_of c.args.self.now) (view_of c.push.new.self) _ c.in-Push.is c.push.ensures.err
    (in_step_keeps g.D.Disk.tells (g.D.Disk.view c.args.disk.now) c.args.self.now c.push.new.self c.push.ensures.same c.requires.in_step)

pub returns-in-Push-clause-counts : goal.returns-in-Push-clause-counts
returns-in-Push-clause-counts g c = still_counts c.args.event (event.Push c.in-Push.clerk c.in-Push.op) (g.D.Disk.counts c.args.disk.now) _ _ c.in-Push.is (uncounted (g.D.Disk.counts c.args.disk.now) _ (not_failed c.push.result (machine.happen machine.runs (event.Push c.in-Push.clerk c.in-Push.op) (view_of c.args.self.now)) (view_of c.args.self.now) (view_of c.push.new.self) c.push.ensures.err))

pub returns-in-Push-clause-left : goal.returns-in-Push-clause-left
returns-in-Push-clause-left g c = left_as_was c.push.result g.D.Disk.tells (g.D.Disk.view c.args.disk.now) c.args.self.now _ c.requires.in_step

pub returns-in-Resend-clause-ok : goal.returns-in-Resend-clause-ok
returns-in-Resend-clause-ok g c = acts c.resend.result g.D.Disk.tells (g.D.Disk.counts c.args.disk.now) (g.D.Disk.counts c.args.disk.now) c.args.event (event.Resend c.in-Resend.clerk) (view_of c.args.self.now) (under c.resend.new.self) c.in-Resend.is refl (ap state_of c.resend.ensures.same.store) c.resend.ensures.ok

pub returns-in-Resend-clause-in_step : goal.returns-in-Resend-clause-in_step
returns-in-Resend-clause-in_step g c = in_step c.resend.result g.D.Disk.tells (g.D.Disk.view c.args.disk.now) c.args.self.now c.resend.new.self c.resend.ensures.same c.requires.in_step

pub returns-in-Resend-clause-err : goal.returns-in-Resend-clause-err
returns-in-Resend-clause-err g c =
    acts_not c.resend.result c.args.event (event.Resend c.in-Resend.clerk) (view_of c.args.self.now) (view_of c.resend.new.self) _ c.in-Resend.is c.resend.ensures.err
    (in_step_keeps g.D.Disk.tells (g.D.Disk.view c.args.disk.now) c.args.self.now c.resend.new.self c.resend.ensures.same c.requires.in_step)

pub returns-in-Resend-clause-counts : goal.returns-in-Resend-clause-counts
returns-in-Resend-clause-counts g c = still_counts c.args.event (event.Resend c.in-Resend.clerk) (g.D.Disk.counts c.args.disk.now) _ _ c.in-Resend.is (uncounted (g.D.Disk.counts c.args.disk.now) _ (not_failed c.resend.result (machine.happen machine.runs (event.Resend c.in-Resend.clerk) (view_of c.args.self.now)) (view_of c.args.self.now) (view_of c.resend.new.self) c.resend.ensures.err))

pub returns-in-Resend-clause-left : goal.returns-in-Resend-clause-left
returns-in-Resend-clause-left g c = left_as_was c.resend.result g.D.Disk.tells (g.D.Disk.view c.args.disk.now) c.args.self.now _ c.requires.in_step

pub returns-in-Drop-clause-ok : goal.returns-in-Drop-clause-ok
returns-in-Drop-clause-ok g c = acts c.drop_message.result g.D.Disk.tells (g.D.Disk.counts c.args.disk.now) (g.D.Disk.counts c.args.disk.now) c.args.event (event.Drop c.in-Drop.number) (view_of c.args.self.now) (under c.drop_message.new.self) c.in-Drop.is refl (ap state_of c.drop_message.ensures.same.store) c.drop_message.ensures.ok

pub returns-in-Drop-clause-in_step : goal.returns-in-Drop-clause-in_step
returns-in-Drop-clause-in_step g c = in_step c.drop_message.result g.D.Disk.tells (g.D.Disk.view c.args.disk.now) c.args.self.now c.drop_message.new.self c.drop_message.ensures.same c.requires.in_step

pub returns-in-Drop-clause-err : goal.returns-in-Drop-clause-err
returns-in-Drop-clause-err g c =
    acts_not c.drop_message.result c.args.event (event.Drop c.in-Drop.number) (view_of c.args.self.now) (view_of c.drop_message.new.self) _ c.in-Drop.is c.drop_message.ensures.err
    (in_step_keeps g.D.Disk.tells (g.D.Disk.view c.args.disk.now) c.args.self.now c.drop_message.new.self c.drop_message.ensures.same c.requires.in_step)

pub returns-in-Drop-clause-counts : goal.returns-in-Drop-clause-counts
returns-in-Drop-clause-counts g c = still_counts c.args.event (event.Drop c.in-Drop.number) (g.D.Disk.counts c.args.disk.now) _ _ c.in-Drop.is (uncounted (g.D.Disk.counts c.args.disk.now) _ (not_failed c.drop_message.result (machine.happen machine.runs (event.Drop c.in-Drop.number) (view_of c.args.self.now)) (view_of c.args.self.now) (view_of c.drop_message.new.self) c.drop_message.ensures.err))

pub returns-in-Drop-clause-left : goal.returns-in-Drop-clause-left
returns-in-Drop-clause-left g c = left_as_was c.drop_message.result g.D.Disk.tells (g.D.Disk.view c.args.disk.now) c.args.self.now _ c.requires.in_step

pub returns-in-Repeat-clause-ok : goal.returns-in-Repeat-clause-ok
returns-in-Repeat-clause-ok g c = acts c.repeat.result g.D.Disk.tells (g.D.Disk.counts c.args.disk.now) (g.D.Disk.counts c.args.disk.now) c.args.event (event.Repeat c.in-Repeat.number) (view_of c.args.self.now) (under c.repeat.new.self) c.in-Repeat.is refl (ap state_of c.repeat.ensures.same.store) c.repeat.ensures.ok

pub returns-in-Repeat-clause-in_step : goal.returns-in-Repeat-clause-in_step
returns-in-Repeat-clause-in_step g c = in_step c.repeat.result g.D.Disk.tells (g.D.Disk.view c.args.disk.now) c.args.self.now c.repeat.new.self c.repeat.ensures.same c.requires.in_step

pub returns-in-Repeat-clause-err : goal.returns-in-Repeat-clause-err
returns-in-Repeat-clause-err g c =
    acts_not c.repeat.result c.args.event (event.Repeat c.in-Repeat.number) (view_of c.args.self.now) (view_of c.repeat.new.self) _ c.in-Repeat.is c.repeat.ensures.err
    (in_step_keeps g.D.Disk.tells (g.D.Disk.view c.args.disk.now) c.args.self.now c.repeat.new.self c.repeat.ensures.same c.requires.in_step)

pub returns-in-Repeat-clause-counts : goal.returns-in-Repeat-clause-counts
returns-in-Repeat-clause-counts g c = still_counts c.args.event (event.Repeat c.in-Repeat.number) (g.D.Disk.counts c.args.disk.now) _ _ c.in-Repeat.is (uncounted (g.D.Disk.counts c.args.disk.now) _ (not_failed c.repeat.result (machine.happen machine.runs (event.Repeat c.in-Repeat.number) (view_of c.args.self.now)) (view_of c.args.self.now) (view_of c.repeat.new.self) c.repeat.ensures.err))

pub returns-in-Repeat-clause-left : goal.returns-in-Repeat-clause-left
returns-in-Repeat-clause-left g c = left_as_was c.repeat.result g.D.Disk.tells (g.D.Disk.view c.args.disk.now) c.args.self.now _ c.requires.in_step

pub returns-in_ok-cut-in-Cut-clause-ok : goal.returns-in_ok-cut-in-Cut-clause-ok
returns-in_ok-cut-in-Cut-clause-ok g c = acted g.D.Disk.tells (g.D.Disk.counts c.args.disk.now) (g.D.Disk.counts c.args.disk.now) c.args.event (event.Cut c.in-Cut.clerk) (view_of c.args.self.now) (under c.cut.new.self) c.in-Cut.is refl (ap state_of c.in_ok-cut-in-Cut.ensures.same.store) c.in_ok-cut-in-Cut.ensures.ok

pub returns-in_ok-cut-in-Cut-clause-in_step : goal.returns-in_ok-cut-in-Cut-clause-in_step
returns-in_ok-cut-in-Cut-clause-in_step g c = in_step_keeps g.D.Disk.tells (g.D.Disk.view c.args.disk.now) c.args.self.now c.cut.new.self c.in_ok-cut-in-Cut.ensures.same c.requires.in_step

pub returns-in_ok-cut-in-Cut-clause-counts : goal.returns-in_ok-cut-in-Cut-clause-counts
returns-in_ok-cut-in-Cut-clause-counts g c = still_counts c.args.event (event.Cut c.in-Cut.clerk) (g.D.Disk.counts c.args.disk.now) _ _ c.in-Cut.is (uncounted (g.D.Disk.counts c.args.disk.now) _ (λ failed. cc))

pub returns-in_err-cut-in-Cut-clause-ok : goal.returns-in_err-cut-in-Cut-clause-ok
returns-in_err-cut-in-Cut-clause-ok g c =
    let p = err_from_is_err_and c.from_residual.result c.from_residual.ensures.1 in
    out_of_memory c.from_residual.result _ (p.1 ∙ ap Err p.2)

pub returns-in_err-cut-in-Cut-clause-in_step : goal.returns-in_err-cut-in-Cut-clause-in_step
returns-in_err-cut-in-Cut-clause-in_step g c =
    let p = err_from_is_err_and c.from_residual.result c.from_residual.ensures.1 in
    out_of_memory c.from_residual.result _ (p.1 ∙ ap Err p.2)

pub returns-in_err-cut-in-Cut-clause-err : goal.returns-in_err-cut-in-Cut-clause-err
returns-in_err-cut-in-Cut-clause-err g c =
    let p = err_from_is_err_and c.from_residual.result c.from_residual.ensures.1 in
    refuses_nothing c.from_residual.result _ _ _ _ (p.1 ∙ ap Err p.2)

pub returns-in_err-cut-in-Cut-clause-counts : goal.returns-in_err-cut-in-Cut-clause-counts
returns-in_err-cut-in-Cut-clause-counts g c =
    let p = err_from_is_err_and c.from_residual.result c.from_residual.ensures.1 in
    still_counts c.args.event (event.Cut c.in-Cut.clerk) (g.D.Disk.counts c.args.disk.now) _ _ c.in-Cut.is (uncounted (g.D.Disk.counts c.args.disk.now) _ (not_failed_there c.from_residual.result (p.1 ∙ ap Err p.2)))

pub returns-in_err-cut-in-Cut-clause-left : goal.returns-in_err-cut-in-Cut-clause-left
returns-in_err-cut-in-Cut-clause-left g c = left_as_was c.from_residual.result g.D.Disk.tells (g.D.Disk.view c.args.disk.now) c.args.self.now _ c.requires.in_step

pub returns-in_ok-uncut-in-Uncut-clause-ok : goal.returns-in_ok-uncut-in-Uncut-clause-ok
returns-in_ok-uncut-in-Uncut-clause-ok g c = acted g.D.Disk.tells (g.D.Disk.counts c.args.disk.now) (g.D.Disk.counts c.args.disk.now) c.args.event (event.Uncut c.in-Uncut.clerk) (view_of c.args.self.now) (under c.uncut.new.self) c.in-Uncut.is refl (ap state_of c.in_ok-uncut-in-Uncut.ensures.same.store) c.in_ok-uncut-in-Uncut.ensures.ok

pub returns-in_ok-uncut-in-Uncut-clause-in_step : goal.returns-in_ok-uncut-in-Uncut-clause-in_step
returns-in_ok-uncut-in-Uncut-clause-in_step g c = in_step_keeps g.D.Disk.tells (g.D.Disk.view c.args.disk.now) c.args.self.now c.uncut.new.self c.in_ok-uncut-in-Uncut.ensures.same c.requires.in_step

pub returns-in_ok-uncut-in-Uncut-clause-counts : goal.returns-in_ok-uncut-in-Uncut-clause-counts
returns-in_ok-uncut-in-Uncut-clause-counts g c = still_counts c.args.event (event.Uncut c.in-Uncut.clerk) (g.D.Disk.counts c.args.disk.now) _ _ c.in-Uncut.is (uncounted (g.D.Disk.counts c.args.disk.now) _ (λ failed. cc))

pub returns-in_err-uncut-in-Uncut-clause-ok : goal.returns-in_err-uncut-in-Uncut-clause-ok
returns-in_err-uncut-in-Uncut-clause-ok g c =
    let p = err_from_is_err_and c.from_residual-in_err-uncut-in-Uncut.result c.from_residual-in_err-uncut-in-Uncut.ensures.1 in
    out_of_memory c.from_residual-in_err-uncut-in-Uncut.result _ (p.1 ∙ ap Err p.2)

pub returns-in_err-uncut-in-Uncut-clause-in_step : goal.returns-in_err-uncut-in-Uncut-clause-in_step
returns-in_err-uncut-in-Uncut-clause-in_step g c =
    let p = err_from_is_err_and c.from_residual-in_err-uncut-in-Uncut.result c.from_residual-in_err-uncut-in-Uncut.ensures.1 in
    out_of_memory c.from_residual-in_err-uncut-in-Uncut.result _ (p.1 ∙ ap Err p.2)

pub returns-in_err-uncut-in-Uncut-clause-err : goal.returns-in_err-uncut-in-Uncut-clause-err
returns-in_err-uncut-in-Uncut-clause-err g c =
    let p = err_from_is_err_and c.from_residual-in_err-uncut-in-Uncut.result c.from_residual-in_err-uncut-in-Uncut.ensures.1 in
    refuses_nothing c.from_residual-in_err-uncut-in-Uncut.result _ _ _ _ (p.1 ∙ ap Err p.2)

pub returns-in_err-uncut-in-Uncut-clause-counts : goal.returns-in_err-uncut-in-Uncut-clause-counts
returns-in_err-uncut-in-Uncut-clause-counts g c =
    let p = err_from_is_err_and c.from_residual-in_err-uncut-in-Uncut.result c.from_residual-in_err-uncut-in-Uncut.ensures.1 in
    still_counts c.args.event (event.Uncut c.in-Uncut.clerk) (g.D.Disk.counts c.args.disk.now) _ _ c.in-Uncut.is (uncounted (g.D.Disk.counts c.args.disk.now) _ (not_failed_there c.from_residual-in_err-uncut-in-Uncut.result (p.1 ∙ ap Err p.2)))

pub returns-in_err-uncut-in-Uncut-clause-left : goal.returns-in_err-uncut-in-Uncut-clause-left
returns-in_err-uncut-in-Uncut-clause-left g c = left_as_was c.from_residual-in_err-uncut-in-Uncut.result g.D.Disk.tells (g.D.Disk.view c.args.disk.now) c.args.self.now _ c.requires.in_step

pub returns-in_ok-crash-in-Crash-clause-ok : goal.returns-in_ok-crash-in-Crash-clause-ok
returns-in_ok-crash-in-Crash-clause-ok g c = acted g.D.Disk.tells (g.D.Disk.counts c.args.disk.now) (g.D.Disk.counts c.args.disk.now) c.args.event (event.Crash c.in-Crash.clerk) (view_of c.args.self.now) (under c.crash.new.self) c.in-Crash.is refl (ap state_of c.in_ok-crash-in-Crash.ensures.same.store) c.in_ok-crash-in-Crash.ensures.ok

pub returns-in_ok-crash-in-Crash-clause-in_step : goal.returns-in_ok-crash-in-Crash-clause-in_step
returns-in_ok-crash-in-Crash-clause-in_step g c = in_step_keeps g.D.Disk.tells (g.D.Disk.view c.args.disk.now) c.args.self.now c.crash.new.self c.in_ok-crash-in-Crash.ensures.same c.requires.in_step

pub returns-in_ok-crash-in-Crash-clause-counts : goal.returns-in_ok-crash-in-Crash-clause-counts
returns-in_ok-crash-in-Crash-clause-counts g c = still_counts c.args.event (event.Crash c.in-Crash.clerk) (g.D.Disk.counts c.args.disk.now) _ _ c.in-Crash.is (uncounted (g.D.Disk.counts c.args.disk.now) _ (λ failed. cc))

pub returns-in_err-crash-in-Crash-clause-ok : goal.returns-in_err-crash-in-Crash-clause-ok
returns-in_err-crash-in-Crash-clause-ok g c =
    let p = err_from_is_err_and c.from_residual-in_err-crash-in-Crash.result c.from_residual-in_err-crash-in-Crash.ensures.1 in
    out_of_memory c.from_residual-in_err-crash-in-Crash.result _ (p.1 ∙ ap Err p.2)

pub returns-in_err-crash-in-Crash-clause-in_step : goal.returns-in_err-crash-in-Crash-clause-in_step
returns-in_err-crash-in-Crash-clause-in_step g c =
    let p = err_from_is_err_and c.from_residual-in_err-crash-in-Crash.result c.from_residual-in_err-crash-in-Crash.ensures.1 in
    out_of_memory c.from_residual-in_err-crash-in-Crash.result _ (p.1 ∙ ap Err p.2)

pub returns-in_err-crash-in-Crash-clause-err : goal.returns-in_err-crash-in-Crash-clause-err
returns-in_err-crash-in-Crash-clause-err g c =
    let p = err_from_is_err_and c.from_residual-in_err-crash-in-Crash.result c.from_residual-in_err-crash-in-Crash.ensures.1 in
    refuses_nothing c.from_residual-in_err-crash-in-Crash.result _ _ _ _ (p.1 ∙ ap Err p.2)

pub returns-in_err-crash-in-Crash-clause-counts : goal.returns-in_err-crash-in-Crash-clause-counts
returns-in_err-crash-in-Crash-clause-counts g c =
    let p = err_from_is_err_and c.from_residual-in_err-crash-in-Crash.result c.from_residual-in_err-crash-in-Crash.ensures.1 in
    still_counts c.args.event (event.Crash c.in-Crash.clerk) (g.D.Disk.counts c.args.disk.now) _ _ c.in-Crash.is (uncounted (g.D.Disk.counts c.args.disk.now) _ (not_failed_there c.from_residual-in_err-crash-in-Crash.result (p.1 ∙ ap Err p.2)))

pub returns-in_err-crash-in-Crash-clause-left : goal.returns-in_err-crash-in-Crash-clause-left
returns-in_err-crash-in-Crash-clause-left g c = left_as_was c.from_residual-in_err-crash-in-Crash.result g.D.Disk.tells (g.D.Disk.view c.args.disk.now) c.args.self.now _ c.requires.in_step

pub returns-in_ok-stop-in-Stop-clause-ok : goal.returns-in_ok-stop-in-Stop-clause-ok
returns-in_ok-stop-in-Stop-clause-ok g c = acted g.D.Disk.tells (g.D.Disk.counts c.args.disk.now) (g.D.Disk.counts c.args.disk.now) c.args.event event.Stop (view_of c.args.self.now) (under c.stop.new.self) c.in-Stop.is refl (ap state_of c.in_ok-stop-in-Stop.ensures.store) c.in_ok-stop-in-Stop.ensures.ok

pub returns-in_ok-stop-in-Stop-clause-in_step : goal.returns-in_ok-stop-in-Stop-clause-in_step
returns-in_ok-stop-in-Stop-clause-in_step g c = stopped_in_step g.D.Disk.tells (g.D.Disk.view c.args.disk.now) c.args.self.now c.stop.new.self c.in_ok-stop-in-Stop.ensures.store c.in_ok-stop-in-Stop.ensures.stopped c.requires.in_step

pub returns-in_ok-stop-in-Stop-clause-counts : goal.returns-in_ok-stop-in-Stop-clause-counts
returns-in_ok-stop-in-Stop-clause-counts g c = still_counts c.args.event event.Stop (g.D.Disk.counts c.args.disk.now) _ _ c.in-Stop.is (uncounted (g.D.Disk.counts c.args.disk.now) _ (λ failed. cc))

pub returns-in_err-stop-in-Stop-clause-ok : goal.returns-in_err-stop-in-Stop-clause-ok
returns-in_err-stop-in-Stop-clause-ok g c =
    let p = err_from_is_err_and c.from_residual-in_err-stop-in-Stop.result c.from_residual-in_err-stop-in-Stop.ensures.1 in
    out_of_memory c.from_residual-in_err-stop-in-Stop.result _ (p.1 ∙ ap Err p.2)

pub returns-in_err-stop-in-Stop-clause-in_step : goal.returns-in_err-stop-in-Stop-clause-in_step
returns-in_err-stop-in-Stop-clause-in_step g c =
    let p = err_from_is_err_and c.from_residual-in_err-stop-in-Stop.result c.from_residual-in_err-stop-in-Stop.ensures.1 in
    out_of_memory c.from_residual-in_err-stop-in-Stop.result _ (p.1 ∙ ap Err p.2)

pub returns-in_err-stop-in-Stop-clause-err : goal.returns-in_err-stop-in-Stop-clause-err
returns-in_err-stop-in-Stop-clause-err g c =
    let p = err_from_is_err_and c.from_residual-in_err-stop-in-Stop.result c.from_residual-in_err-stop-in-Stop.ensures.1 in
    refuses_nothing c.from_residual-in_err-stop-in-Stop.result _ _ _ _ (p.1 ∙ ap Err p.2)

pub returns-in_err-stop-in-Stop-clause-counts : goal.returns-in_err-stop-in-Stop-clause-counts
returns-in_err-stop-in-Stop-clause-counts g c =
    let p = err_from_is_err_and c.from_residual-in_err-stop-in-Stop.result c.from_residual-in_err-stop-in-Stop.ensures.1 in
    still_counts c.args.event event.Stop (g.D.Disk.counts c.args.disk.now) _ _ c.in-Stop.is (uncounted (g.D.Disk.counts c.args.disk.now) _ (not_failed_there c.from_residual-in_err-stop-in-Stop.result (p.1 ∙ ap Err p.2)))

pub returns-in_err-stop-in-Stop-clause-left : goal.returns-in_err-stop-in-Stop-clause-left
returns-in_err-stop-in-Stop-clause-left g c = left_as_was c.from_residual-in_err-stop-in-Stop.result g.D.Disk.tells (g.D.Disk.view c.args.disk.now) c.args.self.now _ c.requires.in_step

pub returns-in-Arm-clause-ok : goal.returns-in-Arm-clause-ok
returns-in-Arm-clause-ok g c =
    let chosen = c.arm.ensures.chosen in
    acted g.D.Disk.tells (g.D.Disk.counts c.args.disk.now) (g.D.Disk.counts c.arm.new.disk) c.args.event (event.Arm c.in-Arm.calls c.in-Arm.choice) (view_of c.args.self.now) (under c.arm.new.self) c.in-Arm.is c.arm.ensures.armed (ap (λ (w : World). (view_of w).durable) chosen)
    (armed c.in-Arm.calls c.in-Arm.choice (event.Arm c.in-Arm.calls c.in-Arm.choice) c.args.self.now refl c.requires.piece ∙ ap (λ (w : World). under w) (sym chosen))

pub returns-in-Arm-clause-in_step : goal.returns-in-Arm-clause-in_step
returns-in-Arm-clause-in_step g c =
    let chosen = c.arm.ensures.chosen in
    in_step_keeps g.D.Disk.tells (g.D.Disk.view c.arm.new.disk) c.args.self.now c.arm.new.self (record { store = ap (λ (w : World). w.store) chosen; server = ap (λ (w : World). w.server) chosen })
    (in_step_rests g.D.Disk.tells (g.D.Disk.view c.args.disk.now) (g.D.Disk.view c.arm.new.disk) c.args.self.now c.arm.ensures.rests c.requires.in_step)

pub returns-in-Arm-clause-counts : goal.returns-in-Arm-clause-counts
returns-in-Arm-clause-counts g c = arm_counts c.in-Arm.calls c.in-Arm.choice c.args.event (g.D.Disk.counts c.args.disk.now) (g.D.Disk.counts c.arm.new.disk) _ _ c.in-Arm.is c.arm.ensures.armed (λ failed. cc)

pub returns-in-Deliver-clause-left : goal.returns-in-Deliver-clause-left
returns-in-Deliver-clause-left g c = leaves c.deliver.result g.D.Disk.tells (g.D.Disk.view c.deliver.new.disk).may_leave (view_of c.args.self.now).durable c.args.event (event.Deliver c.in-Deliver.number) (view_of c.args.self.now) c.in-Deliver.is c.deliver.ensures.left

pub returns-in-End-clause-left : goal.returns-in-End-clause-left
returns-in-End-clause-left g c = leaves c.end.result g.D.Disk.tells (g.D.Disk.view c.end.new.disk).may_leave (view_of c.args.self.now).durable c.args.event (event.End c.in-End.clerk) (view_of c.args.self.now) c.in-End.is c.end.ensures.left

pub returns-in-Restart-clause-left : goal.returns-in-Restart-clause-left
returns-in-Restart-clause-left g c = leaves c.restart.result g.D.Disk.tells (g.D.Disk.view c.restart.new.disk).may_leave (view_of c.args.self.now).durable c.args.event (event.Restart) (view_of c.args.self.now) c.in-Restart.is c.restart.ensures.left

pub returns-in-Deliver-clause-ok : goal.returns-in-Deliver-clause-ok
returns-in-Deliver-clause-ok g c = happens c.deliver.result g.D.Disk.tells (g.D.Disk.counts c.args.disk.now) (g.D.Disk.counts c.deliver.new.disk) c.args.event (event.Deliver c.in-Deliver.number) (view_of c.args.self.now) (under c.deliver.new.self) c.in-Deliver.is c.deliver.ensures.ok

pub returns-in-End-clause-ok : goal.returns-in-End-clause-ok
returns-in-End-clause-ok g c = happens c.end.result g.D.Disk.tells (g.D.Disk.counts c.args.disk.now) (g.D.Disk.counts c.end.new.disk) c.args.event (event.End c.in-End.clerk) (view_of c.args.self.now) (under c.end.new.self) c.in-End.is c.end.ensures.ok

pub returns-in-Restart-clause-ok : goal.returns-in-Restart-clause-ok
returns-in-Restart-clause-ok g c = happens c.restart.result g.D.Disk.tells (g.D.Disk.counts c.args.disk.now) (g.D.Disk.counts c.restart.new.disk) c.args.event event.Restart (view_of c.args.self.now) (under c.restart.new.self) c.in-Restart.is c.restart.ensures.ok
