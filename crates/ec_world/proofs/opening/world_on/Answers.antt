use Rattle.std.proofs.Common.{◌≡◌, sym, ap, ◌∙◌, Ok, Err}
use Rattle.ec_protocol.specs.Server as machine
use Rattle.ec_server.specs.Servers.{standing}
use Rattle.ec_store.specs.Store.{view_of}
use Rattle.ec_world.proofs.Ends.{ends_begin, ends_step, ends_all, opened_is}
use Rattle.ec_world.proofs.FirstSteps.{in_step_of, of_disk}
use Rattle.ec_world.proofs.Unread.{counted_as, counted_two, ok_err, same_err}
use Rattle.ec_world.proofs.opening.world_on.Goals as goal

pub clerks-init : goal.clerks-init
clerks-init g c =
    let made = c.in-Ok.ensures.ok in
    (ends_begin _ _ _ _ made.server_is made.records_are, c.in-Ok.ensures.stands, c.in-Ok.ensures.held, counted_as _ _ _ _ _ c.started.ensures.counts (λ h. absurd h))

pub clerks-preserved : goal.clerks-preserved
clerks-preserved g c = (
  ends_step c.clerks.number _ _ _ _ _ c.clerks-test.true c.in_default.ensures.ok c.clerks.invariant.0,
  c.in_default.ensures.stands,
  c.in_default.ensures.held,
  counted_as _ _ _ _ _ (counted_two _ _ _ _ _ _ _ c.clerks.invariant.3 c.end_numbered.ensures.counts) (λ h. absurd h),
)

pub returns-in-Err-end_numbered-clause-err : goal.returns-in-Err-end_numbered-clause-err
returns-in-Err-end_numbered-clause-err g c = of_disk c.in-Err-end_numbered.fault g.D.Disk.tells (g.D.Disk.view c.end_numbered.new.disk).may_leave (view_of c.args.store) c.in-Err-end_numbered.ensures.err

pub returns-in-Err-end_numbered-clause-counts : goal.returns-in-Err-end_numbered-clause-counts
returns-in-Err-end_numbered-clause-counts g c =
    counted_as _ _ _ _ _ (counted_two _ _ _ _ _ _ _ c.clerks.invariant.3 c.end_numbered.ensures.counts) (λ h. c.in-Err-end_numbered.is ∙ ap Err (same_err _ _ _ _ h))

pub returns-clause-ok : goal.returns-clause-ok
returns-clause-ok g c =
    opened_is (machine.start (view_of c.args.store)) (standing (view_of c.clerks.store) c.clerks.server) c.clerks.records.items c.in-Ok.ensures.ok.unspent
    (ends_all c.clerks.number (standing (view_of c.clerks.store) c.clerks.server) c.clerks.records.items _ c.clerks-test.false c.clerks.auto.number-end c.clerks.invariant.0)
    ∙ ap Ok (sym c.in-Ok-new_world.ensures.view)

pub returns-clause-in_step : goal.returns-clause-in_step
returns-clause-in_step g c =
    in_step_of g.D.Disk.tells (g.D.Disk.view c.clerks.disk) c.in-Ok-new_world.world c.clerks.store c.clerks.server c.in-Ok-new_world.ensures.store c.in-Ok-new_world.ensures.server c.clerks.invariant.1 c.clerks.invariant.2

pub returns-clause-counts : goal.returns-clause-counts
returns-clause-counts g c = counted_as _ _ _ _ _ c.clerks.invariant.3 (λ h. absurd (ok_err _ _ _ _ h))
