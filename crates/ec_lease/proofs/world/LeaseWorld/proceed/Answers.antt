use Rattle.std.proofs.Common.{Err, ap, ◌∙◌}
use Rattle.std.proofs.lemmas.Result.{err_from_is_err_and}
use Rattle.ec_protocol.specs.World.{clerks}
use Rattle.ec_lease_machine.specs.Leases.{begin_queued, happens, step}
use Rattle.ec_lease.specs.Steps.{RefusesLease, behind_lease_arm}
use Rattle.ec_lease.specs.Worlds.{ended_with, ticks, under_way, leased, IsInStep}
use Rattle.ec_lease.proofs.Behind.{all_begin, clock_behind, not_all_begin, refused_first}
use Rattle.ec_lease.proofs.Comes.{stays_in_step}
use Rattle.ec_lease.proofs.Counting.{counts_handed, counts_queued}
use Rattle.ec_lease.proofs.Queued.{handed_on}
use Rattle.ec_lease.proofs.world.LeaseWorld.proceed.Goals as goal

pub returns-in_err-happen-clause-err : goal.returns-in_err-happen-clause-err
returns-in_err-happen-clause-err g c =
    let p = err_from_is_err_and c.from_residual.result c.from_residual.ensures.1 in
    let x = leased c.args.self.now in
    let tells = g.D.Disk.tells in
    let before = behind_lease_arm c.args.event (g.D.Disk.counts c.args.disk.now) in
    let after = g.D.Disk.counts c.happen.new.disk in
    let holds = IsInStep tells (g.D.Disk.view c.happen.new.disk) c.happen.new.self in
    handed_on c.from_residual.result c.in_err-happen.field-0.0 (λ f. RefusesLease f tells x.world before after (λ fate. step fate c.args.event x) (ended_with f c.happen.new.self) holds) (p.1 ∙ ap Err p.2)
    (refused_first c.in_err-happen.field-0.0 tells x.world before after (λ fate. happens fate c.args.event x) c.happen.new.self holds c.in_err-happen.ensures.comes.err)

pub returns-in_err-happen-clause-counts : goal.returns-in_err-happen-clause-counts
returns-in_err-happen-clause-counts g c =
    let p = err_from_is_err_and c.from_residual.result c.from_residual.ensures.1 in
    counts_handed c.happen.result c.from_residual.result c.in_err-happen.field-0.0 c.args.event (g.D.Disk.counts c.args.disk.now) (g.D.Disk.counts c.happen.new.disk) c.in_err-happen.was (p.1 ∙ ap Err p.2) c.happen.ensures.counts

pub returns-clause-ok : goal.returns-clause-ok
returns-clause-ok g c =
    let x = leased c.args.self.now in
    all_begin c.begin_queued.result g.D.Disk.tells x.world (behind_lease_arm c.args.event (g.D.Disk.counts c.args.disk.now)) (g.D.Disk.counts c.happen.new.disk) (λ fate. happens fate c.args.event x) c.happen.new.self c.begin_queued.new.self
    c.in_ok-happen.ensures.comes.ok c.begin_queued.ensures.same c.begin_queued.ensures.ok

pub returns-clause-clock : goal.returns-clause-clock
returns-clause-clock g c = clock_behind c.begin_queued.result (ticks c.args.event) (leased c.args.self.now) c.happen.new.self c.begin_queued.new.self c.in_ok-happen.ensures.comes.clock c.begin_queued.ensures.ok

pub returns-clause-in_step : goal.returns-clause-in_step
returns-clause-in_step g c = stays_in_step c.begin_queued.result g.D.Disk.tells (g.D.Disk.view c.happen.new.disk) c.happen.new.self c.begin_queued.new.self c.begin_queued.ensures.same c.in_ok-happen.ensures.comes.in_step

pub returns-clause-err : goal.returns-clause-err
returns-clause-err g c =
    let x = leased c.args.self.now in
    not_all_begin c.begin_queued.result g.D.Disk.tells (g.D.Disk.view c.happen.new.disk) x.world (behind_lease_arm c.args.event (g.D.Disk.counts c.args.disk.now)) (g.D.Disk.counts c.happen.new.disk) (λ fate. happens fate c.args.event x)
    c.happen.new.self c.begin_queued.new.self c.in_ok-happen.ensures.comes.ok c.begin_queued.ensures.same c.in_ok-happen.ensures.comes.in_step c.begin_queued.ensures.err

pub returns-clause-counts : goal.returns-clause-counts
returns-clause-counts g c =
    counts_queued c.happen.result c.in_ok-happen.field-0 c.begin_queued.result c.args.event (g.D.Disk.counts c.args.disk.now) (g.D.Disk.counts c.happen.new.disk) (begin_queued clerks (under_way c.happen.new.self)) c.begin_queued.new.self
    c.in_ok-happen.was c.begin_queued.ensures.err c.happen.ensures.counts
