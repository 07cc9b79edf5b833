use Rattle.std.proofs.Common.{Err, ap, ◌∙◌}
use Rattle.std.proofs.lemmas.Result.{err_from_is_err_and}
use Rattle.ec_protocol.specs.World.{clerks}
use Rattle.ec_lease_machine.specs.Leases.{begin_queued}
use Rattle.ec_lease.specs.Steps.{QueuesNot}
use Rattle.ec_lease.specs.Worlds.{ended_with, under_way}
use Rattle.ec_lease.proofs.Queued.{handed_on, keeps_two}
use Rattle.ec_lease.proofs.Rounds.{begins_next, begins_not}
use Rattle.ec_lease.proofs.world.LeaseWorld.begin_queued.Goals as goal

pub returns-in_err-begin_of-clause-err : goal.returns-in_err-begin_of-clause-err
returns-in_err-begin_of-clause-err c =
    let p = err_from_is_err_and c.from_residual.result c.from_residual.ensures.1 in
    let q = begin_queued clerks (under_way c.args.self.now) in
    handed_on c.from_residual.result c.in_err-begin_of.field-0.0 (λ f. QueuesNot f q (ended_with f c.begin_of.new.self)) (p.1 ∙ ap Err p.2)
    (begins_not c.in_err-begin_of.field-0.0 c.clerks.number c.clerks.self c.begin_of.new.self q c.clerks-test.true c.clerks.invariant.begins c.in_err-begin_of.ensures.err)

pub clerks-preserved : goal.clerks-preserved
clerks-preserved c = record {
  begins = begins_next c.clerks.number c.clerks.self c.begin_of.new.self (begin_queued clerks (under_way c.args.self.now)) c.clerks-test.true c.in_ok-begin_of.ensures.ok c.clerks.invariant.begins;
  same = keeps_two c.args.self.now c.clerks.self c.begin_of.new.self c.clerks.invariant.same c.in_ok-begin_of.ensures.same;
}
