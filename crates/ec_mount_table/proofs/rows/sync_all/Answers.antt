use Rattle.std.proofs.Common.{Option, None, Result}
use Rattle.ec_lock.specs.declared.types.Pass.{Pass}
use Rattle.ec_lock.specs.declared.types.TracedLock.{TracedLock}
use Rattle.ec_outs.specs.Outs.{Reply}
use Rattle.ec_plain.specs.declared.call.Call.{Call}
use Rattle.ec_clerknode.specs.declared.fault.NodeFault.{NodeFault}
use Rattle.ec_clerknode.specs.declared.shared.SharedClerk.{SharedClerk}
use Rattle.ec_clerknode.specs.declared.state.Node.{Node}
use Rattle.ec_clerknode.specs.declared.step.Step.{Step}
use Rattle.ec_mounts.specs.declared.part.Part.{Part}
use Rattle.ec_mount_table.proofs.Gathering.{sync_came}
use Rattle.ec_mounts.proofs.Made.{seated_behind}
use Rattle.ec_mounts.proofs.Seats.{same_length, seated_at}
use Rattle.ec_mount_table.proofs.rows.sync_all.Goals as goal

pub run_parts-requires-after_bounds : goal.run_parts-requires-after_bounds
run_parts-requires-after_bounds g c κs within i d l =
    let lock_of : SharedClerk g.row.L.Denot g.row.L-Bell.Denot → TracedLock (Node g.row.L.Denot) Step = λ k. k.lock in
    let pass_of : Part g.row.L.Denot g.row.L-Bell.Denot → Pass (Node g.row.L.Denot) Step = λ p. p.pass in
    seated_at lock_of pass_of c.args.clerks.now c.args.parts.now i d c.requires.seated l

pub returns-clause-seated : goal.returns-clause-seated
returns-clause-seated g c =
    let lock_of : SharedClerk g.row.L.Denot g.row.L-Bell.Denot → TracedLock (Node g.row.L.Denot) Step = λ k. k.lock in
    let pass_of : Part g.row.L.Denot g.row.L-Bell.Denot → Pass (Node g.row.L.Denot) Step = λ p. p.pass in
    let asked_of : Part g.row.L.Denot g.row.L-Bell.Denot → Option Call = λ p. p.asked in
    let met_of : Part g.row.L.Denot g.row.L-Bell.Denot → Option (Result Reply NodeFault) = λ p. p.met in
    seated_behind lock_of pass_of asked_of met_of c.args.clerks.now None c.args.parts.now c.run_parts.new.parts c.run_parts.auto.parts c.run_parts.ensures (same_length lock_of pass_of c.args.clerks.now c.args.parts.now c.requires.seated)

pub returns-clause-came : goal.returns-clause-came
returns-clause-came g c =
    let pass_of : Part g.row.L.Denot g.row.L-Bell.Denot → Pass (Node g.row.L.Denot) Step = λ p. p.pass in
    let met_of : Part g.row.L.Denot g.row.L-Bell.Denot → Option (Result Reply NodeFault) = λ p. p.met in
    sync_came pass_of met_of c.args.parts.now c.run_parts.new.parts c.run_parts.auto.parts (λ i d l. (c.run_parts.ensures i d l).1) c.gather.result c.gather.ensures
