use Rattle.std.proofs.Common.{◌<◌, map, length, Option, Some, Result, refl, sym, ◌∙◌, subst, arith}
use Rattle.ec_lock.specs.declared.types.Pass.{Pass}
use Rattle.ec_lock.specs.declared.types.TracedLock.{TracedLock}
use Rattle.ec_outs.specs.Outs.{Reply}
use Rattle.ec_plain.specs.declared.call.Call.{Call}
use Rattle.ec_clerknode.specs.declared.fault.NodeFault.{NodeFault}
use Rattle.ec_clerknode.specs.declared.shared.SharedClerk.{SharedClerk}
use Rattle.ec_clerknode.specs.declared.state.Node.{Node}
use Rattle.ec_clerknode.specs.declared.step.Step.{Step}
use Rattle.ec_mounts.specs.declared.part.Part.{Part}
use Rattle.ec_mounts.specs.Mounts.{AreSeated, MadeAt}
use Rattle.ec_mounts.proofs.Made.{made_at, seated_behind, was_met}
use Rattle.ec_mounts.proofs.Seats.{any_of, same_length, seated_at}
use Rattle.ec_mounts.proofs.calling.make_at.Goals as goal

pub run_parts-requires-after_bounds : goal.run_parts-requires-after_bounds
run_parts-requires-after_bounds g c κs within i d l =
    let lock_of : SharedClerk g.row.L.Denot g.row.L-Bell.Denot → TracedLock (Node g.row.L.Denot) Step = λ k. k.lock in
    let pass_of : Part g.row.L.Denot g.row.L-Bell.Denot → Pass (Node g.row.L.Denot) Step = λ p. p.pass in
    seated_at lock_of pass_of c.args.clerks.now c.ask.new.parts i d (subst (AreSeated (map lock_of c.args.clerks.now)) (sym c.ask.ensures.passes) c.requires.seated) l

pub unreachable-requires : goal.unreachable-requires
unreachable-requires g c =
    let lock_of : SharedClerk g.row.L.Denot g.row.L-Bell.Denot → TracedLock (Node g.row.L.Denot) Step = λ k. k.lock in
    let pass_of : Part g.row.L.Denot g.row.L-Bell.Denot → Pass (Node g.row.L.Denot) Step = λ p. p.pass in
    let asked_of : Part g.row.L.Denot g.row.L-Bell.Denot → Option Call = λ p. p.asked in
    let met_of : Part g.row.L.Denot g.row.L-Bell.Denot → Option (Result Reply NodeFault) = λ p. p.met in
    let inside : c.args.place < length c.ask.new.parts = omega (arith, c.requires.place, c.ask.auto.parts) in
    let d = any_of c.ask.new.parts c.args.place inside in
    was_met lock_of pass_of asked_of met_of c.args.clerks.now (Some c.args.place) c.ask.new.parts c.run_parts.new.parts c.run_parts.auto.parts c.run_parts.ensures c.args.place c.args.call d refl inside (c.ask.ensures.asked d) (sym (c.take_met.ensures.met d) ∙ c.in_default.is)

pub returns-clause-seated : goal.returns-clause-seated
returns-clause-seated g c =
    let lock_of : SharedClerk g.row.L.Denot g.row.L-Bell.Denot → TracedLock (Node g.row.L.Denot) Step = λ k. k.lock in
    let pass_of : Part g.row.L.Denot g.row.L-Bell.Denot → Pass (Node g.row.L.Denot) Step = λ p. p.pass in
    let asked_of : Part g.row.L.Denot g.row.L-Bell.Denot → Option Call = λ p. p.asked in
    let met_of : Part g.row.L.Denot g.row.L-Bell.Denot → Option (Result Reply NodeFault) = λ p. p.met in
    let are = subst (AreSeated (map lock_of c.args.clerks.now)) (sym c.ask.ensures.passes) c.requires.seated in
    subst (AreSeated (map lock_of c.args.clerks.now)) (sym c.take_met.ensures.passes)
    (seated_behind lock_of pass_of asked_of met_of c.args.clerks.now (Some c.args.place) c.ask.new.parts c.run_parts.new.parts c.run_parts.auto.parts c.run_parts.ensures (same_length lock_of pass_of c.args.clerks.now c.ask.new.parts are))

pub returns-clause-made : goal.returns-clause-made
returns-clause-made g c =
    let lock_of : SharedClerk g.row.L.Denot g.row.L-Bell.Denot → TracedLock (Node g.row.L.Denot) Step = λ k. k.lock in
    let pass_of : Part g.row.L.Denot g.row.L-Bell.Denot → Pass (Node g.row.L.Denot) Step = λ p. p.pass in
    let asked_of : Part g.row.L.Denot g.row.L-Bell.Denot → Option Call = λ p. p.asked in
    let met_of : Part g.row.L.Denot g.row.L-Bell.Denot → Option (Result Reply NodeFault) = λ p. p.met in
    let call = c.args.call in
    let met = c.in-Some.met in
    let inside : c.args.place < length c.ask.new.parts = omega (arith, c.requires.place, c.ask.auto.parts) in
    let made = made_at lock_of pass_of asked_of met_of c.args.clerks.now (Some c.args.place) c.ask.new.parts c.run_parts.new.parts c.run_parts.auto.parts c.run_parts.ensures c.args.place call met refl inside c.ask.ensures.asked c.in-Some.ensures.met in
    subst (λ l. MadeAt c.args.place call l (map pass_of c.take_met.new.parts) met) c.ask.ensures.passes
    (subst (λ l. MadeAt c.args.place call (map pass_of c.ask.new.parts) l met) (sym c.take_met.ensures.passes) made)
