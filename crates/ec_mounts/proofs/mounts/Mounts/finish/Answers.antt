use Rattle.std.proofs.Common.{◌<◌, ◌∙◌, Option, None, Some, IfNone, map, length, sym, subst, append-nil, arith}
use Rattle.ec_lock.specs.PassViews.{front}
use Rattle.ec_lock.specs.declared.types.Pass.{Pass}
use Rattle.ec_lock.specs.declared.types.TracedLock.{TracedLock}
use Rattle.ec_clerknode.specs.declared.shared.SharedClerk.{SharedClerk}
use Rattle.ec_clerknode.specs.declared.state.Node.{Node}
use Rattle.ec_clerknode.specs.declared.step.Step.{Step}
use Rattle.ec_mounts.specs.Mounts.{AreSeated}
use Rattle.ec_mounts.specs.declared.part.Part.{Part}
use Rattle.ec_mounts.proofs.Built.{map_push, none_where}
use Rattle.ec_mounts.proofs.Seats.{IsNothing, any_of, same_length, seated_popped}
use Rattle.ec_mounts.proofs.mounts.Mounts.finish.Goals as goal

holds_none : {A P : Type 0} (r : Option A) → P → IfNone r P
holds_none None p = p
holds_none (Some x) p = tt

pub returns-in_err-clerk-clause-seated : goal.returns-in_err-clerk-clause-seated
returns-in_err-clerk-clause-seated g c =
    let lock_of : SharedClerk g.row.L.Denot g.row.L-Bell.Denot → TracedLock (Node g.row.L.Denot) Step = λ k. k.lock in
    let pass_of : Part g.row.L.Denot g.row.L-Bell.Denot → Pass (Node g.row.L.Denot) Step = λ p. p.pass in
    let was = c.args.self.now in
    subst (λ l. AreSeated (map lock_of l) (map pass_of was.parts.items)) (c.in_err-clerk.ensures.items ∙ append-nil c.pop.new.self.items) c.requires.seated

pub returns-in_err-clerk-clause-none : goal.returns-in_err-clerk-clause-none
returns-in_err-clerk-clause-none g c =
    let lock_of : SharedClerk g.row.L.Denot g.row.L-Bell.Denot → TracedLock (Node g.row.L.Denot) Step = λ k. k.lock in
    let pass_of : Part g.row.L.Denot g.row.L-Bell.Denot → Pass (Node g.row.L.Denot) Step = λ p. p.pass in
    let was = c.args.self.now in
    let none = none_where was.parts.items (length was.clerks.items) (sym (same_length lock_of pass_of was.clerks.items was.parts.items c.requires.seated)) (sym was.clerks.ok.0 ∙ c.in_err-clerk.ensures.cases.0) in
    holds_none c.from_residual.result (none, none)

pub unreachable-requires : goal.unreachable-requires
unreachable-requires g c =
    let lock_of : SharedClerk g.row.L.Denot g.row.L-Bell.Denot → TracedLock (Node g.row.L.Denot) Step = λ k. k.lock in
    let pass_of : Part g.row.L.Denot g.row.L-Bell.Denot → Pass (Node g.row.L.Denot) Step = λ p. p.pass in
    let was = c.args.self.now in
    let same = same_length lock_of pass_of was.clerks.items was.parts.items c.requires.seated in
    let inside : 0 < length was.parts.items = omega (arith, same, was.clerks.ok.0, c.in_ok-clerk.ensures.cases) in
    subst IsNothing (sym c.in_default.is ∙ c.pop-2.ensures.value (any_of was.parts.items 0 inside) (omega (arith, inside, was.parts.ok.0))) tt

pub finish-requires-clause-pass : goal.finish-requires-clause-pass
finish-requires-clause-pass g c κs within =
    let lock_of : SharedClerk g.row.L.Denot g.row.L-Bell.Denot → TracedLock (Node g.row.L.Denot) Step = λ k. k.lock in
    let pass_of : Part g.row.L.Denot g.row.L-Bell.Denot → Pass (Node g.row.L.Denot) Step = λ p. p.pass in
    let was = c.args.self.now in
    (seated_popped lock_of pass_of was.clerks.items c.pop.new.self.items was.parts.items c.pop-2.new.self.items c.in_ok-clerk.clerk c.in-Some.part c.in_ok-clerk.ensures.items c.in-Some.ensures.items c.requires.seated).1

pub invariant_of-self : goal.invariant_of-self
invariant_of-self g c = record { many = c.args.self.now.many; few = c.args.self.now.few }

pub returns-clause-seated : goal.returns-clause-seated
returns-clause-seated g c =
    let lock_of : SharedClerk g.row.L.Denot g.row.L-Bell.Denot → TracedLock (Node g.row.L.Denot) Step = λ k. k.lock in
    let pass_of : Part g.row.L.Denot g.row.L-Bell.Denot → Pass (Node g.row.L.Denot) Step = λ p. p.pass in
    let was = c.args.self.now in
    (seated_popped lock_of pass_of was.clerks.items c.pop.new.self.items was.parts.items c.pop-2.new.self.items c.in_ok-clerk.clerk c.in-Some.part c.in_ok-clerk.ensures.items c.in-Some.ensures.items c.requires.seated).0

pub returns-clause-ends : goal.returns-clause-ends
returns-clause-ends g c =
    let lock_of : SharedClerk g.row.L.Denot g.row.L-Bell.Denot → TracedLock (Node g.row.L.Denot) Step = λ k. k.lock in
    let pass_of : Part g.row.L.Denot g.row.L-Bell.Denot → Pass (Node g.row.L.Denot) Step = λ p. p.pass in
    let was = c.args.self.now in
    record {
      lock = c.in_ok-clerk.clerk.lock;
      pass = c.in-Some.part.pass;
      locks_were = map_push lock_of c.pop.new.self.items was.clerks.items c.in_ok-clerk.clerk c.in_ok-clerk.ensures.items;
      passes_were = map_push pass_of c.pop-2.new.self.items was.parts.items c.in-Some.part c.in-Some.ensures.items;
      steps = front c.finish.new.pass;
      later = c.finish.ensures.later;
      finished = c.finish.ensures.finished;
    }
