use Rattle.std.proofs.Common.{◌≡◌, ◌⊎◌, ℕ, ◌++◌, refl, sym, subst}
use Rattle.std.specs.Prelude.{max}
use mathlib.Core.List.{IsPrefix}
use Rattle.ec_lock.specs.Passes.{answered}
use Rattle.ec_lock.specs.PassViews.{first, front, numbers, raised, IsPassOf}
use Rattle.ec_lock.specs.Steps.{Member, of}
use Rattle.ec_servernode.specs.Run.{number_of}
use Rattle.ec_servernode.specs.TurnSteps.{RunsFrom}
use Rattle.ec_servernode.proofs.Fronts.{still, either}
use Rattle.ec_servernode.proofs.shared.SharedServer.join.Goals as goal

pub join-requires-clause-other : goal.join-requires-clause-other
join-requires-clause-other g c = subst (IsPassOf c.args.self.now.lock) (sym c.into_pass.ensures) c.requires.other.is_pass

pub returns-clause-pass : goal.returns-clause-pass
returns-clause-pass g c =
    let own = c.args.pass.now in
    let pass = own.pass in
    let lock = c.args.self.now.lock in
    let run = subst (λ p. RunsFrom g.K.Keeper.kept (first lock) (front p)) (sym c.into_pass.ensures) c.requires.other.run in
    still g.K.Keeper.kept lock own (record own { pass = c.join.new.pass }) c.requires.pass c.join.ensures.pass c.join.ensures.number
    (either (RunsFrom g.K.Keeper.kept (first lock)) (front pass) (front c.into_pass.result) (front c.join.new.pass) c.join.ensures.front c.requires.pass.run run) (c.join.ensures.own pass.number c.requires.pass.is_pass.1) refl

pub returns-clause-front : goal.returns-clause-front
returns-clause-front g c = subst (λ p. (front c.join.new.pass ≡ front c.args.pass.now.pass) ⊎ (front c.join.new.pass ≡ front p)) c.into_pass.ensures c.join.ensures.front

pub returns-clause-other : goal.returns-clause-other
returns-clause-other g c = subst (λ p. IsPrefix (front p) (front c.join.new.pass)) c.into_pass.ensures c.join.ensures.other

pub returns-clause-others : goal.returns-clause-others
returns-clause-others g c = subst (λ p. (n : ℕ) → Member n (numbers p) → of number_of n (front p) ≡ of number_of n (front c.join.new.pass)) c.into_pass.ensures c.join.ensures.others

pub returns-clause-apart : goal.returns-clause-apart
returns-clause-apart g c = subst (λ p. (n : ℕ) → Member n (numbers c.args.pass.now.pass) → Member n (numbers p) → ⊥) c.into_pass.ensures c.join.ensures.apart

pub returns-clause-same : goal.returns-clause-same
returns-clause-same g c =
    let old = c.args.pass.now.pass in
    let new = c.join.new.pass in
    subst (λ p. (numbers new ≡ numbers old ++ numbers p) × (raised new ≡ max (raised old) (raised p)) × (answered new ≡ max (answered old) (answered p))) c.into_pass.ensures c.join.ensures.same
