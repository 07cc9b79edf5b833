use Rattle.std.proofs.Common.{◌≡◌, IfSome, refl, sym, subst}
use Rattle.ec_lock.specs.PassViews.{front, numbers}
use Rattle.ec_lock.specs.Steps.{Member}
use Rattle.ec_lock.proofs.Numbers.{member_left}
use Rattle.ec_servernode.specs.TurnSteps.{IsServerPass}
use Rattle.ec_servernode.proofs.Lists.{prefix_self}
use Rattle.ec_serve.proofs.threads.threads.end_warden.Goals as goal

pub join-requires-clause-other : goal.join-requires-clause-other
join-requires-clause-other g c =
    subst (λ s. IsServerPass g.K.Keeper.kept s.lock c.join-back.result) (subst (λ o. IfSome o (λ w. w.handle.promise.0.value ≡ c.args.connections.now.server.now)) c.in-Some.is c.requires.warden) c.join-back.ensures

pub returns-in-Some-clause-kept : goal.returns-in-Some-clause-kept
returns-in-Some-clause-kept g c = λ n m. subst (Member n) (sym c.join.ensures.same.0) (member_left n (numbers c.args.pass.now.pass) (numbers c.join-back.result.pass) m)

pub returns-in_default-clause-later : goal.returns-in_default-clause-later
returns-in_default-clause-later g c = prefix_self (front c.args.pass.now.pass)
