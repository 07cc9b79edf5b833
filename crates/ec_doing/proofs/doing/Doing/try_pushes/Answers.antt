use Rattle.std.proofs.Common.{refl, [], ◌∷◌}
use Rattle.ec_protocol.specs.Clerk as clerk
use Rattle.ec_doing.specs.Seen.{doing_of}
use Rattle.ec_doing.proofs.Steps.{walk_next}
use Rattle.ec_doing.proofs.doing.Doing.try_pushes.Goals as goal

pub pushes-preserved : goal.pushes-preserved
pushes-preserved c = λ ws. walk_next clerk.try_pushes (λ n d. clerk.try_pushes (n ∷ []) d) (λ x xs d. refl) c.args.pushes.now c.pushes.op-index c.op-item.result (doing_of ws c.pushes.self) (doing_of ws c.try_push.new.self) _ c.pushes-test.true c.op-item.is (c.in_ok-try_push.ensures ws) (c.pushes.invariant ws)
