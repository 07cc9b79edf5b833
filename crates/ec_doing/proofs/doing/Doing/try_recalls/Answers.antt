use Rattle.std.proofs.Common.{refl, [], ◌∷◌}
use Rattle.ec_protocol.specs.Clerk as clerk
use Rattle.ec_doing.specs.Seen.{doing_of}
use Rattle.ec_doing.proofs.Steps.{walk_next}
use Rattle.ec_doing.proofs.doing.Doing.try_recalls.Goals as goal

pub recalls-preserved : goal.recalls-preserved
recalls-preserved c = λ ws. walk_next clerk.try_recalls (λ r d. clerk.try_recalls (r ∷ []) d) (λ x xs d. refl) c.args.recalls.now c.recalls.recalled-index c.recalled-item.result (doing_of ws c.recalls.self) (doing_of ws c.try_recall.new.self) _ c.recalls-test.true c.recalled-item.is (c.in_ok-try_recall.ensures ws) (c.recalls.invariant ws)
