use Rattle.std.proofs.Common.{refl}
use Rattle.ec_base.specs.declared.ids.Hold.TheVariants.{Free}
use Rattle.ec_doing.specs.Seen.{doing_of, send_numbers, send_back}
use Rattle.ec_doing.proofs.Steps.{walk_next}
use Rattle.ec_doing.proofs.doing.Doing.send_backs.Goals as goal

pub gone-preserved : goal.gone-preserved
gone-preserved c = λ ws. walk_next send_numbers (λ x d. send_back x.0 x.1 Free d) (λ x xs d. refl) c.args.gone.now c.gone.obj-index c.gone-item.result (doing_of ws c.gone.self) (doing_of ws c.send_back.new.self) _ c.gone-test.true c.gone-item.is (c.in_ok-send_back.ensures ws) (c.gone.invariant ws)
