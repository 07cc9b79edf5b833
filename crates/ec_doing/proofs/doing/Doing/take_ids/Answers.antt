use Rattle.std.proofs.Common.{arith}
use Rattle.ec_doing.specs.Seen.{doing_of}
use Rattle.ec_doing.proofs.Steps.{on_ok, ids_taken}
use Rattle.ec_doing.proofs.doing.Doing.take_ids.Goals as goal

pub returns : goal.returns
returns c = on_ok c.add_ids.result (λ p ws. ids_taken c.args.got c.args.number c.args.first (doing_of ws c.args.self.now) (doing_of ws c.add_ids.new.self) (omega (arith, c.if-got-self.false)) (omega (arith, c.if-self.false, c.ranges)) (p ws)) c.add_ids.ensures
