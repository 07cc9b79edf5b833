use Rattle.std.proofs.Common.{arith}
use Rattle.ec_doing.specs.Seen.{doing_of}
use Rattle.ec_doing.proofs.Ends.{session_ended}
use Rattle.ec_doing.proofs.Steps.{on_ok}
use Rattle.ec_doing.proofs.doing.Doing.take_ended.Goals as goal

pub returns : goal.returns
returns c = on_ok c.hello.result (λ p ws. session_ended ws c.args.self.now c.args.window.now c.in_ok-lost.lost.items c.lose.new.self.log c.lose.new.self.owed (doing_of ws c.forget_session.new.self) (doing_of ws c.emit.new.self) (doing_of ws c.hello.new.self) (omega arith) c.in_ok-lost.ensures.lost c.in_ok-lost.ensures.log c.in_ok-lost.ensures.owed (c.in_ok-forget_session.ensures ws) (rw c.of.ensures at (c.in_ok-emit.ensures ws)) (p ws)) c.hello.ensures
