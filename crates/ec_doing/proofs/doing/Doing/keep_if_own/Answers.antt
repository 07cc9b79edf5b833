use Rattle.std.specs.Prelude.{nat_le}
use Rattle.std.proofs.lemmas.Bool.{le-leb}
use Rattle.ec_protocol.specs.Clerk as clerk
use Rattle.ec_doing.specs.Seen.{doing_of}
use Rattle.ec_doing.proofs.Steps.{when_true}
use Rattle.ec_doing.proofs.doing.Doing.keep_if_own.Goals as goal

pub returns-in_ok-keep_push : goal.returns-in_ok-keep_push
returns-in_ok-keep_push c = λ ws.
    let d = doing_of ws c.args.self.now in
    when_true (nat_le d.clerk.log.first c.args.op) (clerk.keep_push c.args.op d) d (doing_of ws c.keep_push.new.self) (le-leb _ _ (rw c.op.view_is at (rw c.first_of_session.ensures at c.if-first_of_session-op.true))) (c.in_ok-keep_push.ensures ws)
