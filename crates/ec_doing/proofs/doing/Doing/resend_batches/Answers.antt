use Rattle.std.proofs.Common.{refl, get_or}
use Rattle.ec_protocol.specs.Clerk as clerk
use Rattle.ec_doing.specs.Seen.{doing_of}
use Rattle.ec_doing.proofs.Steps.{walk_next, same_get}
use Rattle.ec_doing.proofs.doing.Doing.resend_batches.Goals as goal

pub batches-preserved : goal.batches-preserved
batches-preserved c = λ ws.
    let i = c.batches.batch-index in
    let xs = c.args.batches.now in
    walk_next clerk.resend_batches clerk.send_batch (λ x ys d. refl) xs i (get_or xs i 0) (doing_of ws c.batches.self) (doing_of ws c.send_batch.new.self) _ c.batches-test.true (same_get xs i 0 (get_or xs i 0) c.batches-test.true) (c.in_ok-send_batch.ensures ws) (c.batches.invariant ws)
