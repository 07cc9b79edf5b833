use Rattle.ec_doing.specs.Seen.{doing_of}
use Rattle.ec_doing.proofs.Steps.{on_ok, settled_all}
use Rattle.ec_doing.proofs.step.settle.Goals as goal

pub returns : goal.returns
returns c =
    let ws = c.args.waiting.now.items in
    let vs = c.try_all.new.waiting.items in
    on_ok c.evict.result (λ p. settled_all (doing_of ws c.args.doing.now) (doing_of ws c.serve.new.self) (doing_of vs c.try_all.new.doing) (doing_of vs c.evict.new.self) (c.in_ok-serve.ensures ws) c.in_ok-try_all.ensures (p vs)) c.evict.ensures
