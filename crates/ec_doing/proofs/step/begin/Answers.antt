use Rattle.std.proofs.Common.{sym, ap, [], ◌+◌, ◌∙◌}
use Rattle.std.proofs.lemmas.Bool.{lt-leb}
use Rattle.ec_doing.specs.Seen.{clerk_with, doing_of}
use Rattle.ec_doing.proofs.Steps.{begun}
use Rattle.ec_doing.proofs.step.begin.Goals as goal

pub add_call-requires : goal.add_call-requires
add_call-requires c = c.requires.next ∙ sym (ap (λ x. x.clerk.calls + 1) (c.clear.ensures []))

pub returns : goal.returns
returns c =
    let ws = c.args.waiting.now.items in
    let vs = c.add_call.new.waiting.items in
    let us = c.settle.new.waiting.items in
    begun c.args.call (clerk_with ws c.args.doing.now) (clerk_with us c.outs.new.self) (doing_of ws c.clear.new.self) (doing_of vs c.add_call.new.doing) (doing_of us c.settle.new.doing) c.outs.result.items (lt-leb _ _ c.requires.below) (c.clear.ensures ws) c.in_ok-add_call.ensures c.in_ok-settle.ensures (c.outs.ensures us)
