use Rattle.std.proofs.Common.{◌∙◌, ap}
use Rattle.ec_protocol.specs.Clerk as clerk
use Rattle.ec_doing.proofs.Steps.{on_ok, evicted_back, above_leb}
use Rattle.ec_doing.proofs.doing.Doing.evict.Goals as goal

pub returns : goal.returns
returns c = on_ok c.send_backs.result (λ p ws. evicted_back ws c.args.self.now c.evict.new.self c.deref.result.now c.deref-2.result.now _ (above_leb _ _ _ _ c.len.ensures c.capacity.ensures c.if-len-capacity.false) (c.deref.ensures.value ∙ c.in_ok-pinned.ensures ∙ ap clerk.on_objects c.undurable.ensures.value) (c.deref-2.ensures.value ∙ c.in_ok-gone.ensures.gone) c.in_ok-gone.ensures.ok (p ws)) c.send_backs.ensures
