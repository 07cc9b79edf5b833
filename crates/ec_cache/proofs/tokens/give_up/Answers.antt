use Rattle.std.proofs.Common.{◌∙◌, ap, sym, reverse, nat_eq}
use Rattle.std.specs.Map.{remove_entry}
use Rattle.ec_cache.proofs.Order.{without-reverse}
use Rattle.ec_cache.proofs.tokens.give_up.Goals as goal

pub returns-then-len-gt0 : goal.returns-then-len-gt0
returns-then-len-gt0 c =
    ap (λ k. reverse k.entries) c.pop.ensures.entries
    ∙ ap (λ k. reverse (remove_entry (nat_eq k) c.args.tokens.now.entries)) c.get.ensures.value
    ∙ sym (without-reverse c.args.obj c.args.tokens.now.entries c.len.ensures.valid.0)
