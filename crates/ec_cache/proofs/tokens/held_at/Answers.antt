use Rattle.std.proofs.Common.{◌∙◌, sym, ap, nat_eq}
use Rattle.std.specs.Map.{lookup}
use Rattle.ec_cache.proofs.Order.{at-reverse}
use Rattle.ec_cache.proofs.tokens.held_at.Goals as goal

pub returns : goal.returns
returns c = c.peek.ensures ∙ ap (λ k. lookup (nat_eq k) c.args.tokens.now.entries) c.get.ensures.value ∙ sym (at-reverse c.args.obj c.args.tokens.now.entries c.len.ensures.valid.0)
