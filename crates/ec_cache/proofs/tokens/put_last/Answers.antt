use Rattle.std.proofs.Common.{◌∙◌, ap, reverse, nat_eq}
use Rattle.lru.specs.LruCache.{promoted}
use Rattle.ec_cache.proofs.Order.{promoted-reverse}
use Rattle.ec_cache.proofs.tokens.put_last.Goals as goal

pub returns-then-len-gt0-clause-order : goal.returns-then-len-gt0-clause-order
returns-then-len-gt0-clause-order c =
    ap (λ k. reverse k.entries) c.promote.ensures.entries
    ∙ ap (λ k. reverse (promoted (nat_eq k) c.args.tokens.now.entries)) c.get.ensures.value
    ∙ promoted-reverse c.args.obj c.args.tokens.now.entries c.len.ensures.valid.0
