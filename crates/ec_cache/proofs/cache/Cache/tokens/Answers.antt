use Rattle.std.proofs.Common.{◌≡◌, ◌∙◌, ap, reverse}
use Rattle.std.proofs.lemmas.Result.{IfOk-weaker}
use Rattle.ec_cache.specs.Cache as cache
use Rattle.ec_cache.specs.Held.{holds_by}
use Rattle.ec_cache.proofs.Lists.{holds-by_key}
use Rattle.ec_cache.proofs.cache.Cache.tokens.Goals as goal

pub returns : goal.returns
returns c =
    let es = reverse c.self.inside.tokens.entries in
    IfOk-weaker c.holds_by.result
    (λ list. list.items ≡ holds_by c.items.result.now es)
    (λ list. list.items ≡ cache.tokens c.args.self.now)
    (λ list is. is ∙ ap (λ ss. holds_by ss es) c.items.ensures.value ∙ holds-by_key es c.self.inside.slots c.self.invariant ∙ ap cache.tokens c.self.view_is)
    c.holds_by.ensures
