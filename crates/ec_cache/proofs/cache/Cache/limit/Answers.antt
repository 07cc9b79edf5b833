use Rattle.std.proofs.Common.{◌∙◌, ap, refl, reverse, Some, is_some}
use Rattle.ec_base.specs.Tables.{at}
use Rattle.ec_cache.proofs.Kept.{moved, kept-slot}
use Rattle.ec_cache.proofs.cache.Cache.limit.Goals as goal

pub invariant_of-self : goal.invariant_of-self
invariant_of-self c =
    let there = c.self.invariant.slots c.args.obj ∙ ap (λ k. is_some (at c.args.obj k.held)) c.self.view_is ∙ c.requires in
    moved refl c.mark.ensures.slots (kept-slot c.args.obj (Some c.weaker-limit.result) (reverse c.self.inside.tokens.entries) c.self.inside.slots there c.self.invariant)
