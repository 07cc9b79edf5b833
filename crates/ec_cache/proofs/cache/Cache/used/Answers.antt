use Rattle.std.proofs.Common.{refl, reverse}
use Rattle.ec_cache.proofs.Kept.{moved, kept-used}
use Rattle.ec_cache.proofs.cache.Cache.used.Goals as goal

pub invariant_of-self : goal.invariant_of-self
invariant_of-self c = moved c.put_last.ensures.order refl (kept-used c.args.obj (reverse c.self.inside.tokens.entries) c.self.inside.slots c.self.invariant)
