use Rattle.std.proofs.Common.{◌∙◌, ap, sym, reverse}
use Rattle.std.specs.Prelude.{option_copied}
use Rattle.ec_cache.proofs.Kept.{found-within}
use Rattle.ec_cache.proofs.cache.Cache.image.Goals as goal

pub returns-in-Some-clause-within : goal.returns-in-Some-clause-within
returns-in-Some-clause-within c =
    found-within c.args.obj c.in-Some.held.now (reverse c.self.inside.tokens.entries) c.self.inside.slots c.self.invariant (sym c.held_at.ensures ∙ ap option_copied c.in-Some.is)
