use Rattle.std.proofs.Common.{refl, reverse}
use Rattle.ec_cache.proofs.Kept.{moved, kept-without, kept-lowered, kept-clear}
use Rattle.ec_cache.proofs.cache.Cache.lower.Goals as goal

pub invariant_of-self : goal.invariant_of-self
invariant_of-self c = moved c.give_up.ensures c.remove.ensures.slots (kept-without c.args.obj (reverse c.self.inside.tokens.entries) c.self.inside.slots c.self.invariant)

pub invariant_of-self-else-eq : goal.invariant_of-self-else-eq
invariant_of-self-else-eq c =
    let es = reverse c.self.inside.tokens.entries in
    let slots = c.self.inside.slots in
    let cleared = kept-clear c.args.obj es slots c.clear.new.slots c.clear.ensures.there c.clear.ensures.absent c.self.invariant in
    moved c.weaken.ensures refl (kept-lowered c.args.obj c.args.to es c.clear.new.slots cleared)
