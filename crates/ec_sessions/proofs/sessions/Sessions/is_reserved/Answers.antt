use Rattle.std.proofs.Common.{◌∙◌, sym, subst, arith}
use Rattle.std.specs.List.Sorted.{IsStrictlyIncreasing}
use Rattle.ec_sessions.specs.Slots.{unspent_of}
use Rattle.ec_sessions.proofs.Tables.{slot_found}
use Rattle.ec_sessions.proofs.sessions.Sessions.is_reserved.Goals as goal

pub is_reserved-requires : goal.is_reserved-requires
is_reserved-requires c =
    let found = slot_found c.self.inside.slots.items c.get.result c.index.result.now c.self.invariant (omega (arith, c.get.ensures.below)) c.index.ensures in
    subst (λ s. IsStrictlyIncreasing (unspent_of s)) (sym found) (c.self.invariant.slots.rising c.get.result)
