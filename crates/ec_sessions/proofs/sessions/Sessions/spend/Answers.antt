use Rattle.std.proofs.Common.{◌<◌, ◌∙◌, ap, sym, subst, arith}
use Rattle.std.specs.List.Sorted.{IsStrictlyIncreasing}
use Rattle.ec_sessions.specs.Slots.{unspent_of, spent}
use Rattle.ec_sessions.proofs.Tables.{spent_keeps, slot_found}
use Rattle.ec_sessions.proofs.sessions.Sessions.spend.Goals as goal

pub spend-requires : goal.spend-requires
spend-requires c =
    let found = slot_found c.self.inside.slots.items c.get.result c.index_mut.result.now c.self.invariant (omega (arith, c.get.ensures.below)) c.index_mut.ensures.value in
    subst (λ s. IsStrictlyIncreasing (unspent_of s)) (sym found) (c.self.invariant.slots.rising c.get.result)

pub invariant_of-self : goal.invariant_of-self
invariant_of-self c =
    let within : c.get.result < 16 = omega (arith, c.get.ensures.below) in
    let found = slot_found c.self.inside.slots.items c.get.result c.index_mut.result.now c.self.invariant within c.index_mut.ensures.value in
    spent_keeps c.get.result c.args.id c.spend.new.slot c.self.inside.slots.items c.self.invariant within (c.spend.ensures.slot ∙ ap (spent c.args.id) found)
