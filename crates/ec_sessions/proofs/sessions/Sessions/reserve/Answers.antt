use Rattle.std.proofs.Common.{◌≡◌, ◌<◌, ◌∙◌, ap, subst, arith}
use Rattle.std.specs.Result.{OnOk, OnErr}
use Rattle.ec_sessions.specs.Slots.{all_unspent, granted}
use Rattle.ec_sessions.specs.WindowMarks.{times}
use Rattle.ec_sessions.proofs.Tables.{grant_keeps, slot_found}
use Rattle.ec_sessions.proofs.sessions.Sessions.reserve.Goals as goal

pub invariant_of-self : goal.invariant_of-self
invariant_of-self c =
    let within : c.get.result < 16 = omega (arith, c.get.ensures.below) in
    let found = slot_found c.self.inside.slots.items c.get.result c.index_mut.result.now c.self.invariant within c.index_mut.ensures.value in
    grant_keeps c.grant.result c.get.result c.args.first c.grant.new.slot c.self.inside.slots.items
    (subst (λ s. OnOk c.grant.result (c.grant.new.slot ≡ granted c.args.first s)) found c.grant.ensures.ok)
    (subst (λ s. OnErr c.grant.result (c.grant.new.slot ≡ s)) found c.grant.ensures.err)
    c.self.invariant within c.grant.ensures.from_one c.requires.last
    (λ id low high. ap (λ s. times id (all_unspent s)) c.self.view_is ∙ c.requires.new id low high)
