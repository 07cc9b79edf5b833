use Rattle.std.proofs.Common.{◌∙◌, rules}
use Rattle.std.specs.Prelude.{is_some}
use Rattle.std.proofs.lemmas.Fn.{filter_same}
use Rattle.ec_log.proofs.OfChains.Emptied.{closed-live, closed-held}
use Rattle.ec_log.proofs.chains.held.Held.trim.Goals as goal

pub invariant_of-self : goal.invariant_of-self
invariant_of-self c =
    closed-held c.self.inside.gone c.self.inside.count c.self.inside.slots.items c.retain.new.self.items c.self.invariant
    (filter_same _ (λ s. is_some s.1) _ (λ x b f' k. search rules) _ _ c.retain.ensures.filtered)

pub returns-then-self-len : goal.returns-then-self-len
returns-then-self-len c =
    closed-live c.self.inside.gone c.self.inside.count c.self.inside.slots.items c.retain.new.self.items c.self.invariant
    (filter_same _ (λ s. is_some s.1) _ (λ x b f' k. search rules) _ _ c.retain.ensures.filtered)
    ∙ c.self.view_is
