use Rattle.std.proofs.Common.{◌≡◌, ◌∙◌, ap, sym, refl, reverse}
use Rattle.ec_base.specs.Tables.{keys}
use Rattle.ec_cache.specs.Cache as cache
use Rattle.ec_cache.specs.Marks.{marks}
use Rattle.ec_cache.proofs.Kept.{moved, kept-map}
use Rattle.ec_cache.proofs.Lists.{marks-emptied, kept-emptied, unnumbered-all}
use Rattle.ec_cache.proofs.cache.Cache.new_epoch.Goals as goal
use Rattle.ec_cache.proofs.cache.Cache.new_epoch.Goals.{After-drop-self-inside-2}

-- the tokens stay without numbers
zeroed : (c : After-drop-self-inside-2) → reverse c.unnumber.new.tokens.entries ≡ cache.numberless (reverse c.self.inside.tokens.entries)
zeroed c =
    c.unnumber.ensures
    ∙ unnumbered-all (keys c.deref.result.now) (reverse c.self.inside.tokens.entries) (ap keys (c.deref.ensures.value ∙ c.in_ok-held.ensures ∙ sym (ap cache.tokens c.self.view_is)))

pub invariant_of-self : goal.invariant_of-self
invariant_of-self c =
    moved (zeroed c) c.in_ok-slots.ensures
    (kept-map (λ e. (e.0, record (e.1) { number = 0 })) (λ e. refl) (λ e t. t) (reverse c.self.inside.tokens.entries) _ (kept-emptied (reverse c.self.inside.tokens.entries) c.self.inside.slots c.self.invariant))

pub returns-clause-ok : goal.returns-clause-ok
returns-clause-ok c =
    let limits = ap marks c.in_ok-slots.ensures ∙ marks-emptied c.self.inside.slots in
    (λ i. record { capacity = c.self.inside.capacity; held = zeroed c i; lasts = c.new.ensures i; limits = limits i }) ∙ ap cache.new_epoch c.self.view_is
