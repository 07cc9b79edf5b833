use Rattle.std.proofs.Common.{◌≡◌, ◌∙◌, ◌-◌, ap, sym, not, length, reverse, take}
use Rattle.std.proofs.lemmas.List.{take-map, length-reverse}
use Rattle.ec_base.specs.Tables.{keys}
use Rattle.ec_volume.specs.Update.{member}
use Rattle.ec_cache.specs.declared.state.CacheState.{CacheState}
use Rattle.ec_cache.specs.Cache.{evicted, evict}
use Rattle.ec_cache.specs.Numbers.{numbers}
use Rattle.ec_cache.specs.Held.{unpinned, apart_from}
use Rattle.ec_cache.specs.Marks.{marks}
use Rattle.ec_cache.proofs.Marks.{marks-filter}
use Rattle.ec_cache.proofs.Kept.{moved, kept-filter}
use Rattle.ec_cache.proofs.Lists.{keys-numbers}
use Rattle.ec_cache.proofs.cache.Cache.evict.Goals as goal
use Rattle.ec_cache.proofs.cache.Cache.evict.Goals.{After-give_all_up}

inside : (c : After-give_all_up) → CacheState
inside c = record { capacity = c.self.inside.capacity; held = reverse c.self.inside.tokens.entries; lasts = c.self.inside.lasts; limits = marks c.self.inside.slots }

gone-is : (c : After-give_all_up) → c.in_ok-gone.gone.items ≡ numbers (evicted c.args.pinned.now (inside c))
unfolding inside
gone-is c =
    let es = reverse c.self.inside.tokens.entries in
    let free = unpinned c.args.pinned.now es in
    let excess = c.saturating_sub-excess.ensures ∙ ap (λ n. n - c.self.inside.capacity) (c.len.ensures.len ∙ sym (length-reverse c.self.inside.tokens.entries)) in
    c.in_ok-gone.ensures ∙ ap (λ n. take n (numbers free)) excess ∙ take-map (λ e. (e.0, (e.1).number)) (length es - c.self.inside.capacity) free

keys-are : (c : After-give_all_up) → keys c.deref.result.now ≡ keys (evicted c.args.pinned.now (inside c))
keys-are c = ap keys (c.deref.ensures.value ∙ gone-is c) ∙ keys-numbers (evicted c.args.pinned.now (inside c))

pub invariant_of-self : goal.invariant_of-self
invariant_of-self c =
    moved c.give_all_up.ensures.tokens c.give_all_up.ensures.slots
    (kept-filter (λ x. not (member x (keys c.deref.result.now))) (reverse c.self.inside.tokens.entries) c.self.inside.slots c.self.invariant)

pub returns-clause-gone : goal.returns-clause-gone
unfolding inside
returns-clause-gone c = gone-is c ∙ ap (λ k. numbers (evicted c.args.pinned.now k)) c.self.view_is

pub returns-clause-ok : goal.returns-clause-ok
unfolding inside
returns-clause-ok c =
    let gone = keys (evicted c.args.pinned.now (inside c)) in
    let held = c.give_all_up.ensures.tokens ∙ ap (λ ks. apart_from ks (reverse c.self.inside.tokens.entries)) (keys-are c) in
    let slots = c.give_all_up.ensures.slots ∙ ap (λ ks. apart_from ks c.self.inside.slots) (keys-are c) in
    let limits = ap marks slots ∙ marks-filter (λ x. not (member x gone)) c.self.inside.slots in
    (λ i. record { capacity = c.self.inside.capacity; held = held i; lasts = c.self.inside.lasts; limits = limits i }) ∙ ap (evict c.args.pinned.now) c.self.view_is
