use Rattle.std.proofs.Common.{◌≡◌, ◌∙◌, ap, sym, subst, reverse, Result, Ok, Err}
use Rattle.std.specs.Prelude.{OnOk, OnErr}
use Rattle.std.proofs.lemmas.Result.{on_ok_weaker}
use Rattle.ec_base.specs.SortedLaws.{first}
use Rattle.ec_base.specs.Tables.{Table}
use Rattle.ec_volume.specs.Update.{operands}
use Rattle.ec_cache.specs.declared.state.Held.{Held}
use Rattle.ec_cache.specs.Cache as cache
use Rattle.ec_cache.specs.Marks.{marks}
use Rattle.ec_cache.specs.Held.{IsCache, changed_in}
use Rattle.ec_cache.proofs.Kept.{Slots}
use Rattle.ec_cache.proofs.Changing.{change-held, kept-changed}
use Rattle.ec_cache.proofs.cache.Cache.change.Goals as goal

-- the cache is as before, or changed
either-kept : {A E : Type 0} (r : Result A E) (old new : Table Held) (changed : Table Held) (room : Slots) → OnOk r (reverse new ≡ changed) → OnErr r (new ≡ old) → IsCache changed room → IsCache (reverse old) room → IsCache (reverse new) room
either-kept (Ok a) old new changed room ok err k c = subst (λ es. IsCache es room) (sym ok) k
either-kept (Err e) old new changed room ok err k c = subst (λ es. IsCache (reverse es) room) (sym err) c

pub invariant_of-self : goal.invariant_of-self
invariant_of-self c =
    let es = reverse c.self.inside.tokens.entries in
    let u = c.args.update.now in
    let ids = c.deref.ensures.value ∙ c.in_ok-ids.ensures in
    either-kept c.change.result c.self.inside.tokens.entries c.change.new.tokens.entries (changed_in u (operands u) es) c.self.inside.slots
    (on_ok_weaker c.change.result (λ e. e ∙ ap (λ xs. changed_in u xs es) ids) c.change.ensures.ok)
    c.change.ensures.err
    (kept-changed u (cache.images_held c.args.self.now) (operands u) es c.self.inside.slots c.requires.sound (first _ _ c.requires.sound) c.requires.fits (λ y m. ap (λ k. cache.images_held k y) c.self.view_is) c.self.invariant)
    c.self.invariant

pub returns-clause-ok : goal.returns-clause-ok
returns-clause-ok c =
    let es = reverse c.self.inside.tokens.entries in
    let u = c.args.update.now in
    let ids = c.deref.ensures.value ∙ c.in_ok-ids.ensures in
    on_ok_weaker c.change.result
    (λ e. (λ i. record { capacity = c.self.inside.capacity; held = (e ∙ ap (λ xs. changed_in u xs es) ids) i; lasts = c.self.inside.lasts; limits = marks c.self.inside.slots })
    ∙ sym (change-held u (operands u) (record { capacity = c.self.inside.capacity; held = es; lasts = c.self.inside.lasts; limits = marks c.self.inside.slots }))
    ∙ ap (cache.change u (operands u)) c.self.view_is)
    c.change.ensures.ok
