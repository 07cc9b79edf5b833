use Rattle.std.proofs.Common.{rules, ◌≡◌, ◌∙◌, ap, sym, refl, reverse, ℕ, T, Option, None, Some, Bool, true, false, is_some}
use Rattle.std.specs.Ordering.{nat_cmp}
use Rattle.std.specs.Cmp.{nat_cmp_total}
use Rattle.std.specs.FinMap.{is_sorted}
use Rattle.ec_base.specs.Tables.{Table, at, put, without}
use Rattle.ec_base.specs.SortedLaws.{without-put_new}
use Rattle.ec_cache.specs.Marks.{marks}
use Rattle.ec_cache.specs.declared.state.Held.{Held}
use Rattle.ec_cache.proofs.Kept.{moved, a-token, kept-take, unheld}
use Rattle.ec_cache.proofs.cache.Cache.take.Goals as goal

pub invariant_of-self-then-is_some : goal.invariant_of-self-then-is_some
invariant_of-self-then-is_some c =
    let es = reverse c.self.inside.tokens.entries in
    let held : Held = record { hold = c.args.hold; number = c.args.number; image = c.args.image } in
    let there : is_some (at c.args.obj es) ≡ true = search rules in
    moved c.renew.ensures.order (c.clear.ensures.there (c.self.invariant.slots c.args.obj ∙ there))
    (kept-take c.args.obj held es c.self.inside.slots (a-token c.args.obj held c.renew.ensures.id c.requires) c.self.invariant)

pub invariant_of-self-in_default : goal.invariant_of-self-in_default
invariant_of-self-in_default c =
    let es = reverse c.self.inside.tokens.entries in
    let held : Held = record { hold = c.args.hold; number = c.args.number; image = c.args.image } in
    moved c.in_default.ensures.ok c.in_ok-add.ensures.ok
    (kept-take c.args.obj held es c.self.inside.slots (a-token c.args.obj held c.add_with_number.ensures.id c.requires) c.self.invariant)

-- the slot that was added is removed again
restored : {Y : Type 0} (k : ℕ) (v : Y) (old added left : Table Y) → T (is_sorted nat_cmp old) → at k old ≡ None → added ≡ put k v old → left ≡ without k added → left ≡ old
restored k v old added left h none is gone = gone ∙ ap (without k) is ∙ without-put_new nat_cmp nat_cmp_total k v old h none

absent : {X : Type 0} (o : Option X) (b : Bool) → is_some o ≡ b → b ≡ false → o ≡ None
absent None b p q = refl
absent (Some x) b p q = absurd (let t : true ≡ false = p ∙ q in cc)

pub invariant_of-self-in-Err : goal.invariant_of-self-in-Err
invariant_of-self-in-Err c =
    let es = reverse c.self.inside.tokens.entries in
    let none : at c.args.obj es ≡ None = sym c.held_at.ensures ∙ unheld c.held_at.result (sym c.is_some.ensures ∙ c.if-is_some.false) in
    let vacant = absent (at c.args.obj c.self.inside.slots) (is_some (at c.args.obj es)) (c.self.invariant.slots c.args.obj) (ap is_some none) in
    moved (ap reverse c.in-Err.ensures.err) (restored c.args.obj None c.self.inside.slots c.add.new.slots c.remove.new.slots c.self.invariant.sorted vacant c.in_ok-add.ensures.ok c.remove.ensures.slots) c.self.invariant

pub returns-in-Err-clause-err : goal.returns-in-Err-clause-err
returns-in-Err-clause-err c =
    let es = reverse c.self.inside.tokens.entries in
    let none : at c.args.obj es ≡ None = sym c.held_at.ensures ∙ unheld c.held_at.result (sym c.is_some.ensures ∙ c.if-is_some.false) in
    let vacant = absent (at c.args.obj c.self.inside.slots) (is_some (at c.args.obj es)) (c.self.invariant.slots c.args.obj) (ap is_some none) in
    let same = restored c.args.obj None c.self.inside.slots c.add.new.slots c.remove.new.slots c.self.invariant.sorted vacant c.in_ok-add.ensures.ok c.remove.ensures.slots in
    (λ i. record { capacity = c.self.inside.capacity; held = reverse (c.in-Err.ensures.err i); lasts = c.in-Err.ensures.kept i; limits = marks (same i) }) ∙ c.self.view_is
