use Rattle.std.proofs.Common.{◌≡◌, ◌∙◌, ◌∷◌, ◌+◌, ℕ, ap, sym, drop, reverse}
use Rattle.std.proofs.lemmas.List.{drop_all}
use Rattle.ec_base.specs.Tables.{Table, keys, without}
use Rattle.ec_cache.specs.Held.{apart_from}
use Rattle.ec_cache.proofs.Lists.{apart-next, apart-none, left}
use Rattle.ec_cache.proofs.cache.give_all_up.Goals as goal

-- one more goes
gone-next : {X : Type 0} (gone more : Table ℕ) (g : ℕ × ℕ) (es fs total : Table X) → gone ≡ g ∷ more → fs ≡ without g.0 es → apart_from (keys gone) es ≡ total → apart_from (keys more) fs ≡ total
gone-next gone more g es fs total first is before =
    ap (apart_from (keys more)) is
    ∙ apart-next g.0 (keys more) es
    ∙ sym (ap (λ gs. apart_from (keys gs) es) first)
    ∙ before

pub loop-obj-preserved : goal.loop-obj-preserved
loop-obj-preserved c =
    let gone = c.args.gone.now in
    let first = left gone c.loop-obj.obj-index c.loop-obj-item.result c.loop-obj-test.true c.loop-obj-item.is in
    let more = drop (c.loop-obj.obj-index + 1) gone in (
      gone-next (drop c.loop-obj.obj-index gone) more c.loop-obj-item.result (reverse c.loop-obj.tokens.entries) (reverse c.give_up.new.tokens.entries) _ first c.give_up.ensures c.loop-obj.invariant.0,
      gone-next (drop c.loop-obj.obj-index gone) more c.loop-obj-item.result c.loop-obj.slots c.remove.new.slots _ first c.remove.ensures.slots c.loop-obj.invariant.1,
    )

pub returns-clause-tokens : goal.returns-clause-tokens
returns-clause-tokens c =
    let es = reverse c.loop-obj.tokens.entries in
    sym (apart-none es) ∙ ap (λ gs. apart_from (keys gs) es) (sym (drop_all c.loop-obj.obj-index c.args.gone.now c.loop-obj-test.false)) ∙ c.loop-obj.invariant.0

pub returns-clause-slots : goal.returns-clause-slots
returns-clause-slots c =
    sym (apart-none c.loop-obj.slots) ∙ ap (λ gs. apart_from (keys gs) c.loop-obj.slots) (sym (drop_all c.loop-obj.obj-index c.args.gone.now c.loop-obj-test.false)) ∙ c.loop-obj.invariant.1
