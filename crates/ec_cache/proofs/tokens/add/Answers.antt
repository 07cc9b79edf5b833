use Rattle.std.proofs.Common.{◌≡◌, ◌∙◌, ◌∷◌, ap, subst, sym, reverse, None}
use Rattle.ec_base.specs.Tables.{at}
use Rattle.ec_cache.proofs.Order.{put-new, renewed-new}
use Rattle.ec_cache.proofs.tokens.add.Goals as goal

pub returns-clause-ok : goal.returns-clause-ok
returns-clause-ok c =
    let old = c.raise_bound.ensures.order in
    let none = subst (λ es. at c.args.obj (reverse es) ≡ None) (sym old) c.requires in
    ap (λ k. k.entries) c.in_ok-put.ensures.entries
    ∙ put-new c.raise_bound.new.tokens c.args.obj c.get.result c.args.held c.get.ensures.value none c.raise_bound.ensures.apart c.raise_bound.ensures.room
    ∙ ap (λ es. (c.args.obj, c.args.held) ∷ es) old

pub returns-clause-renewed : goal.returns-clause-renewed
returns-clause-renewed c = ap reverse (returns-clause-ok c) ∙ renewed-new c.args.obj c.args.held c.args.tokens.now.entries c.requires
