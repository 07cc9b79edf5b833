use Rattle.std.proofs.Common.{◌≡◌, sym, subst, ◌∙◌, T, rules}
use Rattle.std.specs.Prelude.{is_none}
use Rattle.std.specs.List.{list_all}
use Rattle.std.proofs.lemmas.Float.{T_from_true}
use Rattle.ec_history.specs.declared.watch.Watch.{Watch}
use Rattle.ec_lines.proofs.Onward.{told-each}
use Rattle.ec_lines.proofs.following.are_told.Goals as goal

pub returns : goal.returns
returns c past h t b l =
    let same : c.deref.result.now ≡ c.args.following.now.seen.watches.items = search rules in
    let all = T_from_true _ (sym c.all_told.ensures ∙ t) in
    told-each _ past h.sees.watched (subst (λ ws. T (list_all {X = Watch} (λ w. is_none w.untold) ws)) same all) b l
