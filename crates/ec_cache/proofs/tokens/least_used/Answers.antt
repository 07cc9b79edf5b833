use Rattle.std.proofs.Common.{rules, ◌≡◌, ◌∙◌, ◌∷◌, ◌++◌, ◌-◌, ◌<◌, [], ℕ, T, ap, sym, subst, length, reverse, take}
use Rattle.std.specs.List.{list_all}
use Rattle.std.proofs.lemmas.List.{reverse-append}
use Rattle.ec_base.specs.SortedLaws.{second}
use Rattle.ec_cache.specs.declared.state.Held.{Held}
use Rattle.ec_cache.specs.Numbers.{numbers}
use Rattle.ec_cache.specs.Held.{is_token, unpinned}
use Rattle.ec_cache.proofs.Lists.{looked-on, one-looked, first-looked}
use Rattle.ec_cache.proofs.tokens.least_used.Goals as goal

pub looking-preserved : goal.looking-preserved
looking-preserved c =
    let n = c.args.most in
    let pinned = c.args.pinned.now in
    let xs = c.looking.list.items in
    let rest = reverse c.next_back.new.self in
    let e : ℕ × Held = (c.in-Some.id.now, c.in-Some.held.now) in
    let one = numbers (unpinned pinned (e ∷ [])) in
    let ys = numbers (unpinned pinned rest) in
    let total = take n (numbers (unpinned pinned (reverse c.args.tokens.now.entries))) in
    let turned : reverse c.looking.rest ≡ e ∷ rest = ap reverse c.in-Some.ensures.steps ∙ reverse-append c.next_back.new.self (e ∷ []) in
    let room : length xs < n = search rules in
    let before = sym (ap (λ ts. xs ++ take (n - length xs) ts) (ap (λ es. numbers (unpinned pinned es)) turned ∙ first-looked pinned e rest)) ∙ c.looking.invariant.0 in
    let after = looked-on n xs one ys total (one-looked pinned e) room before in (
      subst (λ zs. zs ++ take (n - length zs) ys ≡ total) (sym c.in_ok-note_unpinned.ensures) after,
      second _ _ (subst (λ es. T (list_all is_token es)) turned c.looking.invariant.1),
    )
