use Rattle.std.proofs.Common.{◌≡◌, ◌∷◌, ◌+◌, ◌∙◌, ℕ, List, Option, ap, sym, subst, drop}
use Rattle.std.specs.Prelude.{MatchOption}
use Rattle.ec_volume.specs.declared.update.Update.{Update}
use Rattle.ec_log.specs.OfChains.SlotLaws.{live-next}
use Rattle.ec_log.specs.OfChains.Slots.{live, with_one}
use Rattle.ec_doing.proofs.OfHoldings.Lost.{one_owed, none_owed, owed_more}
use Rattle.ec_doing.proofs.OfHoldings.Owing.{is_next, left_behind, is_other, left_same}
use Rattle.ec_doing.proofs.holdings.ledger.with_operands.Goals as goal
use Rattle.ec_doing.proofs.holdings.ledger.with_operands.Goals.{in-Some-behind+in_ok-operands+in_ok-push, in_default-behind}

pub ops-preserved : goal.ops-preserved
ops-preserved c =
    let lost = c.args.lost.now in
    let x : ℕ × Option Update = c.ops-item.result in
    let u = c.in-Some.update in
    let here = live (drop c.ops.op-index c.args.ops.now) in
    let rest = live (drop (c.ops.op-index + 1) c.args.ops.now) in
    let next : here ≡ (x.0, u) ∷ rest = live-next c.args.ops.now c.ops.op-index x c.ops-test.true c.ops-item.is ∙ ap (λ o. with_one x.0 o rest) c.in-Some.is in
    let left = c.ops.left.now in
    let before = c.ops.owed.items in
    let after = c.match-behind.owed.items in
    let walked = c.ops.invariant.1 in
    elim c.match-behind.branch [
      | in-Some-behind+in_ok-operands+in_ok-push w ↦ (
        owed_more lost here rest (x.0, u) before after _ next
            (one_owed lost x.0 u w.of.result before after (is_next lost here rest (x.0, u) next left walked w.in-Some-behind.rest.now w.in-Some-behind.ensures) (w.of.ensures ∙ w.in_ok-operands.ensures) (ap (λ v. v.items) w.owed-is ∙ w.in_ok-push.ensures.items))
            c.ops.invariant.0,
        left_behind lost here rest (x.0, u) next left walked w.in-Some-behind.rest.now w.in-Some-behind.ensures ∙ sym (ap (λ r. r.now) w.left-is),
      )
      | in_default-behind w ↦
          let none : (r : List ℕ) → left ≡ x.0 ∷ r → ⊥ = subst (λ o. MatchOption o ((r : List ℕ) → left ≡ x.0 ∷ r → ⊥) (λ r. left ≡ x.0 ∷ r.now)) w.in_default-behind.is c.behind.ensures in (
            owed_more lost here rest (x.0, u) before after _ next (ap (λ v. v.items) w.owed-is ∙ none_owed lost (x.0, u) before (is_other lost here rest (x.0, u) next left walked none)) c.ops.invariant.0,
            left_same lost here rest (x.0, u) next left walked none ∙ sym (ap (λ r. r.now) w.left-is),
          )
    ]
