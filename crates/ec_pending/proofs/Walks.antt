-- The walk over all held operations, from the last one on.
use Rattle.std.proofs.Common.{◌≡◌, sym, ap, ◌∙◌, arith, ◌<◌, ◌≤◌, ◌+◌, ◌-◌, ℕ, Bool, true, false, cond, List, [], ◌∷◌, ◌++◌, length, drop, get_or, Option, None, Some}
use Rattle.std.specs.Prelude.{◌||◌, reverse}
use Rattle.std.specs.List.{list_any}
use Rattle.std.proofs.lemmas.List.{reverse-append, drop_all}
use Rattle.ec_base.specs.Tables.{Table}
use Rattle.ec_volume.specs.declared.update.Update.{Update}
use Rattle.ec_order.specs.Order.{needs}
use Rattle.ec_order.specs.OfNeeded.Needed.{Others, Ranges, is_needed}
use Rattle.ec_log.specs.OfChains.SlotLaws.{live-next}
use Rattle.ec_log.specs.OfChains.Slots.{Slots, with_one, live}
use Rattle.ec_order.proofs.OfNeeded.Needs.{nothing_needed}
use Rattle.ec_pending.specs.declared.issue.Issue.{Issue}
use Rattle.ec_pending.specs.Pending.{numbers_in, picked_out, issue_at, issues}

module _ (ps : Table ℕ) (p : Issue → Bool) (ss : Slots) where
  -- the places from this one on are walked over: these numbers were found, from the last on, and the maps tell what they need
  pub record Walked (at : ℕ) (ops : List ℕ) (others : Others) (ranges : Ranges) : Type 0 where
    pub within : at ≤ length ss
    pub found : reverse ops ≡ numbers_in (picked_out p (issues ps (live (drop at ss))))
    pub needed : (x : Update) → is_needed others ranges x ≡ list_any (λ j. needs x j.update) (picked_out p (issues ps (live (drop at ss))))

  pub walk-begins : (ops : List ℕ) (others : Others) (ranges : Ranges) → ops ≡ [] → others ≡ [] → ranges ≡ [] → Walked (length ss) ops others ranges
  walk-begins ops others ranges a b c =
      let none : drop (length ss) ss ≡ [] = drop_all (length ss) ss (omega arith) in
      record {
        within = omega arith;
        found = ap reverse a ∙ ap (λ l. numbers_in (picked_out p (issues ps (live l)))) (sym none);
        needed = λ x. ap (λ m. is_needed m ranges x) b ∙ ap (λ m. is_needed [] m x) c ∙ nothing_needed x ∙ ap (λ l. list_any (λ j. needs x j.update) (picked_out p (issues ps (live l)))) (sym none);
      }

  module _ (at : ℕ) (ops : List ℕ) (others : Others) (ranges : Ranges) (w : Walked at ops others ranges) (x : ℕ × Option Update) (some : 0 < at) (is : x ≡ get_or ss (at - 1) x) where
    back : live (drop (at - 1) ss) ≡ with_one x.0 x.1 (live (drop at ss))
    back =
        let within : at ≤ length ss = w.within in
        let next : (at - 1) + 1 ≡ at = omega (arith, some) in
        live-next ss (at - 1) x (omega (arith, some, within)) is ∙ ap (λ n. with_one x.0 x.1 (live (drop n ss))) next

    lower : at - 1 ≤ length ss
    lower = let within : at ≤ length ss = w.within in omega (arith, within)

    pub walk-skips : x.1 ≡ None → Walked (at - 1) ops others ranges
    walk-skips e =
        let same : live (drop (at - 1) ss) ≡ live (drop at ss) = back ∙ ap (λ o. with_one x.0 o (live (drop at ss))) e in
        record {
          within = lower;
          found = w.found ∙ sym (ap (λ l. numbers_in (picked_out p (issues ps l))) same);
          needed = λ z. w.needed z ∙ sym (ap (λ l. list_any (λ j. needs z j.update) (picked_out p (issues ps l))) same);
        }

    module _ (u : Update) (held : x.1 ≡ Some u) where
      by-test : (b : Bool) → (p (issue_at ps (x.0, u)) || is_needed others ranges u) ≡ b
          → picked_out p (issues ps (live (drop (at - 1) ss))) ≡ cond b (issue_at ps (x.0, u) ∷ picked_out p (issues ps (live (drop at ss)))) (picked_out p (issues ps (live (drop at ss))))
      by-test b e =
          ap (λ l. picked_out p (issues ps l)) (back ∙ ap (λ o. with_one x.0 o (live (drop at ss))) held)
          ∙ ap (λ t. cond (p (issue_at ps (x.0, u)) || t) (issue_at ps (x.0, u) ∷ picked_out p (issues ps (live (drop at ss)))) (picked_out p (issues ps (live (drop at ss))))) (sym (w.needed u))
          ∙ ap (λ t. cond t (issue_at ps (x.0, u) ∷ picked_out p (issues ps (live (drop at ss)))) (picked_out p (issues ps (live (drop at ss))))) e

      pub walk-takes : (p (issue_at ps (x.0, u)) || is_needed others ranges u) ≡ true → (ops' : List ℕ) (others' : Others) (ranges' : Ranges) → ops' ≡ ops ++ x.0 ∷ []
          → ((z : Update) → is_needed others' ranges' z ≡ (needs z u || is_needed others ranges z)) → Walked (at - 1) ops' others' ranges'
      walk-takes e ops' others' ranges' more h = record {
        within = lower;
        found = ap reverse more ∙ reverse-append ops (x.0 ∷ []) ∙ ap (λ l. x.0 ∷ l) w.found ∙ sym (ap numbers_in (by-test true e));
        needed = λ z. h z ∙ ap (λ b. needs z u || b) (w.needed z) ∙ sym (ap (list_any (λ j. needs z j.update)) (by-test true e));
      }

      pub walk-passes : (p (issue_at ps (x.0, u)) || is_needed others ranges u) ≡ false → Walked (at - 1) ops others ranges
      walk-passes e = record {
        within = lower;
        found = w.found ∙ sym (ap numbers_in (by-test false e));
        needed = λ z. w.needed z ∙ sym (ap (list_any (λ j. needs z j.update)) (by-test false e));
      }

  pub walk-ends : (at : ℕ) (ops : List ℕ) (others : Others) (ranges : Ranges) → Walked at ops others ranges → at ≤ 0 → reverse ops ≡ numbers_in (picked_out p (issues ps (live ss)))
  walk-ends at ops others ranges w e = w.found ∙ ap (λ n. numbers_in (picked_out p (issues ps (live (drop n ss))))) (none at e)
    where
      none : (n : ℕ) → n ≤ 0 → n ≡ 0
      none n e = omega (arith, e)
