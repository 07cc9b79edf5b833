-- One walk from the last operation to the first.
use Rattle.std.proofs.Common.{◌≡◌, ◌==◌, ◌≤◌, ◌<◌, ◌-◌, inl, inr, refl, sym, ap, ◌∙◌, ℕ, suc, Bool, true, false, cond, List, [], ◌∷◌, ◌++◌, length, drop, get_or, arith, drop-cons}
use Rattle.std.specs.Prelude.{◌||◌, reverse}
use Rattle.std.specs.List.{list_any}
use Rattle.std.proofs.lemmas.List.{reverse-append, drop_all}
use Rattle.std.proofs.lemmas.Bool.{eqb-true, cases_Bool, true≢false}
use Rattle.ec_base.specs.Tables.{keys}
use Rattle.ec_volume.specs.Update.{member}
use Rattle.ec_volume.specs.declared.update.Update.{Update}
use Rattle.ec_order.specs.Order.{Issued, needs}
use Rattle.ec_order.specs.OfNeeded.Needed.{Others, Ranges, is_needed}
use Rattle.ec_log.specs.OfChains.Walk.{walk}
use Rattle.ec_log.specs.OfChains.ClosureLaws.{walk-none, walk-some, there-member}
use Rattle.ec_order.proofs.OfNeeded.Needs.{nothing_needed}

module _ (p : ℕ × Update → Bool) (held : Issued) where
  -- the operations from a place on are walked over: these numbers were found, from the last on, and the maps tell what they need
  pub record Walked (left : ℕ) (ops : List ℕ) (others : Others) (ranges : Ranges) : Type 0 where
    pub within : left ≤ length held
    pub found : reverse ops ≡ keys (walk p (drop left held))
    pub needed : (x : Update) → is_needed others ranges x ≡ list_any (λ y. needs x y.1) (walk p (drop left held))

  pub walk_begins : (ops : List ℕ) (others : Others) (ranges : Ranges) → ops ≡ [] → others ≡ [] → ranges ≡ [] → Walked (length held) ops others ranges
  walk_begins ops others ranges a b c =
      let none : drop (length held) held ≡ [] = drop_all (length held) held (omega arith) in
      record {
        within = omega arith;
        found = ap reverse a ∙ ap (λ l. keys (walk p l)) (sym none);
        needed = λ x. ap (λ m. is_needed m ranges x) b ∙ ap (λ m. is_needed [] m x) c ∙ nothing_needed x ∙ ap (λ l. list_any (λ y. needs x y.1) (walk p l)) (sym none);
      }

  module _ (left : ℕ) (ops : List ℕ) (others : Others) (ranges : Ranges) (w : Walked left ops others ranges) where
    module _ (x : ℕ × Update) (some : 0 < left) (is : x ≡ get_or held (left - 1) x) where
      at_place : drop (left - 1) held ≡ x ∷ drop left held
      at_place =
          let within : left ≤ length held = w.within in
          let next : suc (left - 1) ≡ left = omega (arith, some) in
          drop-cons held (left - 1) x (omega (arith, some, within)) ∙ ap (λ y. y ∷ drop (suc (left - 1)) held) (sym is) ∙ ap (λ n. x ∷ drop n held) next

      by_test : (b : Bool) → (p x || is_needed others ranges x.1) ≡ b → walk p (drop (left - 1) held) ≡ cond b (x ∷ walk p (drop left held)) (walk p (drop left held))
      by_test b e =
          ap (walk p) at_place
          ∙ ap (λ t. cond (p x || t) (x ∷ walk p (drop left held)) (walk p (drop left held))) (sym (w.needed x.1))
          ∙ ap (λ t. cond t (x ∷ walk p (drop left held)) (walk p (drop left held))) e

      pub walk_takes : (p x || is_needed others ranges x.1) ≡ true → (ops' : List ℕ) (others' : Others) (ranges' : Ranges) → ops' ≡ ops ++ x.0 ∷ []
          → ((z : Update) → is_needed others' ranges' z ≡ (needs z x.1 || is_needed others ranges z)) → Walked (left - 1) ops' others' ranges'
      walk_takes e ops' others' ranges' more h =
          let within : left ≤ length held = w.within in
          record {
            within = omega (arith, within);
            found = ap reverse more ∙ reverse-append ops (x.0 ∷ []) ∙ ap (λ l. x.0 ∷ l) w.found ∙ sym (ap keys (by_test true e));
            needed = λ z. h z ∙ ap (λ b. needs z x.1 || b) (w.needed z) ∙ sym (ap (list_any (λ y. needs z y.1)) (by_test true e));
          }

      pub walk_passes : (p x || is_needed others ranges x.1) ≡ false → Walked (left - 1) ops others ranges
      walk_passes e =
          let within : left ≤ length held = w.within in
          record {
            within = omega (arith, within);
            found = w.found ∙ sym (ap keys (by_test false e));
            needed = λ z. w.needed z ∙ sym (ap (list_any (λ y. needs z y.1)) (by_test false e));
          }

    pub walk_ends : left ≤ 0 → reverse ops ≡ keys (walk p held)
    walk_ends none =
        let first : left ≡ 0 = omega (arith, none) in
        w.found ∙ ap (λ n. keys (walk p (drop n held))) first

-- Whether the closure of one operation is empty.

module _ (op : ℕ) (held : Issued) (ops seen : List ℕ) (is : ops ≡ keys (walk (λ x. x.0 == op) held)) (same : seen ≡ ops) where
  no_keys : (xs : Issued) → (length (keys xs) == 0) ≡ true → xs ≡ []
  no_keys [] e = refl
  no_keys (x ∷ xs) e = absurd (omega (arith, eqb-true (length (keys (x ∷ xs))) 0 e))

  pub op_absent : (length seen == 0) ≡ true → member op (keys held) ≡ false
  op_absent e = elim (cases_Bool (list_any (λ x. x.0 == op) held)) [
    | inl there ↦ absurd (walk-some (λ x. x.0 == op) held there (no_keys (walk (λ x. x.0 == op) held) (ap (λ l. length l == 0) (sym (same ∙ is)) ∙ e)))
    | inr none ↦ sym (there-member op held) ∙ none
  ]

  pub op_present : (length seen == 0) ≡ false → member op (keys held) ≡ true
  op_present e = elim (cases_Bool (list_any (λ x. x.0 == op) held)) [
    | inl there ↦ sym (there-member op held) ∙ there
    | inr none ↦ absurd (true≢false (sym (ap (λ l. length (keys l) == 0) (walk-none (λ x. x.0 == op) held none)) ∙ ap (λ l. length l == 0) (sym (same ∙ is)) ∙ e))
  ]
