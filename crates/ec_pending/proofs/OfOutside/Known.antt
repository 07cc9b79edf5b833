-- Objects that operations are on, one operation more.
use Rattle.std.proofs.Common.{◌≡◌, refl, sym, ap, ◌∙◌, ℕ, Bool, true, false, not, ◌&&◌, ◌||◌, cond, List, [], ◌∷◌}
use Rattle.std.specs.Prelude.{is_some}
use Rattle.std.specs.List.{list_any}
use Rattle.ec_base.specs.Tables.{Table, at}
use Rattle.ec_volume.specs.Update.{member, operands}
use Rattle.ec_volume.specs.declared.update.Update.{Update}
use Rattle.ec_order.specs.Order.{is_overwrite, share, before}
use Rattle.ec_pending.specs.OfOutside.Outside.{is_after}
use Rattle.ec_base.proofs.Bools.{and-none, and-true}

pub any-either : (p q : ℕ → Bool) (xs : List ℕ) → list_any (λ x. p x || q x) xs ≡ (list_any p xs || list_any q xs)
any-either p q [] = refl
any-either p q (x ∷ xs) = ap (λ r. (p x || q x) || r) (any-either p q xs) ∙ go (p x) (q x) (list_any p xs) (list_any q xs)
  where
    go : (a b c d : Bool) → ((a || b) || (c || d)) ≡ ((a || c) || (b || d))
    go true b c d = refl
    go false true true d = refl
    go false true false d = refl
    go false false true d = refl
    go false false false d = refl

pub any-same : (p q : ℕ → Bool) → ((x : ℕ) → p x ≡ q x) → (xs : List ℕ) → list_any p xs ≡ list_any q xs
any-same p q h [] = refl
any-same p q h (x ∷ xs) = ap (λ b. b || list_any p xs) (h x) ∙ ap (λ b. q x || b) (any-same p q h xs)

known-more : (u v : Update) (old new : Table (Unit {0})) → ((o : ℕ) → is_some (at o new) ≡ (member o (operands v) || is_some (at o old))) → list_any (λ o. is_some (at o new)) (operands u) ≡ (share u v || list_any (λ o. is_some (at o old)) (operands u))
known-more u v old new h = any-same (λ o. is_some (at o new)) (λ o. member o (operands v) || is_some (at o old)) h (operands u) ∙ any-either (λ o. member o (operands v)) (λ o. is_some (at o old)) (operands u)

pub overwrite-more : (u v : Update) (objs objs' others : Table (Unit {0})) → is_overwrite v ≡ true → ((o : ℕ) → is_some (at o objs') ≡ (member o (operands v) || is_some (at o objs))) → is_after objs' others u ≡ (before u v || is_after objs others u)
overwrite-more u v objs objs' others e h = go (is_overwrite u)
  where
    go : (b : Bool) → list_any (λ o. is_some (at o (cond b others objs'))) (operands u) ≡ ((share u v && not (b && is_overwrite v)) || list_any (λ o. is_some (at o (cond b others objs))) (operands u))
    go true = sym (ap (λ z. (share u v && not z) || list_any (λ o. is_some (at o others)) (operands u)) e ∙ ap (λ z. z || list_any (λ o. is_some (at o others)) (operands u)) (and-none (share u v)))
    go false = known-more u v objs objs' h ∙ sym (ap (λ z. z || list_any (λ o. is_some (at o objs)) (operands u)) (and-true (share u v)))

pub other-more : (u v : Update) (objs objs' others others' : Table (Unit {0})) → is_overwrite v ≡ false → ((o : ℕ) → is_some (at o objs') ≡ (member o (operands v) || is_some (at o objs))) → ((o : ℕ) → is_some (at o others') ≡ (member o (operands v) || is_some (at o others)))
    → is_after objs' others' u ≡ (before u v || is_after objs others u)
other-more u v objs objs' others others' e h k = go (is_overwrite u)
  where
    go : (b : Bool) → list_any (λ o. is_some (at o (cond b others' objs'))) (operands u) ≡ ((share u v && not (b && is_overwrite v)) || list_any (λ o. is_some (at o (cond b others objs))) (operands u))
    go true = known-more u v others others' k ∙ sym (ap (λ z. (share u v && not z) || list_any (λ o. is_some (at o others)) (operands u)) e ∙ ap (λ z. z || list_any (λ o. is_some (at o others)) (operands u)) (and-true (share u v)))
    go false = known-more u v objs objs' h ∙ sym (ap (λ z. z || list_any (λ o. is_some (at o objs)) (operands u)) (and-true (share u v)))
