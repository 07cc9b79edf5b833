-- Maps by number, with a key changed.
use Rattle.std.proofs.Common.{◌≡◌, refl, sym, ap, subst, ◌∙◌, ℕ, Bool, true, false, cond, List, [], ◌∷◌, ◌++◌, Option, Some}
use Rattle.std.specs.Prelude.{◌==◌, ◌||◌, is_some, OnSome}
use Rattle.ec_base.specs.Tables.{Table, at, at_or, put}
use Rattle.ec_volume.specs.Update.{member}
use Rattle.ec_order.proofs.OfObjmap.Entries.{at-put}

-- an empty value stands for the one that is taken out
pub taken : {X : Type 0} (k : ℕ) (none some : X) (old new : Table X) (was : Option X) → was ≡ Some some → OnSome was (new ≡ put k none old) → (j : ℕ) → (j == k) ≡ false → at j new ≡ at j old
taken k none some old new was is took j other =
    let put_is : new ≡ put k none old = subst (λ o. OnSome o (new ≡ put k none old)) is took in
    ap (at j) put_is ∙ at-put j k none old ∙ ap (λ b. cond b (Some none) (at j old)) other

-- and then the value with one more
pub added : {X : Type 0} (k : ℕ) (x : X) (xs : List X) (old middle new : Table (List X)) → xs ≡ at_or [] k old ++ x ∷ [] → ((j : ℕ) → (j == k) ≡ false → at j middle ≡ at j old) → new ≡ put k xs middle
    → (j : ℕ) → at j new ≡ cond (j == k) (Some (at_or [] k old ++ x ∷ [])) (at j old)
added k x xs old middle new more others is j = ap (at j) is ∙ at-put j k xs middle ∙ go (j == k) refl
  where
    go : (b : Bool) → (j == k) ≡ b → cond b (Some xs) (at j middle) ≡ cond b (Some (at_or [] k old ++ x ∷ [])) (at j old)
    go true e = ap Some more
    go false e = others j e

pub noted : (k : ℕ) (ks : List ℕ) (old middle new : Table (Unit {0})) → middle ≡ put k tt old → ((j : ℕ) → is_some (at j new) ≡ (member j ks || is_some (at j middle)))
    → (j : ℕ) → is_some (at j new) ≡ (member j (k ∷ ks) || is_some (at j old))
noted k ks old middle new is rest j = rest j ∙ ap (λ m. member j ks || is_some (at j m)) is ∙ ap (λ o. member j ks || is_some o) (at-put j k tt old) ∙ go (j == k) (member j ks) (at j old)
  where
    go : (b c : Bool) (o : Option (Unit {0})) → (c || is_some (cond b (Some tt) o)) ≡ ((b || c) || is_some o)
    go true true o = refl
    go true false o = refl
    go false c o = refl

pub noted_first : (ks rest : List ℕ) (k : ℕ) (old middle new : Table (Unit {0})) → ks ≡ k ∷ rest → middle ≡ put k tt old → ((j : ℕ) → is_some (at j new) ≡ (member j rest || is_some (at j middle)))
    → (j : ℕ) → is_some (at j new) ≡ (member j ks || is_some (at j old))
noted_first ks rest k old middle new split is h j = noted k rest old middle new is h j ∙ ap (λ l. member j l || is_some (at j old)) (sym split)
