-- What tests of parts decide.
use Rattle.std.proofs.Common.{◌≡◌, ℕ, ◌+◌, Bool, true, false, ◌&&◌, List, ◌++◌, length, Result, Ok, Err, T, refl, sym, ap, subst, ◌∙◌, arith, length-append}
use Rattle.std.specs.Prelude.{nat_lt, nat_le, IfOk, MatchBool}
use Rattle.std.specs.List.{list_all}
use Rattle.std.proofs.lemmas.Bool.{and_parts, and_from}
use Rattle.ec_base.specs.Tables.{keys}
use Rattle.ec_volume.specs.Held.{IsVolume}
use Rattle.ec_volume.specs.Update.{distinct}
use Rattle.ec_volume.specs.declared.image.Image.{Image}
use Rattle.ec_sessions.specs.Slots.{Slots, all_unspent}
use Rattle.ec_durable.specs.WellFormed.{IsInOrder, sessions_of, fits_slot}
use Rattle.ec_durable.proofs.Live.{keys_length}
use Rattle.ec_durable.specs.OfWellFormed.WellFormed.{state_with, used_ids, is_in_order}
use Rattle.ec_base.proofs.Bools.{is-true as is_true, holds-true as told}

pub decides : (b : Bool) (A B : Type 0) → (A → B) → (B → A) → MatchBool b A (A → ⊥) → MatchBool b B (B → ⊥)
decides true A B f g h = f h
decides false A B f g h = λ x. h (g x)

pub ok_decides : {E : Type 0} (r : Result Bool E) (A B : Type 0) → (A → B) → (B → A) → IfOk r (λ b. MatchBool b A (A → ⊥)) → IfOk r (λ b. MatchBool b B (B → ⊥))
ok_decides (Ok b) A B f g h = decides b A B f g h
ok_decides (Err e) A B f g h = tt

-- a test that tells
pub tells : (b : Bool) (A : Type 0) → (b ≡ true → A) → (A → b ≡ true) → MatchBool b A (A → ⊥)
tells true A f g = f refl
tells false A f g = λ x. absurd (never (g x))
  where
    never : false ≡ true → ⊥
    never h = cc

module _ (most next_id next_session epoch : ℕ) (slots : Slots) (es : List (ℕ × Image)) where
  abbrev few : Bool
  few = nat_le (length (used_ids slots es)) most

  abbrev below : Bool
  below = list_all (λ o. nat_lt o next_id) (used_ids slots es)

  abbrev fit : Bool
  fit = list_all (fits_slot next_id) slots

  abbrev numbered : Bool
  numbered = list_all (λ s. nat_le 1 s && nat_lt s next_session) (sessions_of slots)

  abbrev next : Bool
  next = nat_le 1 next_session

  counted : nat_le (length (used_ids slots es)) most ≡ nat_le (length es + length (all_unspent slots)) most
  counted = ap (λ (n : ℕ). nat_le n most) (length-append (keys es) (all_unspent slots) ∙ ap (λ (n : ℕ). n + length (all_unspent slots)) (keys_length es))

  pub in_order : IsVolume es → T (nat_le 32 most && nat_le most 1024) → is_in_order most next_id next_session slots es ≡ true → IsInOrder (state_with most next_id next_session epoch slots es)
  in_order v limits is =
      let a = and_parts (few && below && fit && numbered && next && distinct (used_ids slots es)) (distinct (sessions_of slots)) is in
      let b = and_parts (few && below && fit && numbered && next) (distinct (used_ids slots es)) a.0 in
      let c = and_parts (few && below && fit && numbered) next b.0 in
      let d = and_parts (few && below && fit) numbered c.0 in
      let e = and_parts (few && below) fit d.0 in
      let f = and_parts few below e.0 in
      record {
        images = v;
        most = limits;
        ids = told (distinct (used_ids slots es)) b.1;
        below = told below f.1;
        few = told (nat_le (length es + length (all_unspent slots)) most) (sym counted ∙ f.0);
        slots = told fit e.1;
        numbers = told (distinct (sessions_of slots)) a.1;
        numbered = told numbered d.1;
        next = told next c.1;
      }

  pub order_tells : IsInOrder (state_with most next_id next_session epoch slots es) → is_in_order most next_id next_session slots es ≡ true
  order_tells o =
      and_from (few && below && fit && numbered && next && distinct (used_ids slots es)) (distinct (sessions_of slots))
      (and_from (few && below && fit && numbered && next) (distinct (used_ids slots es))
      (and_from (few && below && fit && numbered) next
      (and_from (few && below && fit) numbered
      (and_from (few && below) fit
      (and_from few below (counted ∙ is_true (nat_le (length es + length (all_unspent slots)) most) o.few) (is_true below o.below))
      (is_true fit o.slots))
      (is_true numbered o.numbered))
      (is_true next o.next))
      (is_true (distinct (used_ids slots es)) o.ids))
      (is_true (distinct (sessions_of slots)) o.numbers)

pub granted : (b : Bool) (A : Type 0) → MatchBool b A (A → ⊥) → b ≡ true → A
granted true A m is = m
granted false A m is = absurd cc

pub denied : (b : Bool) (A : Type 0) → MatchBool b A (A → ⊥) → b ≡ false → A → ⊥
denied true A m is = absurd cc
denied false A m is = m

pub ok_is : {E : Type 0} (r : Result Bool E) (t : Bool) (P : Bool → Type 0) → IfOk r (λ b. b ≡ t) → P t → IfOk r P
ok_is (Ok b) t P h p = subst P (sym h) p
ok_is (Err e) t P h p = tt

-- what decides one fact decides another one that holds exactly with it
pub decides_too : {E : Type 0} (r : Result Bool E) (A B : Type 0) → (A → B) → (B → A) → IfOk r (λ b. MatchBool b A (A → ⊥)) → IfOk r (λ b. MatchBool b B (B → ⊥))
decides_too (Ok true) A B to from h = to h
decides_too (Ok false) A B to from h = λ b. h (from b)
decides_too (Err e) A B to from h = tt
