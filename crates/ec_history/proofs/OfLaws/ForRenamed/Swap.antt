-- Two ids change places, and what has neither as an operand stays.
use Rattle.std.proofs.Common.{◌≡◌, refl, sym, ap, ap₂, subst, ◌∙◌, ◌==◌, ◌||◌, not, ℕ, Bool, true, false, cond, List, [], ◌∷◌, map, Option, Some, None}
use Rattle.std.specs.List.{filter}
use Rattle.std.proofs.lemmas.Bool.{eqb-true}
use Rattle.ec_volume.specs.Update.{Above, ids_of, listed, member, operands, root}
use Rattle.ec_volume.specs.declared.update.Update.{Update}
use Rattle.ec_volume.specs.declared.update.Update.TheVariants.{Make, Drop, Move, Put, Len, Mode, Stamp, Order, Shift, Owner}
use Rattle.ec_history.specs.History.{Each}
use Rattle.ec_history.proofs.OfLaws.ForPlacing.Numbers.{each-back, each-front}
use Rattle.ec_history.specs.OfLaws.Renaming.{IsRenaming}
use Rattle.ec_history.specs.OfLaws.Renamed.{above_by, option_by, update_by}
use Rattle.ec_history.proofs.OfLaws.ForRenamed.OwedOperands.{parts, turn}
use Rattle.ec_base.proofs.Numbers.{same-self}

pub unlike : (a b : ℕ) → (a ≡ b → ⊥) → (a == b) ≡ false
unlike a b n = go (a == b) refl
  where
    go : (z : Bool) → (a == b) ≡ z → z ≡ false
    go true e = absurd (n (eqb-true a b e))
    go false e = refl

pub either : (p q : Bool) → (p ≡ true → q ≡ true) → (q ≡ true → p ≡ true) → p ≡ q
either true q f g = sym (f refl)
either false true f g = g refl
either false false f g = refl

module _ (x y : ℕ) where
  abbrev pub swap : ℕ → ℕ
  swap z = cond (z == x) y (cond (z == y) x z)

  pub swap-first : swap x ≡ y
  swap-first = ap (λ b. cond b y (cond (x == y) x x)) (same-self x)

  pub swap-other : (z : ℕ) → (z == x) ≡ false → (z == y) ≡ false → swap z ≡ z
  swap-other z n m = ap (λ b. cond b y (cond (z == y) x z)) n ∙ ap (λ b. cond b x z) m

  pub swap-second : swap y ≡ x
  swap-second = go (y == x) refl
    where
      go : (z : Bool) → (y == x) ≡ z → swap y ≡ x
      go true e = ap (λ b. cond b y (cond (y == y) x y)) e ∙ eqb-true y x e
      go false e = ap (λ b. cond b y (cond (y == y) x y)) e ∙ ap (λ b. cond b x y) (same-self y)

  pub swap-twice : (z : ℕ) → swap (swap z) ≡ z
  swap-twice z = go (z == x) (z == y) refl refl
    where
      go : (a b : Bool) → (z == x) ≡ a → (z == y) ≡ b → swap (swap z) ≡ z
      go true b e f = let p = eqb-true z x e in ap (λ w. swap (swap w)) p ∙ ap swap swap-first ∙ swap-second ∙ sym p
      go false true e f = let p = eqb-true z y f in ap (λ w. swap (swap w)) p ∙ ap swap swap-second ∙ swap-first ∙ sym p
      go false false e f = ap swap (swap-other z e f) ∙ swap-other z e f

  pub swap-apart : (a b : ℕ) → (swap a == swap b) ≡ (a == b)
  swap-apart a b =
      either (swap a == swap b) (a == b) (λ e. subst (λ z. (a == z) ≡ true) (sym (swap-twice a) ∙ ap swap (eqb-true (swap a) (swap b) e) ∙ swap-twice b) (same-self a))
      (λ e. subst (λ z. (swap a == swap z) ≡ true) (eqb-true a b e) (same-self (swap a)))

  pub swap-renames : (root == x) ≡ false → (root == y) ≡ false → IsRenaming swap
  swap-renames n m = record { apart = swap-apart; root_stays = swap-other root n m }

  -- ids that are neither stay
  pub stay-all : (os : List ℕ) → member x os ≡ false → member y os ≡ false → Each (λ o. swap o ≡ o) os
  stay-all [] n m = tt
  stay-all (o ∷ os) n m = let p = parts (x == o) (member x os) n in let q = parts (y == o) (member y os) m in (swap-other o (turn x o p.0) (turn y o q.0), stay-all os p.1 q.1)

-- a list that a renaming leaves has none that it moves
pub moved-none : (r : ℕ → ℕ) (x : ℕ) → (r x ≡ x → ⊥) → (os : List ℕ) → os ≡ map r os → member x os ≡ false
moved-none r x n [] e = refl
moved-none r x n (o ∷ os) e = go (x == o) refl (λ k. moved-none r x n os k)
  where
    first : o ≡ r o
    first = ap (λ z. elim z as (λ w. ℕ) [ [] ↦ o | p ∷ ps ↦ p ]) e

    rest : os ≡ map r os
    rest = ap (λ z. elim z as (λ w. List ℕ) [ [] ↦ os | p ∷ ps ↦ ps ]) e

    go : (z : Bool) → (x == o) ≡ z → (os ≡ map r os → member x os ≡ false) → (z || member x os) ≡ false
    go true f k = absurd (n (subst (λ z. r z ≡ z) (sym (eqb-true x o f)) (sym first)))
    go false f k = k rest

module _ (r : ℕ → ℕ) where
  map-stays : (os : List ℕ) → Each (λ o. r o ≡ o) os → map r os ≡ os
  map-stays [] h = refl
  map-stays (o ∷ os) h = ap₂ (λ a b. a ∷ b) h.0 (map-stays os h.1)

  option-stays : (o : Option ℕ) → Each (λ o. r o ≡ o) (listed o) → option_by r o ≡ o
  option-stays None h = refl
  option-stays (Some o) h = ap Some h.0

  above-stays : (d : ℕ) → r d ≡ d → (up : Above) → Each (λ o. r o ≡ o) (filter (λ o. not (o == d)) (ids_of up)) → above_by r up ≡ up
  above-stays d p [] h = refl
  above-stays d p (e ∷ up) h = go (e.0 == d) refl (λ k. above-stays d p up k) h
    where
      go : (z : Bool) → (e.0 == d) ≡ z → (Each (λ o. r o ≡ o) (filter (λ o. not (o == d)) (ids_of up)) → above_by r up ≡ up) → Each (λ o. r o ≡ o) (cond (not z) (e.0 ∷ filter (λ o. not (o == d)) (ids_of up)) (filter (λ o. not (o == d)) (ids_of up))) → (r e.0, e.1) ∷ above_by r up ≡ e ∷ up
      go true f j k = ap₂ (λ a b. (a, e.1) ∷ b) (subst (λ z. r z ≡ z) (sym (eqb-true e.0 d f)) p) (j k)
      go false f j k = ap₂ (λ a b. (a, e.1) ∷ b) k.0 (j k.1)

  -- an update stays whose operands do
  pub update-stays : (u : Update) → Each (λ o. r o ≡ o) (operands u) → update_by r u ≡ u
  update-stays (Make d n o k) h = ap₂ (λ a b. Make a n b k) h.0 h.1.0
  update-stays (Drop d n o k) h = ap₂ (λ a b. Drop a n b k) h.0 h.1.0
  update-stays (Move d m n o k w) h = ap₂ (λ a b. Move a m n b k (option_by r w)) h.0 h.1.0 ∙ ap (λ z. Move d m n o k z) (option-stays w h.1.1)
  update-stays (Put o at bytes inside) h = ap (λ a. Put a at bytes inside) h.0
  update-stays (Len o len) h = ap (λ a. Len a len) h.0
  update-stays (Mode o m) h = ap (λ a. Mode a m) h.0
  update-stays (Stamp o s) h = ap (λ a. Stamp a s) h.0
  update-stays (Order os) h = ap Order (map-stays os h)
  update-stays (Shift d m e n o k w up) h =
      let rest = h.1.1.1 in
      ap₂ (λ a b. Shift a m b n (r o) k (option_by r w) (above_by r up)) h.0 h.1.0
      ∙ ap₂ (λ a b. Shift d m e n a k b (above_by r up)) h.1.1.0 (option-stays w (each-front (λ o. r o ≡ o) (listed w) (filter (λ o. not (o == d)) (ids_of up)) rest))
      ∙ ap (λ z. Shift d m e n o k w z) (above-stays d h.0 up (each-back (λ o. r o ≡ o) (listed w) (filter (λ o. not (o == d)) (ids_of up)) rest))
  update-stays (Owner o w) h = ap (λ a. Owner a w) h.0
