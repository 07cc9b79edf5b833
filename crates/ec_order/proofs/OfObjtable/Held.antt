-- Pairs by the places that an index tells.
use Rattle.std.proofs.Common.{◌≡◌, ◌≢◌, refl, sym, ap, subst, ◌∙◌, arith, ◌<◌, ◌≤◌, ◌+◌, ℕ, zero, suc, ◌-◌, Bool, true, false, cond, List, [], ◌∷◌, ◌++◌, length, get_or, set, Option, Some, None, get_or-set_same, get_or-set_other}
use Rattle.std.specs.Prelude.{◌==◌, Result, Ok, Err, OnErr}
use Rattle.std.proofs.lemmas.Bool.{eqb-true}
use Rattle.std.proofs.lemmas.Bool.Decides.{nat_tests}
use Rattle.ec_order.specs.OfObjtable.Slots.{slot, key_in, value_in, value_at, held, IsIndex}

some-same : {A : Type 0} {x y : A} → ◌≡◌ {A = Option A} (Some x) (Some y) → x ≡ y
some-same e = cc

pub key-below : {X : Type 0} (p : ℕ) (xs : List (ℕ × X)) (o : ℕ) → key_in p xs ≡ Some o → p < length xs
key-below p [] o e = absurd (apart e)
  where
    apart : {A : Type 0} {x : A} → ◌≡◌ {A = Option A} None (Some x) → ⊥
    apart e = cc
key-below zero (x ∷ xs) o e = omega arith
key-below (suc p) (x ∷ xs) o e = let l = key-below p xs o e in omega (arith, l)

pub value-is : {X : Type 0} (p : ℕ) (xs : List (ℕ × X)) (d : ℕ × X) → p < length xs → value_in p xs ≡ Some (get_or xs p d).1
value-is p [] d l = absurd (omega (arith, l))
value-is zero (x ∷ xs) d l = refl
value-is (suc p) (x ∷ xs) d l = value-is p xs d (omega (arith, l))

pub key-is : {X : Type 0} (p : ℕ) (xs : List (ℕ × X)) (d : ℕ × X) → p < length xs → key_in p xs ≡ Some (get_or xs p d).0
key-is p [] d l = absurd (omega (arith, l))
key-is zero (x ∷ xs) d l = refl
key-is (suc p) (x ∷ xs) d l = key-is p xs d (omega (arith, l))

-- One value is put in.

behind-first : (q : ℕ) → (suc q == zero) ≡ false
behind-first q = grind (arith, nat_tests)

before-next : (p : ℕ) → (zero == suc p) ≡ false
before-next p = grind (arith, nat_tests)

both-next : (p q : ℕ) → (suc q == suc p) ≡ (q == p)
both-next p q = grind (arith, nat_tests)

value-put : {X : Type 0} (p q : ℕ) (xs : List (ℕ × X)) (k : ℕ) (v : X) → p < length xs → value_in q (set xs p (k, v)) ≡ cond (q == p) (Some v) (value_in q xs)
value-put p q [] k v l = absurd (omega (arith, l))
value-put zero zero (x ∷ xs) k v l = refl
value-put zero (suc q) (x ∷ xs) k v l = sym (ap (λ b. cond b (Some v) (value_in q xs)) (behind-first q))
value-put (suc p) zero (x ∷ xs) k v l = sym (ap (λ b. cond b (Some v) (Some x.1)) (before-next p))
value-put (suc p) (suc q) (x ∷ xs) k v l = value-put p q xs k v (omega (arith, l)) ∙ sym (ap (λ b. cond b (Some v) (value_in q xs)) (both-next p q))

key-put : {X : Type 0} (p q : ℕ) (xs : List (ℕ × X)) (d : ℕ × X) (v : X) → key_in q (set xs p ((get_or xs p d).0, v)) ≡ key_in q xs
key-put p q [] d v = refl
key-put zero zero (x ∷ xs) d v = refl
key-put zero (suc q) (x ∷ xs) d v = refl
key-put (suc p) zero (x ∷ xs) d v = refl
key-put (suc p) (suc q) (x ∷ xs) d v = key-put p q xs d v

module _ {X : Type 0} (ps : List ℕ) (xs : List (ℕ × X)) (index : IsIndex ps xs) (k p : ℕ) (at : slot k ps ≡ suc p) where
  pub place-below : p < length xs
  place-below = key-below p xs k (index k p at)

  pub held-is : (d : ℕ × X) → held k (ps, xs) ≡ Some (get_or xs p d).1
  held-is d = ap (λ n. value_at n xs) at ∙ value-is p xs d place-below

  module _ (d : ℕ × X) (v : X) (new : List (ℕ × X)) (is : new ≡ set xs p ((get_or xs p d).0, v)) where
    pub put-index : IsIndex ps new
    put-index o q e = ap (key_in q) is ∙ key-put p q xs d v ∙ index o q e

    pub put-held : (o : ℕ) → held o (ps, new) ≡ cond (o == k) (Some v) (held o (ps, xs))
    put-held o = ap (λ l. held o (ps, l)) is ∙ go (slot o ps) refl
      where
        same : (m : ℕ) → (m == m) ≡ true
        same m = grind (arith, nat_tests)

        other : (m n : ℕ) → m ≢ n → (m == n) ≡ false
        other m n ne = grind (arith, nat_tests)

        inner : (q : ℕ) → slot o ps ≡ suc q → (b : Bool) → (o == k) ≡ b → cond (q == p) (Some v) (value_in q xs) ≡ cond b (Some v) (value_in q xs)
        inner q e true f =
            let is-p : suc q ≡ suc p = sym e ∙ ap (λ z. slot z ps) (eqb-true o k f) ∙ at in
            let is-q : q ≡ p = omega (arith, is-p) in
            ap (λ z. cond z (Some v) (value_in q xs)) (ap (λ z. z == p) is-q ∙ same p)
        inner q e false f =
            ap (λ z. cond z (Some v) (value_in q xs)) (other q p (λ h. absurd (apart (sym f ∙ ap (λ z. z == k) (some-same (sym (index o q e) ∙ ap (λ z. key_in z xs) h ∙ index k p at)) ∙ same k))))
          where
            apart : false ≡ true → ⊥
            apart e = cc

        go : (n : ℕ) → slot o ps ≡ n → value_at (slot o ps) (set xs p ((get_or xs p d).0, v)) ≡ cond (o == k) (Some v) (value_at (slot o ps) xs)
        go zero e = ap (λ n. value_at n (set xs p ((get_or xs p d).0, v))) e ∙ nothing (o == k) refl ∙ ap (λ n. cond (o == k) (Some v) (value_at n xs)) (sym e)
          where
            nothing : (b : Bool) → (o == k) ≡ b → None ≡ cond b (Some v) None
            nothing false f = refl
            nothing true f = absurd (apart (sym e ∙ ap (λ z. slot z ps) (eqb-true o k f) ∙ at))
              where
                apart : {n : ℕ} → 0 ≡ suc n → ⊥
                apart e = omega (arith, e)
        go (suc q) e = ap (λ n. value_at n (set xs p ((get_or xs p d).0, v))) e ∙ value-put p q xs (get_or xs p d).0 v place-below ∙ inner q e (o == k) refl ∙ ap (λ n. cond (o == k) (Some v) (value_at n xs)) (sym e)

-- The place that is told of an object, or none.

pub behind-is : (k n : ℕ) (ps qs : List ℕ) → n ≡ slot k qs → qs ≡ ps → n ≢ 0 → slot k ps ≡ suc (n - 1)
behind-is k n ps qs e is ne = sym (e ∙ ap (slot k) is) ∙ next n ne
  where
    next : (m : ℕ) → m ≢ 0 → m ≡ suc (m - 1)
    next zero h = absurd (h refl)
    next (suc m) h = omega arith

pub zero-is : (k n : ℕ) (ps qs : List ℕ) → n ≡ slot k qs → qs ≡ ps → n ≡ 0 → slot k ps ≡ 0
zero-is k n ps qs e is z = sym (e ∙ ap (slot k) is) ∙ z

pub none-held : {X : Type 0} (ps : List ℕ) (xs : List (ℕ × X)) (o : ℕ) → slot o ps ≡ 0 → held o (ps, xs) ≡ None
none-held ps xs o e = ap (λ n. value_at n xs) e

pub empty-slot : (ps : List ℕ) (o : ℕ) → ps ≡ [] → slot o ps ≡ 0
empty-slot ps o e = ap (slot o) e

unlike : {n : ℕ} → 0 ≡ suc n → ⊥
unlike e = omega (arith, e)

pub empty-index : {X : Type 0} (ps : List ℕ) (xs : List (ℕ × X)) → ps ≡ [] → IsIndex ps xs
empty-index ps xs e o p h = absurd (unlike (sym (empty-slot ps o e) ∙ h))

pub index-same : {X : Type 0} (ps new : List ℕ) (xs ys : List (ℕ × X)) → ((o : ℕ) → slot o new ≡ slot o ps) → ys ≡ xs → IsIndex ps xs → IsIndex new ys
index-same ps new xs ys same is h o p e = ap (key_in p) is ∙ h o p (sym (same o) ∙ e)

pub held-same : {X : Type 0} (ps new : List ℕ) (xs ys : List (ℕ × X)) → ((o : ℕ) → slot o new ≡ slot o ps) → ys ≡ xs → (o : ℕ) → value_at (slot o new) ys ≡ value_at (slot o ps) xs
held-same ps new xs ys same is o = ap (λ n. value_at n ys) (same o) ∙ ap (value_at (slot o ps)) is

-- One pair more.

key-front : {X : Type 0} (p : ℕ) (xs ys : List (ℕ × X)) → p < length xs → key_in p (xs ++ ys) ≡ key_in p xs
key-front p [] ys l = absurd (omega (arith, l))
key-front zero (x ∷ xs) ys l = refl
key-front (suc p) (x ∷ xs) ys l = key-front p xs ys (omega (arith, l))

key-last : {X : Type 0} (xs : List (ℕ × X)) (x : ℕ × X) → key_in (length xs) (xs ++ x ∷ []) ≡ Some x.0
key-last [] x = refl
key-last (y ∷ xs) x = key-last xs x

value-front : {X : Type 0} (p : ℕ) (xs ys : List (ℕ × X)) → p < length xs → value_in p (xs ++ ys) ≡ value_in p xs
value-front p [] ys l = absurd (omega (arith, l))
value-front zero (x ∷ xs) ys l = refl
value-front (suc p) (x ∷ xs) ys l = value-front p xs ys (omega (arith, l))

value-last : {X : Type 0} (xs : List (ℕ × X)) (x : ℕ × X) → value_in (length xs) (xs ++ x ∷ []) ≡ Some x.1
value-last [] x = refl
value-last (y ∷ xs) x = value-last xs x

module _ {X : Type 0} (ps mid : List ℕ) (xs ys : List (ℕ × X)) (k n : ℕ) (v : X) (same : (o : ℕ) → slot o mid ≡ slot o ps) (index : IsIndex ps xs) (long : k + 1 ≤ length mid)
    (is : ys ≡ xs ++ (k, v) ∷ []) (count : n ≡ length ys) where
  count-is : n ≡ suc (length xs)
  count-is = count ∙ ap length is ∙ more xs
    where
      more : (xs : List (ℕ × X)) → length (xs ++ (k, v) ∷ []) ≡ suc (length xs)
      more [] = refl
      more (x ∷ xs) = ap suc (more xs)

  own : slot k (set mid k n) ≡ n
  own = get_or-set_same mid k n 0 (omega (arith, long))

  other : (o : ℕ) → (o == k) ≡ false → slot o (set mid k n) ≡ slot o ps
  other o e = get_or-set_other mid k o n 0 (apart o e) ∙ same o
    where
      apart : (o : ℕ) → (o == k) ≡ false → o ≢ k
      apart o e = grind (arith, nat_tests)

  pub added-index : IsIndex (set mid k n) ys
  added-index o p e = ap (key_in p) is ∙ go (o == k) refl
    where
      go : (b : Bool) → (o == k) ≡ b → key_in p (xs ++ (k, v) ∷ []) ≡ Some o
      go true f =
          let here : o ≡ k = eqb-true o k f in
          let count-p : suc p ≡ suc (length xs) = sym e ∙ ap (λ z. slot z (set mid k n)) here ∙ own ∙ count-is in
          let last : p ≡ length xs = omega (arith, count-p) in
          ap (λ q. key_in q (xs ++ (k, v) ∷ [])) last ∙ key-last xs (k, v) ∙ ap Some (sym here)
      go false f = let known : key_in p xs ≡ Some o = index o p (sym (other o f) ∙ e) in key-front p xs ((k, v) ∷ []) (key-below p xs o known) ∙ known

  pub added-held : (o : ℕ) → value_at (slot o (set mid k n)) ys ≡ cond (o == k) (Some v) (value_at (slot o ps) xs)
  added-held o = ap (value_at (slot o (set mid k n))) is ∙ go (o == k) refl
    where
      still : (m : ℕ) → slot o ps ≡ m → value_at m (xs ++ (k, v) ∷ []) ≡ value_at m xs
      still zero e = refl
      still (suc p) e = value-front p xs ((k, v) ∷ []) (key-below p xs o (index o p e))

      go : (b : Bool) → (o == k) ≡ b → value_at (slot o (set mid k n)) (xs ++ (k, v) ∷ []) ≡ cond b (Some v) (value_at (slot o ps) xs)
      go true f = ap (λ m. value_at m (xs ++ (k, v) ∷ [])) (ap (λ z. slot z (set mid k n)) (eqb-true o k f) ∙ own ∙ count-is) ∙ value-last xs (k, v)
      go false f = ap (λ m. value_at m (xs ++ (k, v) ∷ [])) (other o f) ∙ still (slot o ps) refl

-- The places of the pairs before one are forgotten.

abbrev pub IsForgotten : {X : Type 0} → ℕ → List ℕ → List (ℕ × X) → Type 0
IsForgotten at ps xs = (o p : ℕ) → slot o ps ≡ suc p → (at ≤ p) × (key_in p xs ≡ Some o)

pub none-forgotten : {X : Type 0} (ps : List ℕ) (xs : List (ℕ × X)) → IsIndex ps xs → IsForgotten 0 ps xs
none-forgotten ps xs h o p e = (omega arith, h o p e)

pub one-forgotten : {X : Type 0} (at : ℕ) (ps new : List ℕ) (xs : List (ℕ × X)) (x : ℕ × X) → at < length xs → x ≡ get_or xs at x → ((o : ℕ) → slot o new ≡ cond (o == x.0) 0 (slot o ps)) → IsForgotten at ps xs → IsForgotten (at + 1) new xs
one-forgotten {X} at ps new xs x l is next h o p e = go (o == x.0) refl
  where
    go : (b : Bool) → (o == x.0) ≡ b → (at + 1 ≤ p) × (key_in p xs ≡ Some o)
    go true f = absurd (unlike (sym (next o ∙ ap (λ b. cond b 0 (slot o ps)) f) ∙ e))
    go false f =
        let known = h o p (sym (next o ∙ ap (λ b. cond b 0 (slot o ps)) f) ∙ e) in
        (above known.0 (λ same. absurd (differ (sym f ∙ ap (λ z. z == x.0) (some-same (sym known.1 ∙ ap (λ q. key_in q xs) same ∙ key-is at xs x l ∙ ap (λ (y : ℕ × X). Some y.0) (sym is))) ∙ itself x.0))), known.1)
      where
        above : at ≤ p → p ≢ at → at + 1 ≤ p
        above u ne = omega (arith, u, ne)

        itself : (m : ℕ) → (m == m) ≡ true
        itself m = grind (arith, nat_tests)

        differ : false ≡ true → ⊥
        differ e = cc

pub all-forgotten : {X : Type 0} (n : ℕ) (ps : List ℕ) (xs : List (ℕ × X)) → length xs ≤ n → IsForgotten n ps xs → (o : ℕ) → slot o ps ≡ 0
all-forgotten n ps xs l h o = go (slot o ps) refl
  where
    go : (m : ℕ) → slot o ps ≡ m → slot o ps ≡ 0
    go zero e = e
    go (suc p) e = let known = h o p e in let low = key-below p xs o known.1 in absurd (omega (arith, low, l, known.0))

pub on-err : {A E : Type 0} {P : Type 0} (r : Result A E) → P → OnErr r P
on-err (Ok x) p = tt
on-err (Err e) p = p

pub forgotten-index : {X : Type 0} (ps : List ℕ) (xs : List (ℕ × X)) → ((o : ℕ) → slot o ps ≡ 0) → IsIndex ps xs
forgotten-index ps xs h o p e = absurd (unlike (sym (h o) ∙ e))
