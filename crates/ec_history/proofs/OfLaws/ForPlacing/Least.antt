-- The closure as a list is the least set, and sets that hold what their members need.
use Rattle.std.proofs.Common.{◌≡◌, refl, sym, ap, subst, ◌∙◌, inl, inr, arith, ◌<◌, ◌⊎◌, ℕ, zero, suc, T, Bool, true, false, not, ◌==◌, ◌&&◌, ◌||◌, cond, List, [], ◌∷◌, take}
use Rattle.std.specs.Prelude.{⊤, map}
use Rattle.std.specs.Ordering.{nat_cmp, is_lt}
use Rattle.std.specs.FinMap.{is_sorted}
use Rattle.std.specs.FinMap.Entries.{below_all}
use Rattle.std.specs.List.{filter, list_any, list_all}
use Rattle.std.proofs.lemmas.Bool.{cases_Bool, and_parts, and_from, or_cases, eqb-true, true≢false}
use Rattle.ec_volume.specs.Update.{member}
use Rattle.ec_volume.specs.declared.update.Update.{Update}
use Rattle.ec_order.specs.Order.{Issued, Holds, InClosure, ask, need, closure, needs}
use Rattle.ec_history.specs.OfLaws.Needs.{holds_needed}
use Rattle.ec_base.proofs.Bools.{or-right as or_r, both, first as left, right, or_first as or_l, on as holds, is-true}
use Rattle.ec_base.proofs.Numbers.{less-tested, less}

-- Rising numbers.

abbrev Above : ℕ → Issued → Type 0
Above m [] = ⊤
Above m (x ∷ xs) = (m < x.0) × Above m xs

abbrev Rising : Issued → Type 0
Rising [] = ⊤
Rising (x ∷ xs) = Above x.0 xs × Rising xs

above-from : (m : ℕ) (xs : Issued) → T (below_all nat_cmp m xs) → Above m xs
above-from m [] h = tt
above-from m (x ∷ xs) h = (less m x.0 (is-true _ (left (is_lt (nat_cmp m x.0)) (below_all nat_cmp m xs) h)), above-from m xs (right (is_lt (nat_cmp m x.0)) (below_all nat_cmp m xs) h))

rising-from : (xs : Issued) → T (is_sorted nat_cmp xs) → Rising xs
rising-from [] h = tt
rising-from (x ∷ xs) h = (above-from x.0 xs (left (below_all nat_cmp x.0 xs) (is_sorted nat_cmp xs) h), rising-from xs (right (below_all nat_cmp x.0 xs) (is_sorted nat_cmp xs) h))

below-from : (m : ℕ) (xs : Issued) → Above m xs → T (below_all nat_cmp m xs)
below-from m [] a = tt
below-from m (x ∷ xs) a = both (is_lt (nat_cmp m x.0)) (below_all nat_cmp m xs) (holds (less-tested m x.0 a.0)) (below-from m xs a.1)

sorted-from : (xs : Issued) → Rising xs → T (is_sorted nat_cmp xs)
sorted-from [] r = tt
sorted-from (x ∷ xs) r = both (below_all nat_cmp x.0 xs) (is_sorted nat_cmp xs) (below-from x.0 xs r.0) (sorted-from xs r.1)

above-holds : (m : ℕ) (xs : Issued) → Above m xs → (n : ℕ) (u : Update) → Holds xs n u → m < n
above-holds m [] a n u h = absurd h
above-holds m (x ∷ xs) a n u (inl h) = omega (arith, a.0, h.0)
above-holds m (x ∷ xs) a n u (inr h) = above-holds m xs a.1 n u h

holds-unique : (xs : Issued) → Rising xs → (n : ℕ) (u w : Update) → Holds xs n u → Holds xs n w → u ≡ w
holds-unique [] r n u w h k = absurd h
holds-unique (x ∷ xs) r n u w (inl h) (inl k) = sym h.1 ∙ k.1
holds-unique (x ∷ xs) r n u w (inl h) (inr k) = absurd (omega (arith, above-holds x.0 xs r.0 n w k, h.0))
holds-unique (x ∷ xs) r n u w (inr h) (inl k) = absurd (omega (arith, above-holds x.0 xs r.0 n u h, k.0))
holds-unique (x ∷ xs) r n u w (inr h) (inr k) = holds-unique xs r.1 n u w h k

module _ (asked : ℕ → Bool) where
  pub closure-sub : (xs : Issued) (n : ℕ) (u : Update) → Holds (closure asked xs) n u → Holds xs n u
  closure-sub [] n u h = h
  closure-sub (x ∷ xs) n u h =
      let rest : Holds (closure asked xs) n u → Holds xs n u = closure-sub xs n u in
      elim (asked x.0 || list_any (λ y. needs x.1 y.1) (closure asked xs)) as (λ b. Holds (cond b (x ∷ closure asked xs) (closure asked xs)) n u → Holds (x ∷ xs) n u) [
        | true ↦ elim [ inl e ↦ inl e | inr k ↦ inr (rest k) ]
        | false ↦ λ k. inr (rest k)
      ] h

  keeps : (b : Bool) (x : ℕ × Update) (xs : Issued) (n : ℕ) (u : Update) → Holds xs n u → Holds (cond b (x ∷ xs) xs) n u
  keeps true x xs n u h = inr h
  keeps false x xs n u h = h

  takes : (b : Bool) (x : ℕ × Update) (xs : Issued) → T b → Holds (cond b (x ∷ xs) xs) x.0 x.1
  takes true x xs h = inl (refl, refl)
  takes false x xs h = absurd h

  -- what is in the list for x and xs, and isn't x, is in the list for xs
  later : (b : Bool) (x : ℕ × Update) (xs : Issued) (n : ℕ) (u : Update) → x.0 < n → Holds (cond b (x ∷ xs) xs) n u → Holds xs n u
  later true x xs n u l (inl e) = absurd (omega (arith, l, e.0))
  later true x xs n u l (inr h) = h
  later false x xs n u l h = h

  any-holds : (a : Update) (xs : Issued) (n : ℕ) (b : Update) → Holds xs n b → T (needs a b) → T (list_any (λ y. needs a y.1) xs)
  any-holds a [] n b h t = absurd h
  any-holds a (x ∷ xs) n b (inl e) t = or_l (needs a x.1) (list_any (λ y. needs a y.1) xs) (subst (λ u. T (needs a u)) (sym e.1) t)
  any-holds a (x ∷ xs) n b (inr h) t = or_r (needs a x.1) (list_any (λ y. needs a y.1) xs) (any-holds a xs n b h t)

  asked-in : (xs : Issued) (n : ℕ) (u : Update) → Holds xs n u → T (asked n) → Holds (closure asked xs) n u
  asked-in [] n u h t = h
  asked-in (x ∷ xs) n u (inl e) t =
      let here : Holds (closure asked (x ∷ xs)) x.0 x.1 = takes _ x (closure asked xs) (or_l _ _ (subst (λ m. T (asked m)) (sym e.0) t)) in
      subst (λ m. Holds (closure asked (x ∷ xs)) m u) e.0 (subst (λ w. Holds (closure asked (x ∷ xs)) x.0 w) e.1 here)
  asked-in (x ∷ xs) n u (inr h) t = keeps _ x (closure asked xs) n u (asked-in xs n u h t)

  needed-in : (xs : Issued) → Rising xs → (m n : ℕ) (a b : Update) → Holds xs m a → Holds xs n b → m < n → T (needs a b) → Holds (closure asked xs) n b → Holds (closure asked xs) m a
  needed-in [] r m n a b h k l t c = absurd h
  needed-in (x ∷ xs) r m n a b (inl e) k l t c =
      let below : x.0 < n = omega (arith, l, e.0) in
      let c' : Holds (closure asked xs) n b = later _ x (closure asked xs) n b below c in
      let t' : T (needs x.1 b) = subst (λ u. T (needs u b)) (sym e.1) t in
      let here : Holds (closure asked (x ∷ xs)) x.0 x.1 = takes _ x (closure asked xs) (or_r _ _ (any-holds x.1 (closure asked xs) n b c' t')) in
      subst (λ i. Holds (closure asked (x ∷ xs)) i a) e.0 (subst (λ w. Holds (closure asked (x ∷ xs)) x.0 w) e.1 here)
  needed-in (x ∷ xs) r m n a b (inr h) k l t c =
      let above : x.0 < m = above-holds x.0 xs r.0 m a h in
      let below : x.0 < n = omega (arith, above, l) in
      keeps _ x (closure asked xs) m a (needed-in xs r.1 m n a b h (later true x xs n b below k) l t (later _ x (closure asked xs) n b below c))

  -- the list has all that the closure has
  pub closure-complete : (xs : Issued) → Rising xs → {n : ℕ} → InClosure xs asked n → (u : Update) × Holds (closure asked xs) n u
  closure-complete xs r (ask n u h t) = (u, asked-in xs n u h t)
  closure-complete xs r (need m n a b h k l t c) =
      let found = closure-complete xs r c in
      let same : found.0 ≡ b = holds-unique xs r n found.0 b (closure-sub xs n found.0 found.1) k in
      (a, needed-in xs r m n a b h k l t (subst (λ u. Holds (closure asked xs) n u) same found.1))

  -- and no more
  any-needed : (a : Update) (xs : Issued) → T (list_any (λ y. needs a y.1) xs) → (n : ℕ) × (b : Update) × Holds xs n b × T (needs a b)
  any-needed a [] t = absurd t
  any-needed a (x ∷ xs) t = pick (needs a x.1) refl t (λ t'. any-needed a xs t')
    where
      pick : (p : Bool) → needs a x.1 ≡ p → T (p || list_any (λ y. needs a y.1) xs) → (T (list_any (λ y. needs a y.1) xs) → (n : ℕ) × (b : Update) × Holds xs n b × T (needs a b)) → (n : ℕ) × (b : Update) × Holds (x ∷ xs) n b × T (needs a b)
      pick true e t more = (x.0, x.1, inl (refl, refl), subst T (sym e) tt)
      pick false e t more = let f = more t in (f.0, f.1, inr f.2, f.3)

  wider : (x : ℕ × Update) (xs : Issued) {n : ℕ} → InClosure xs asked n → InClosure (x ∷ xs) asked n
  wider x xs (ask n u h t) = ask n u (inr h) t
  wider x xs (need m n a b h k l t c) = need m n a b (inr h) (inr k) l t (wider x xs c)

  either : (p q : Bool) → T (p || q) → T p ⊎ T q
  either true q h = inl tt
  either false q h = inr h

  pub closure-least : (xs : Issued) → Rising xs → (n : ℕ) (u : Update) → Holds (closure asked xs) n u → InClosure xs asked n
  closure-least [] r n u h = absurd h
  closure-least (x ∷ xs) r n u h = go _ refl h (λ n' u' h'. wider x xs (closure-least xs r.1 n' u' h'))
    where
      test : Bool
      test = asked x.0 || list_any (λ y. needs x.1 y.1) (closure asked xs)

      first : T (asked x.0 || list_any (λ y. needs x.1 y.1) (closure asked xs)) → ((n' : ℕ) (u' : Update) → Holds (closure asked xs) n' u' → InClosure (x ∷ xs) asked n') → InClosure (x ∷ xs) asked x.0
      first t rest = elim (either (asked x.0) (list_any (λ y. needs x.1 y.1) (closure asked xs)) t) [
        | inl a ↦ ask x.0 x.1 (inl (refl, refl)) a
        | inr a ↦
            let f = any-needed x.1 (closure asked xs) a in
            let k = closure-sub xs f.0 f.1 f.2 in
            need x.0 f.0 x.1 f.1 (inl (refl, refl)) (inr k) (above-holds x.0 xs r.0 f.0 f.1 k) f.3 (rest f.0 f.1 f.2)
      ]

      go : (b : Bool) → (asked x.0 || list_any (λ y. needs x.1 y.1) (closure asked xs)) ≡ b → Holds (cond b (x ∷ closure asked xs) (closure asked xs)) n u → ((n' : ℕ) (u' : Update) → Holds (closure asked xs) n' u' → InClosure (x ∷ xs) asked n') → InClosure (x ∷ xs) asked n
      go true e (inl k) rest = subst (λ m. InClosure (x ∷ xs) asked m) k.0 (first (subst T (sym e) tt) rest)
      go true e (inr k) rest = rest n u k
      go false e k rest = rest n u k

  closure-above : (m : ℕ) (xs : Issued) → Above m xs → Above m (closure asked xs)
  closure-above m [] a = tt
  closure-above m (x ∷ xs) a = go (asked x.0 || list_any (λ y. needs x.1 y.1) (closure asked xs)) (closure-above m xs a.1)
    where
      go : (b : Bool) → Above m (closure asked xs) → Above m (cond b (x ∷ closure asked xs) (closure asked xs))
      go true k = (a.0, k)
      go false k = k

  closure-rising : (xs : Issued) → Rising xs → Rising (closure asked xs)
  closure-rising [] r = tt
  closure-rising (x ∷ xs) r = go (asked x.0 || list_any (λ y. needs x.1 y.1) (closure asked xs)) (closure-above x.0 xs r.0) (closure-rising xs r.1)
    where
      go : (b : Bool) → Above x.0 (closure asked xs) → Rising (closure asked xs) → Rising (cond b (x ∷ closure asked xs) (closure asked xs))
      go true a k = (a, k)
      go false a k = k

-- Sets of numbers that hold, with each operation, those that it needs.

abbrev numbers_of : Issued → List ℕ
numbers_of xs = map (λ x. x.0) xs

abbrev ByNumber : Issued → (ℕ → Bool) → Type 0
ByNumber xs inside = (m n : ℕ) (a b : Update) → Holds xs m a → Holds xs n b → m < n → T (needs a b) → T (inside n) → T (inside m)

all-holds : (p : ℕ × Update → Bool) (xs : Issued) → list_all p xs ≡ true → (n : ℕ) (u : Update) → Holds xs n u → p (n, u) ≡ true
all-holds p [] h n u k = absurd k
all-holds p (x ∷ xs) h n u (inl e) = ap (λ m. p (m, u)) (sym e.0) ∙ ap (λ w. p (x.0, w)) (sym e.1) ∙ (and_parts (p x) (list_all p xs) h).0
all-holds p (x ∷ xs) h n u (inr k) = all-holds p xs (and_parts (p x) (list_all p xs) h).1 n u k

all-from : (p : ℕ × Update → Bool) (xs : Issued) → ((n : ℕ) (u : Update) → Holds xs n u → p (n, u) ≡ true) → list_all p xs ≡ true
all-from p [] h = refl
all-from p (x ∷ xs) h = and_from (p x) (list_all p xs) (h x.0 x.1 (inl (refl, refl))) (all-from p xs (λ n u k. h n u (inr k)))

module _ (inside : ℕ → Bool) where
  by-number : (xs : Issued) → Rising xs → holds_needed (λ x. x.1) (λ x. inside x.0) xs ≡ true → ByNumber xs inside
  by-number [] r h m n a b i j l t k = absurd i
  by-number (x ∷ xs) r h m n a b (inl i) (inl j) l t k = absurd (omega (arith, l, i.0, j.0))
  by-number (x ∷ xs) r h m n a b (inl i) (inr j) l t k =
      let parts = and_parts (inside x.0 || list_all (λ y. not (inside y.0 && needs x.1 y.1)) xs) (holds_needed (λ x. x.1) (λ x. inside x.0) xs) h in
      elim (or_cases (inside x.0) (list_all (λ y. not (inside y.0 && needs x.1 y.1)) xs) parts.0) [
        | inl e ↦ holds (ap inside (sym i.0) ∙ e)
        | inr e ↦
            let no : not (inside n && needs x.1 b) ≡ true = all-holds (λ y. not (inside y.0 && needs x.1 y.1)) xs e n b j in
            let yes : (inside n && needs x.1 b) ≡ true = and_from (inside n) (needs x.1 b) (is-true _ k) (ap (λ w. needs w b) i.1 ∙ is-true _ t) in
            absurd (true≢false (sym no ∙ ap not yes))
      ]
  by-number (x ∷ xs) r h m n a b (inr i) (inl j) l t k = absurd (omega (arith, l, above-holds x.0 xs r.0 m a i, j.0))
  by-number (x ∷ xs) r h m n a b (inr i) (inr j) l t k =
      by-number xs r.1 (and_parts (inside x.0 || list_all (λ y. not (inside y.0 && needs x.1 y.1)) xs) (holds_needed (λ x. x.1) (λ x. inside x.0) xs) h).1 m n a b i j l t k

  from-number : (xs : Issued) → Rising xs → ByNumber xs inside → holds_needed (λ x. x.1) (λ x. inside x.0) xs ≡ true
  from-number [] r h = refl
  from-number (x ∷ xs) r h =
      and_from (inside x.0 || list_all (λ y. not (inside y.0 && needs x.1 y.1)) xs) (holds_needed (λ x. x.1) (λ x. inside x.0) xs)
      (elim (cases_Bool (inside x.0)) [
        | inl e ↦ ap (λ b. b || list_all (λ y. not (inside y.0 && needs x.1 y.1)) xs) e
        | inr e ↦ ap (λ b. b || list_all (λ y. not (inside y.0 && needs x.1 y.1)) xs) e ∙ all-from (λ y. not (inside y.0 && needs x.1 y.1)) xs (λ n u k. unneeded e n u k)
      ]) (from-number xs r.1 (λ m n a b i j. h m n a b (inr i) (inr j)))
    where
      unneeded : inside x.0 ≡ false → (n : ℕ) (u : Update) → Holds xs n u → not (inside n && needs x.1 u) ≡ true
      unneeded e n u k = elim (cases_Bool (inside n && needs x.1 u)) [
        | inr f ↦ ap not f
        | inl f ↦
            let parts = and_parts (inside n) (needs x.1 u) f in
            absurd (true≢false (sym (is-true _ (h x.0 n x.1 u (inl (refl, refl)) (inr k) (above-holds x.0 xs r.0 n u k) (holds parts.1) (holds parts.0))) ∙ e))
      ]

  -- it holds the closure of what it holds
  closure-inside : (xs : Issued) (asked : ℕ → Bool) → ByNumber xs inside → ((n : ℕ) (u : Update) → Holds xs n u → T (asked n) → T (inside n)) → (n : ℕ) → InClosure xs asked n → T (inside n)
  closure-inside xs asked h q n (ask m u k t) = q m u k t
  closure-inside xs asked h q n (need m l a b i j s t c) = h m l a b i j s t (closure-inside xs asked h q l c)

-- Closures among a part of the operations.

module _ (q : ℕ × Update → Bool) where
  holds-front : (xs : Issued) (n : ℕ) (u : Update) → Holds (filter q xs) n u → Holds xs n u
  holds-front [] n u h = h
  holds-front (x ∷ xs) n u h = go (q x) h (holds-front xs n u)
    where
      go : (b : Bool) → Holds (cond b (x ∷ filter q xs) (filter q xs)) n u → (Holds (filter q xs) n u → Holds xs n u) → Holds (x ∷ xs) n u
      go true (inl e) r = inl e
      go true (inr k) r = inr (r k)
      go false k r = inr (r k)

  holds-kept : (xs : Issued) (n : ℕ) (u : Update) → Holds xs n u → q (n, u) ≡ true → Holds (filter q xs) n u
  holds-kept [] n u h t = h
  holds-kept (x ∷ xs) n u (inl e) t =
      let here : q x ≡ true = ap (λ m. q (m, x.1)) e.0 ∙ ap (λ w. q (n, w)) e.1 ∙ t in
      subst (λ b. Holds (cond b (x ∷ filter q xs) (filter q xs)) n u) (sym here) (inl e)
  holds-kept (x ∷ xs) n u (inr h) t = go (q x) (holds-kept xs n u h t)
    where
      go : (b : Bool) → Holds (filter q xs) n u → Holds (cond b (x ∷ filter q xs) (filter q xs)) n u
      go true k = inr k
      go false k = k

  pub closure-more : (xs : Issued) (asked : ℕ → Bool) (n : ℕ) → InClosure (filter q xs) asked n → InClosure xs asked n
  closure-more xs asked n (ask m u k t) = ask m u (holds-front xs m u k) t
  closure-more xs asked n (need m l a b i j s t c) = need m l a b (holds-front xs m a i) (holds-front xs l b j) s t (closure-more xs asked l c)

module _ (done : ℕ → Bool) where
  closure-outside : (xs : Issued) (asked : ℕ → Bool) → ByNumber xs done → (n : ℕ) → InClosure xs asked n → done n ≡ false → InClosure (filter (λ x. not (done x.0)) xs) asked n
  closure-outside xs asked h n (ask m u k t) e = ask m u (holds-kept (λ x. not (done x.0)) xs m u k (ap not e)) t
  closure-outside xs asked h n (need m l a b i j s t c) e = elim (cases_Bool (done l)) [
    | inl y ↦ absurd (true≢false (sym (is-true _ (h m l a b i j s t (holds y))) ∙ e))
    | inr f ↦
        need m l a b (holds-kept (λ x. not (done x.0)) xs m a i (ap not e)) (holds-kept (λ x. not (done x.0)) xs l b j (ap not f)) s t (closure-outside xs asked h l c f)
  ]

-- Members by their numbers.

number-of : (xs : Issued) (n : ℕ) (u : Update) → Holds xs n u → T (member n (numbers_of xs))
number-of [] n u h = absurd h
number-of (x ∷ xs) n u (inl e) = or_l (n == x.0) (member n (numbers_of xs)) (subst (λ m. T (n == m)) (sym e.0) (holds (self n)))
  where
    self : (m : ℕ) → (m == m) ≡ true
    self m = grind arith
number-of (x ∷ xs) n u (inr h) = or_r (n == x.0) (member n (numbers_of xs)) (number-of xs n u h)

held-by : (xs : Issued) (n : ℕ) → member n (numbers_of xs) ≡ true → (u : Update) × Holds xs n u
held-by [] n h = absurd (true≢false (sym h))
held-by (x ∷ xs) n h = elim (or_cases (n == x.0) (member n (numbers_of xs)) h) [
  | inl e ↦ (x.1, inl (sym (eqb-true n x.0 e), refl))
  | inr e ↦ let f = held-by xs n e in (f.0, inr f.1)
]

-- the first of a rising list hold each smaller number of the list
taken-number : (k : ℕ) (ys : Issued) → Rising ys → (m n : ℕ) → m < n → member m (numbers_of ys) ≡ true → member n (numbers_of (take k ys)) ≡ true → member m (numbers_of (take k ys)) ≡ true
taken-number k [] r m n l h i = absurd (true≢false (sym h))
taken-number zero (y ∷ ys) r m n l h i = absurd (true≢false (sym i))
taken-number (suc k) (y ∷ ys) r m n l h i = elim (or_cases (m == y.0) (member m (numbers_of ys)) h) [
  | inl e ↦ ap (λ b. b || member m (numbers_of (take k ys))) e
  | inr e ↦
      let f = held-by ys m e in
      let above : y.0 < m = above-holds y.0 ys r.0 m f.0 f.1 in
      elim (or_cases (n == y.0) (member n (numbers_of (take k ys))) i) [
        | inl g ↦ absurd (omega (arith, above, l, eqb-true n y.0 g))
        | inr g ↦ is-true _ (or_r (m == y.0) (member m (numbers_of (take k ys))) (holds (taken-number k ys r.1 m n l e g)))
      ]
]

-- The laws.

pub list-complete : (issued : Issued) (asked : ℕ → Bool) (n : ℕ) → T (is_sorted nat_cmp issued) → InClosure issued asked n → (u : Update) × Holds (closure asked issued) n u
list-complete issued asked n s c = closure-complete asked issued (rising-from issued s) c

pub list-least : (issued : Issued) (asked : ℕ → Bool) (n : ℕ) → T (is_sorted nat_cmp issued) → (u : Update) → Holds (closure asked issued) n u → InClosure issued asked n
list-least issued asked n s u h = closure-least asked issued (rising-from issued s) n u h

pub list-part : (issued : Issued) (asked : ℕ → Bool) (n : ℕ) (u : Update) → Holds (closure asked issued) n u → Holds issued n u
list-part issued asked n u h = closure-sub asked issued n u h

pub list-sorted : (issued : Issued) (asked : ℕ → Bool) → T (is_sorted nat_cmp issued) → T (is_sorted nat_cmp (closure asked issued))
list-sorted issued asked s = sorted-from (closure asked issued) (closure-rising asked issued (rising-from issued s))

pub needed-by_number : (issued : Issued) (inside : ℕ → Bool) → T (is_sorted nat_cmp issued) → T (holds_needed (λ x. x.1) (λ x. inside x.0) issued) → ByNumber issued inside
needed-by_number issued inside s h = by-number inside issued (rising-from issued s) (is-true _ h)

pub needed-from_numbers : (issued : Issued) (inside : ℕ → Bool) → T (is_sorted nat_cmp issued) → ByNumber issued inside → T (holds_needed (λ x. x.1) (λ x. inside x.0) issued)
needed-from_numbers issued inside s h = holds (from-number inside issued (rising-from issued s) h)

pub closure-needed : (issued : Issued) (asked : ℕ → Bool) → T (is_sorted nat_cmp issued) → T (holds_needed (λ x. x.1) (λ x. member x.0 (map (λ y. y.0) (closure asked issued))) issued)
closure-needed issued asked s = needed-from_numbers issued (λ n. member n (numbers_of (closure asked issued))) s closed
  where
    closed : ByNumber issued (λ n. member n (numbers_of (closure asked issued)))
    closed m n a b i j l t h =
        let f = held-by (closure asked issued) n (is-true _ h) in
        let g = list-complete issued asked m s (need m n a b i j l t (list-least issued asked n s f.0 f.1)) in
        number-of (closure asked issued) m g.0 g.1

pub closure-within : (issued : Issued) (asked inside : ℕ → Bool) → T (is_sorted nat_cmp issued) → T (holds_needed (λ x. x.1) (λ x. inside x.0) issued)
    → ((n : ℕ) (u : Update) → Holds issued n u → T (asked n) → T (inside n)) → (n : ℕ) → InClosure issued asked n → T (inside n)
closure-within issued asked inside s h q n c = closure-inside inside issued asked (needed-by_number issued inside s h) q n c

pub taken-needed : (issued ys : Issued) (k : ℕ) → T (is_sorted nat_cmp issued) → T (is_sorted nat_cmp ys) → T (holds_needed (λ x. x.1) (λ x. member x.0 (map (λ y. y.0) ys)) issued)
    → T (holds_needed (λ x. x.1) (λ x. member x.0 (map (λ y. y.0) (take k ys))) issued)
taken-needed issued ys k s r h = needed-from_numbers issued (λ n. member n (numbers_of (take k ys))) s closed
  where
    front : (k : ℕ) (ys : Issued) (n : ℕ) → member n (numbers_of (take k ys)) ≡ true → member n (numbers_of ys) ≡ true
    front zero ys n e = absurd (true≢false (sym e))
    front (suc k) [] n e = e
    front (suc k) (y ∷ ys) n e = elim (or_cases (n == y.0) (member n (numbers_of (take k ys))) e) [
      | inl f ↦ ap (λ b. b || member n (numbers_of ys)) f
      | inr f ↦ is-true _ (or_r (n == y.0) (member n (numbers_of ys)) (holds (front k ys n f)))
    ]

    closed : ByNumber issued (λ n. member n (numbers_of (take k ys)))
    closed m n a b i j l t e =
        let whole : T (member m (numbers_of ys)) = needed-by_number issued (λ n. member n (numbers_of ys)) s h m n a b i j l t (holds (front k ys n (is-true _ e))) in
        holds (taken-number k ys (rising-from ys r) m n l (is-true _ whole) (is-true _ e))

pub closure-rest : (issued : Issued) (asked done : ℕ → Bool) (n : ℕ) → T (is_sorted nat_cmp issued) → T (holds_needed (λ x. x.1) (λ x. done x.0) issued)
    → InClosure issued asked n → done n ≡ false → InClosure (filter (λ x. not (done x.0)) issued) asked n
closure-rest issued asked done n s h c e = closure-outside done issued asked (needed-by_number issued done s h) n c e
