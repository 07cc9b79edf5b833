-- Tables with rising keys: how many keys stand in one, and sums over it.
use Rattle.std.proofs.Common.{◌≡◌, refl, sym, ap, ◌∙◌, subst, arith, ◌≤◌, ◌+◌, ℕ, T, Bool, true, false, not, ◌==◌, ◌||◌, cond, List, [], ◌∷◌, length, filter, Some}
use Rattle.std.specs.Ordering.{nat_cmp, is_lt, eq_by_cmp}
use Rattle.std.specs.FinMap.{is_sorted}
use Rattle.std.specs.FinMap.Entries.{below_all}
use Rattle.std.proofs.lemmas.Bool.{eqb-true}
use Rattle.std.proofs.lemmas.Bool.Decides.{nat_tests}
use Rattle.ec_base.specs.SortedLaws.{first, second}
use Rattle.ec_base.specs.Tables.{Table, at, keys, once}
use Rattle.ec_volume.specs.Update.{member}
use Rattle.ec_coherence.proofs.ForServer.Tables.{same_some}
use Rattle.ec_machine_laws.proofs.Once.{AreOnce, fewer, keys-length}
use Rattle.ec_quiet.specs.Measure.{sum}
use Rattle.ec_base.proofs.Options.{none_some}

-- Numbers, each once.

-- another number is still there where one is left out
others-stay : (n m : ℕ) (ks : List ℕ) → (n == m) ≡ false → T (member n ks) → T (member n (filter (λ j. not (j == m)) ks))
others-stay n m [] e h = h
others-stay n m (k ∷ ks) e h = go (n == k) refl h (others-stay n m ks e)
  where
    later : (b : Bool) → T (member n (filter (λ j. not (j == m)) ks)) → T (member n (cond b (k ∷ filter (λ j. not (j == m)) ks) (filter (λ j. not (j == m)) ks)))
    later true r = behind (n == k) r
      where
        behind : (a : Bool) → T (member n (filter (λ j. not (j == m)) ks)) → T (a || member n (filter (λ j. not (j == m)) ks))
        behind true r = tt
        behind false r = r
    later false r = r

    go : (b : Bool) → (n == k) ≡ b → T (b || member n ks) → (T (member n ks) → T (member n (filter (λ j. not (j == m)) ks)))
        → T (member n (cond (not (k == m)) (k ∷ filter (λ j. not (j == m)) ks) (filter (λ j. not (j == m)) ks)))
    go true s h r =
        subst (λ b. T (member n (cond (not b) (k ∷ filter (λ j. not (j == m)) ks) (filter (λ j. not (j == m)) ks)))) (sym (ap (λ x. x == m) (sym (eqb-true n k s)) ∙ e))
        (subst (λ b. T (b || member n (filter (λ j. not (j == m)) ks))) (sym s) tt)
    go false s h r = later (not (k == m)) (r h)

once-has : (n : ℕ) (ns : List ℕ) → T (member n ns) → T (member n (once ns))
once-has n [] h = h
once-has n (m ∷ ns) h = go (n == m) refl h (once-has n ns)
  where
    go : (b : Bool) → (n == m) ≡ b → T (b || member n ns) → (T (member n ns) → T (member n (once ns))) → T (b || member n (filter (λ j. not (j == m)) (once ns)))
    go true s h r = tt
    go false s h r = others-stay n m (once ns) s (r h)

-- Keys.

above-one : (m k : ℕ) → T (is_lt (nat_cmp m k)) → (k == m) ≡ false
above-one m k h = grind (arith, nat_tests, h)

module _ {X : Type 0} where
  at-first : (e : ℕ × X) (es : Table X) → at e.0 (e ∷ es) ≡ Some e.1
  at-first e es = ap (λ b. cond b (Some e.1) (at e.0 es)) self
    where
      self : eq_by_cmp nat_cmp e.0 e.0 ≡ true
      self = grind (arith, nat_tests)

  keys-above : (m : ℕ) (es : Table X) → T (below_all nat_cmp m es) → (y : ℕ) → T (member y (keys es)) → (y == m) ≡ false
  keys-above m [] b y t = absurd t
  keys-above m (e ∷ es) b y t = go (y == e.0) refl t (keys-above m es (second (is_lt (nat_cmp m e.0)) (below_all nat_cmp m es) b) y)
    where
      go : (z : Bool) → (y == e.0) ≡ z → T (z || member y (keys es)) → (T (member y (keys es)) → (y == m) ≡ false) → (y == m) ≡ false
      go true q t r = ap (λ x. x == m) (eqb-true y e.0 q) ∙ above-one m e.0 (first (is_lt (nat_cmp m e.0)) (below_all nat_cmp m es) b)
      go false q t r = r t

  sorted-once : (es : Table X) → T (is_sorted nat_cmp es) → AreOnce (keys es)
  sorted-once [] s = tt
  sorted-once (e ∷ es) s = (keys-above e.0 es (first (below_all nat_cmp e.0 es) (is_sorted nat_cmp es) s), sorted-once es (second (below_all nat_cmp e.0 es) (is_sorted nat_cmp es) s))

  at-key : (y : ℕ) (es : Table X) → T (member y (keys es)) → (x : X) × (at y es ≡ Some x)
  at-key y [] t = absurd t
  at-key y (e ∷ es) t = go (eq_by_cmp nat_cmp y e.0) refl t (at-key y es)
    where
      apart : eq_by_cmp nat_cmp y e.0 ≡ false → (y == e.0) ≡ false
      apart q = grind (arith, nat_tests, q)

      go : (z : Bool) → eq_by_cmp nat_cmp y e.0 ≡ z → T ((y == e.0) || member y (keys es)) → (T (member y (keys es)) → (x : X) × (at y es ≡ Some x)) → (x : X) × (cond z (Some e.1) (at y es) ≡ Some x)
      go true q t r = (e.1, refl)
      go false q t r = r (subst (λ b. T (b || member y (keys es))) (apart q) t)

  -- a key behind the first one
  key-of : (y : ℕ) (x : X) (es : Table X) → at y es ≡ Some x → T (member y (keys es))
  key-of y x [] q = absurd (none_some q)
  key-of y x (e ∷ es) q = go (eq_by_cmp nat_cmp y e.0) refl q (key-of y x es)
    where
      tied : eq_by_cmp nat_cmp y e.0 ≡ true → (y == e.0) ≡ true
      tied q = grind (arith, nat_tests, q)

      behind : (a : Bool) → T (member y (keys es)) → T (a || member y (keys es))
      behind true h = tt
      behind false h = h

      go : (z : Bool) → eq_by_cmp nat_cmp y e.0 ≡ z → cond z (Some e.1) (at y es) ≡ Some x → (at y es ≡ Some x → T (member y (keys es))) → T ((y == e.0) || member y (keys es))
      go true p q r = subst (λ b. T (b || member y (keys es))) (sym (tied p)) tt
      go false p q r = behind (y == e.0) (r q)

  at-later : (e : ℕ × X) (es : Table X) → T (is_sorted nat_cmp (e ∷ es)) → (y : ℕ) (x : X) → at y es ≡ Some x → at y (e ∷ es) ≡ Some x
  at-later e es s y x q = ap (λ b. cond b (Some e.1) (at y es)) (untied (keys-above e.0 es (first (below_all nat_cmp e.0 es) (is_sorted nat_cmp es) s) y (key-of y x es q))) ∙ q
    where
      untied : (y == e.0) ≡ false → eq_by_cmp nat_cmp y e.0 ≡ false
      untied q = grind (arith, nat_tests, q)

  -- each key has one of the names
  pub few-named : (es : Table X) (names : List ℕ) → T (is_sorted nat_cmp es) → ((c : ℕ) (x : X) → at c es ≡ Some x → T (member c names)) → length es ≤ length (once names)
  few-named es names s named =
      omega (arith, fewer (keys es) (once names) (sorted-once es s) (λ y t. once-has y names (named y (at-key y es t).0 (at-key y es t).1)), keys-length es)

  -- Sums.

  module _ (f g : ℕ × X → ℕ) where
    pub sum-most : (es : Table X) → T (is_sorted nat_cmp es) → ((a : ℕ) (x : X) → at a es ≡ Some x → f (a, x) ≤ g (a, x)) → sum f es ≤ sum g es
    sum-most [] s h = omega arith
    sum-most (e ∷ es) s h = omega (arith, h e.0 e.1 (at-first e es), sum-most es (second (below_all nat_cmp e.0 es) (is_sorted nat_cmp es) s) (λ a x q. h a x (at-later e es s a x q)))

    -- by so much less, where that's so of one
    pub sum-less : (y : ℕ) (x : X) (d : ℕ) → f (y, x) + d ≤ g (y, x) → (es : Table X) → T (is_sorted nat_cmp es) → at y es ≡ Some x → ((a : ℕ) (x : X) → at a es ≡ Some x → f (a, x) ≤ g (a, x)) → sum f es + d ≤ sum g es
    sum-less y x d l [] s q h = absurd (none_some q)
    sum-less y x d l (e ∷ es) s q h = go (eq_by_cmp nat_cmp y e.0) refl q (λ p. sum-less y x d l es rest p (λ a z r. h a z (at-later e es s a z r)))
      where
        rest : T (is_sorted nat_cmp es)
        rest = second (below_all nat_cmp e.0 es) (is_sorted nat_cmp es) s

        tied : eq_by_cmp nat_cmp y e.0 ≡ true → y ≡ e.0
        tied q = grind (arith, nat_tests, q)

        go : (z : Bool) → eq_by_cmp nat_cmp y e.0 ≡ z → cond z (Some e.1) (at y es) ≡ Some x → (at y es ≡ Some x → sum f es + d ≤ sum g es) → f e + sum f es + d ≤ g e + sum g es
        go true p q r = omega (arith, subst (λ (z : ℕ × X). f z + d ≤ g z) (λ z. (tied p z, sym (same_some q) z)) l, sum-most es rest (λ a z r. h a z (at-later e es s a z r)))
        go false p q r = omega (arith, h e.0 e.1 (at-first e es), r q)
