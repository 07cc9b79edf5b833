-- Which operations of a start are pending, one more call.
use Rattle.std.proofs.Common.{◌≡◌, refl, sym, ap, subst, ◌∙◌, arith, ◌<◌, ℕ, T, Bool, true, false, not, ◌==◌, ◌&&◌, ◌||◌, cond, map, List, [], ◌∷◌, ◌++◌}
use Rattle.std.specs.Prelude.{⊤}
use Rattle.std.specs.Ordering.{nat_cmp, is_lt}
use Rattle.std.specs.FinMap.{is_sorted}
use Rattle.std.specs.FinMap.Entries.{below_all}
use Rattle.std.specs.List.{filter, list_any}
use Rattle.std.proofs.lemmas.Bool.{eqb-true, true≢false}
use Rattle.std.proofs.lemmas.Bool.Decides.{nat_tests}
use Rattle.std.proofs.lemmas.List.Elements.{filter-append}
use Rattle.ec_base.specs.SortedLaws.{first, second}
use Rattle.ec_volume.specs.Update.{member}
use Rattle.ec_volume.specs.declared.update.Update.{Update}
use Rattle.ec_order.specs.Order.{needs, closure}
use Rattle.ec_history.specs.History.{Each}
use Rattle.ec_history.proofs.OfLaws.ForPlacing.Numbers.{each-append, each-filter}
use Rattle.ec_pending.specs.declared.issue.Issue.{Issue}
use Rattle.ec_judge.specs.Carried.{IsUpward}
use Rattle.ec_pending.specs.Pending.{numbers_in, is_in, numbered, picked_out, rest}
use Rattle.ec_base.proofs.Numbers.{itself}
use Rattle.ec_base.proofs.Bools.{both, first as left, right, or-none, on as holds, and-none, is-true}
use Rattle.ec_history.proofs.OfLaws.ForPlacing.BasesAlike.{each-map}
use Rattle.ec_history.proofs.OfLaws.ForRenamed.IdleIds.{both as each-both}

-- Numbers.

lower : (m n : ℕ) → m < n → (m == n) ≡ false
lower m n l = grind (arith, nat_tests, l)

higher : (m n : ℕ) → m < n → (n == m) ≡ false
higher m n l = grind (arith, nat_tests, l)

-- the numbers rise
abbrev pub Rising : List Issue → Type 0
Rising [] = ⊤
Rising (i ∷ is) = Each (λ j. i.number < j.number) is × Rising is

below-each : (m : ℕ) (is : List Issue) → T (below_all nat_cmp m (numbered is)) → Each (λ j. m < j.number) is
below-each m [] b = tt
below-each m (i ∷ is) b = (less m i.number (first _ _ b), below-each m is (second _ _ b))
  where
    less : (m n : ℕ) → T (is_lt (nat_cmp m n)) → m < n
    less m n l = grind (arith, nat_tests, l)

pub rising-from : (is : List Issue) → T (is_sorted nat_cmp (numbered is)) → Rising is
rising-from [] s = tt
rising-from (i ∷ is) s = (below-each i.number is (first _ _ s), rising-from is (second _ _ s))

rising-filter : (q : Issue → Bool) (is : List Issue) → Rising is → Rising (filter q is)
rising-filter q [] r = tt
rising-filter q (i ∷ is) r = go (q i) (rising-filter q is r.1)
  where
    go : (b : Bool) → Rising (filter q is) → Rising (cond b (i ∷ filter q is) (filter q is))
    go true h = (each-filter (λ j. i.number < j.number) q is r.0, h)
    go false h = h

absent-in : (n : ℕ) (is : List Issue) → Each (λ j. n < j.number) is → is_in is n ≡ false
absent-in n [] h = refl
absent-in n (j ∷ is) h = ap (λ x. x || is_in is n) (lower n j.number h.0) ∙ absent-in n is h.1

pub in-append : (is js : List Issue) (n : ℕ) → is_in (is ++ js) n ≡ (is_in is n || is_in js n)
in-append [] js n = refl
in-append (i ∷ is) js n = ap (λ x. (n == i.number) || x) (in-append is js n) ∙ go (n == i.number)
  where
    go : (b : Bool) → (b || (is_in is n || is_in js n)) ≡ ((b || is_in is n) || is_in js n)
    go true = refl
    go false = refl

pub any-number : (n : ℕ) (is : List Issue) → list_any (λ i. n == i.number) is ≡ is_in is n
any-number n [] = refl
any-number n (i ∷ is) = ap (λ z. (n == i.number) || z) (any-number n is)

filter-same : (f g : Issue → Bool) (is : List Issue) → Each (λ i. f i ≡ g i) is → filter f is ≡ filter g is
filter-same f g [] h = refl
filter-same f g (i ∷ is) h = ap (λ b. cond b (i ∷ filter f is) (filter f is)) h.0 ∙ ap (λ l. cond (g i) (i ∷ l) l) (filter-same f g is h.1)

filter-whole : (f : Issue → Bool) (is : List Issue) → Each (λ i. f i ≡ true) is → filter f is ≡ is
filter-whole f [] h = refl
filter-whole f (i ∷ is) h = ap (λ b. cond b (i ∷ filter f is) (filter f is)) h.0 ∙ ap (λ l. i ∷ l) (filter-whole f is h.1)

filter-twice : (f g : Issue → Bool) (is : List Issue) → filter g (filter f is) ≡ filter (λ i. f i && g i) is
filter-twice f g [] = refl
filter-twice f g (i ∷ is) = go (f i) (filter-twice f g is)
  where
    go : (b : Bool) → filter g (filter f is) ≡ filter (λ i. f i && g i) is → filter g (cond b (i ∷ filter f is) (filter f is)) ≡ cond (b && g i) (i ∷ filter (λ i. f i && g i) is) (filter (λ i. f i && g i) is)
    go true r = ap (λ l. cond (g i) (i ∷ l) l) r
    go false r = r

each-of : (P : Issue → Type 0) → ((i : Issue) → P i) → (is : List Issue) → Each P is
each-of P f [] = tt
each-of P f (i ∷ is) = (f i, each-of P f is)

-- of those whose numbers pass
by-number : (h : ℕ → Bool) (is : List Issue) (n : ℕ) → is_in (filter (λ i. h i.number) is) n ≡ (is_in is n && h n)
by-number h [] n = refl
by-number h (i ∷ is) n = go (h i.number) (n == i.number) refl refl (by-number h is n)
  where
    go : (a b : Bool) → h i.number ≡ a → (n == i.number) ≡ b → is_in (filter (λ i. h i.number) is) n ≡ (is_in is n && h n) → is_in (cond a (i ∷ filter (λ i. h i.number) is) (filter (λ i. h i.number) is)) n ≡ ((b || is_in is n) && h n)
    go true true d e r = ap (λ z. z || is_in (filter (λ i. h i.number) is) n) e ∙ sym (ap h (eqb-true n i.number e) ∙ d)
    go true false d e r = ap (λ z. z || is_in (filter (λ i. h i.number) is) n) e ∙ r
    go false true d e r =
        let no : h n ≡ false = ap h (eqb-true n i.number e) ∙ d in
        r ∙ ap (λ z. is_in is n && z) no ∙ and-none (is_in is n) ∙ sym no
    go false false d e r = r

any-filter : (t q : Issue → Bool) (is : List Issue) → Each (λ j. T (t j) → T (q j)) is → list_any t (filter q is) ≡ list_any t is
any-filter t q [] h = refl
any-filter t q (i ∷ is) h = go (q i) (t i) refl refl (any-filter t q is h.1)
  where
    go : (a b : Bool) → q i ≡ a → t i ≡ b → list_any t (filter q is) ≡ list_any t is → list_any t (cond a (i ∷ filter q is) (filter q is)) ≡ (b || list_any t is)
    go true b d e r = ap (λ z. z || list_any t (filter q is)) e ∙ ap (λ z. b || z) r
    go false true d e r = absurd (true≢false (sym (is-true (q i) (h.0 (holds e))) ∙ d))
    go false false d e r = r

-- What is taken.

module _ (p : Issue → Bool) where
  abbrev chosen : Issue → List Issue → Bool
  chosen i is = p i || list_any (λ j. needs i.update j.update) (picked_out p is)

  taken-each : (P : Issue → Type 0) (is : List Issue) → Each P is → Each P (picked_out p is)
  taken-each P [] h = tt
  taken-each P (i ∷ is) h = go (chosen i is) (taken-each P is h.1)
    where
      go : (b : Bool) → Each P (picked_out p is) → Each P (cond b (i ∷ picked_out p is) (picked_out p is))
      go true r = (h.0, r)
      go false r = r

  pub rest-is : (is : List Issue) → Rising is → rest p is ≡ filter (λ i. not (is_in (picked_out p is) i.number)) is
  rest-is [] r = refl
  rest-is (i ∷ is) r = go (chosen i is) (rest-is is r.1)
    where
      ts : List Issue
      ts = picked_out p is

      apart : Each (λ j. not (is_in (picked_out p is) j.number) ≡ not (is_in (i ∷ picked_out p is) j.number)) is
      apart = each-map (λ j. i.number < j.number) (λ j. not (is_in (picked_out p is) j.number) ≡ not (is_in (i ∷ picked_out p is) j.number)) (λ j l. ap not (sym (ap (λ z. z || is_in (picked_out p is) j.number) (higher i.number j.number l)))) is r.0

      go : (b : Bool) → rest p is ≡ filter (λ j. not (is_in (picked_out p is) j.number)) is
          → cond b (rest p is) (i ∷ rest p is) ≡ filter (λ j. not (is_in (cond b (i ∷ picked_out p is) (picked_out p is)) j.number)) (i ∷ is)
      go true q =
          q ∙ filter-same (λ j. not (is_in (picked_out p is) j.number)) (λ j. not (is_in (i ∷ picked_out p is) j.number)) is apart
          ∙ sym (ap (λ z. cond (not (z || is_in (picked_out p is) i.number)) (i ∷ filter (λ j. not (is_in (i ∷ picked_out p is) j.number)) is) (filter (λ j. not (is_in (i ∷ picked_out p is) j.number)) is)) (itself i.number))
      go false q =
          ap (λ l. i ∷ l) q
          ∙ sym (ap (λ z. cond (not z) (i ∷ filter (λ j. not (is_in (picked_out p is) j.number)) is) (filter (λ j. not (is_in (picked_out p is) j.number)) is)) (absent-in i.number (picked_out p is) (taken-each (λ j. i.number < j.number) is r.0)))

  -- of an upward set, what is taken is the same with the others and without
  restrict : (g : ℕ → Bool) (is : List Issue) → IsUpward g is → filter (λ i. g i.number) (picked_out p is) ≡ picked_out p (filter (λ i. g i.number) is)
  restrict g [] u = refl
  restrict g (i ∷ is) u = go (g i.number) refl (restrict g is u.1)
    where
      go : (a : Bool) → g i.number ≡ a → filter (λ i. g i.number) (picked_out p is) ≡ picked_out p (filter (λ i. g i.number) is)
          → filter (λ i. g i.number) (cond (chosen i is) (i ∷ picked_out p is) (picked_out p is)) ≡ picked_out p (cond a (i ∷ filter (λ i. g i.number) is) (filter (λ i. g i.number) is))
      go true e r =
          inner (chosen i is)
          ∙ ap (λ z. cond (p i || z) (i ∷ picked_out p (filter (λ i. g i.number) is)) (picked_out p (filter (λ i. g i.number) is)))
          (sym (ap (list_any (λ j. needs i.update j.update)) (sym r) ∙ any-filter (λ j. needs i.update j.update) (λ i. g i.number) (picked_out p is) (taken-each (λ j. T (needs i.update j.update) → T (g j.number)) is (u.0 (holds e)))))
        where
          inner : (b : Bool) → filter (λ i. g i.number) (cond b (i ∷ picked_out p is) (picked_out p is)) ≡ cond b (i ∷ picked_out p (filter (λ i. g i.number) is)) (picked_out p (filter (λ i. g i.number) is))
          inner true = ap (λ z. cond z (i ∷ filter (λ i. g i.number) (picked_out p is)) (filter (λ i. g i.number) (picked_out p is))) e ∙ ap (λ l. i ∷ l) r
          inner false = r
      go false e r = inner (chosen i is)
        where
          inner : (b : Bool) → filter (λ i. g i.number) (cond b (i ∷ picked_out p is) (picked_out p is)) ≡ picked_out p (filter (λ i. g i.number) is)
          inner true = ap (λ z. cond z (i ∷ filter (λ i. g i.number) (picked_out p is)) (filter (λ i. g i.number) (picked_out p is))) e ∙ r
          inner false = r

  -- where none of what is taken passes, what passes isn't taken
  untaken : (t : Issue → Bool) (is : List Issue) → Rising is → list_any t (picked_out p is) ≡ false → Each (λ j. T (t j) → is_in (picked_out p is) j.number ≡ false) is
  untaken t [] r f = tt
  untaken t (i ∷ is) r f = go (chosen i is) f (untaken t is r.1)
    where
      go : (b : Bool) → list_any t (cond b (i ∷ picked_out p is) (picked_out p is)) ≡ false → (list_any t (picked_out p is) ≡ false → Each (λ j. T (t j) → is_in (picked_out p is) j.number ≡ false) is)
          → Each (λ j. T (t j) → is_in (cond b (i ∷ picked_out p is) (picked_out p is)) j.number ≡ false) (i ∷ is)
      go true e k = split (t i) refl e
        where
          split : (x : Bool) → t i ≡ x → (x || list_any t (picked_out p is)) ≡ false → Each (λ j. T (t j) → is_in (i ∷ picked_out p is) j.number ≡ false) (i ∷ is)
          split true d q = absurd (true≢false q)
          split false d q = (
            λ y. absurd (true≢false (sym (is-true (t i) y) ∙ d)),
            each-map (λ j. (i.number < j.number) × (T (t j) → is_in (picked_out p is) j.number ≡ false)) (λ j. T (t j) → is_in (i ∷ picked_out p is) j.number ≡ false) (λ j h y. ap (λ z. z || is_in (picked_out p is) j.number) (higher i.number j.number h.0) ∙ h.1 y) is
                (each-both (λ j. i.number < j.number) (λ j. T (t j) → is_in (picked_out p is) j.number ≡ false) is r.0 (k q)),
          )
      go false e k = (λ y. absent-in i.number (picked_out p is) (taken-each (λ j. i.number < j.number) is r.0), k e)

upward-same : (g h : ℕ → Bool) (is : List Issue) → Each (λ i. g i.number ≡ h i.number) is → IsUpward g is → IsUpward h is
upward-same g h [] e u = tt
upward-same g h (i ∷ is) e u = (
  λ t. each-map (λ j. (g j.number ≡ h j.number) × (T (needs i.update j.update) → T (g j.number))) (λ j. T (needs i.update j.update) → T (h j.number)) (λ j k n. subst T k.0 (k.1 n)) is
      (each-both (λ j. g j.number ≡ h j.number) (λ j. T (needs i.update j.update) → T (g j.number)) is e.1 (u.0 (subst T (sym e.0) t))),
  upward-same g h is e.1 u.1,
)

upward-append : (g : ℕ → Bool) (is js : List Issue) → IsUpward g is → Each (λ j. T (g j.number)) js → IsUpward g (is ++ js)
upward-append g [] [] u h = tt
upward-append g [] (j ∷ js) u h = (λ t. each-map (λ k. T (g k.number)) (λ k. T (needs j.update k.update) → T (g k.number)) (λ k x n. x) js h.1, upward-append g [] js tt h.1)
upward-append g (i ∷ is) js u h = (
  λ t. each-append (λ k. T (needs i.update k.update) → T (g k.number)) is js (u.0 t) (each-map (λ k. T (g k.number)) (λ k. T (needs i.update k.update) → T (g k.number)) (λ k x n. x) js h),
  upward-append g is js u.1 h,
)

-- without what is taken, an upward set is upward
upward-rest : (p : Issue → Bool) (g : ℕ → Bool) (is : List Issue) → Rising is → IsUpward g is → IsUpward (λ n. g n && not (is_in (picked_out p is) n)) is
upward-rest p g [] r u = tt
upward-rest p g (i ∷ is) r u = go (p i || list_any (λ j. needs i.update j.update) (picked_out p is)) refl (upward-rest p g is r.1 u.1)
  where
    off : (x y : Bool) → (x || y) ≡ false → y ≡ false
    off true y e = absurd (true≢false e)
    off false y e = e

    no : (x y : Bool) → x ≡ true → T (not (x || y)) → ⊥
    no true y e t = t
    no false y e t = absurd (true≢false (sym e))

    yes : (x : Bool) → x ≡ false → T (not x)
    yes true e = absurd (true≢false e)
    yes false e = tt

    go : (b : Bool) → (p i || list_any (λ j. needs i.update j.update) (picked_out p is)) ≡ b → IsUpward (λ n. g n && not (is_in (picked_out p is) n)) is → IsUpward (λ n. g n && not (is_in (cond b (i ∷ picked_out p is) (picked_out p is)) n)) (i ∷ is)
    go true e k = (
      λ t. absurd (no (i.number == i.number) (is_in (picked_out p is) i.number) (itself i.number) (right (g i.number) _ t)),
      upward-same (λ n. g n && not (is_in (picked_out p is) n)) (λ n. g n && not (is_in (i ∷ picked_out p is) n)) is
          (each-map (λ j. i.number < j.number) (λ j. (g j.number && not (is_in (picked_out p is) j.number)) ≡ (g j.number && not (is_in (i ∷ picked_out p is) j.number))) (λ j l. ap (λ z. g j.number && not z) (sym (ap (λ z. z || is_in (picked_out p is) j.number) (higher i.number j.number l)))) is r.0) k,
    )
    go false e k = (
      λ t. each-map (λ j. (T (needs i.update j.update) → T (g j.number)) × (T (needs i.update j.update) → is_in (picked_out p is) j.number ≡ false)) (λ j. T (needs i.update j.update) → T (g j.number && not (is_in (picked_out p is) j.number)))
          (λ j h n. both (g j.number) _ (h.0 n) (yes (is_in (picked_out p is) j.number) (h.1 n))) is
          (each-both (λ j. T (needs i.update j.update) → T (g j.number)) (λ j. T (needs i.update j.update) → is_in (picked_out p is) j.number ≡ false) is (u.0 (left (g i.number) _ t))
          (untaken p (λ j. needs i.update j.update) is r.1 (off (p i) _ e))),
      k,
    )

-- The pending operations behind one more call, among all of the start.
module _ (p : Issue → Bool) (old all : List Issue) (is : old ≡ filter (λ i. is_in old i.number) all) (up : IsUpward (is_in old) all) (rise : Rising all) where
  left-is : rest p old ≡ filter (λ i. not (is_in (picked_out p old) i.number)) old
  left-is = rest-is p old (subst Rising (sym is) (rising-filter (λ i. is_in old i.number) all rise))

  pub next-in : (n : ℕ) → is_in (rest p old) n ≡ (is_in old n && not (is_in (picked_out p all) n))
  next-in n =
      ap (λ l. is_in l n) left-is
      ∙ by-number (λ m. not (is_in (picked_out p old) m)) old n
      ∙ ap (λ z. is_in old n && not z) (ap (λ l. is_in l n) (ap (picked_out p) is ∙ sym (restrict p (is_in old) all up)) ∙ by-number (is_in old) (picked_out p all) n)
      ∙ mix (is_in old n) (is_in (picked_out p all) n)
    where
      mix : (x y : Bool) → (x && not (y && x)) ≡ (x && not y)
      mix true true = refl
      mix true false = refl
      mix false y = refl

  -- and the new ones
  module _ (new : List Issue) (far : Each (λ i. is_in new i.number ≡ false) all) (own : Each (λ i. is_in new i.number ≡ true) new) where
    with-new : (n : ℕ) → is_in new n ≡ false → is_in (rest p old ++ new) n ≡ is_in (rest p old) n
    with-new n e = in-append (rest p old) new n ∙ ap (λ z. is_in (rest p old) n || z) e ∙ sym (or-none (is_in (rest p old) n))

    among-new : (n : ℕ) → is_in new n ≡ true → is_in (rest p old ++ new) n ≡ true
    among-new n e = in-append (rest p old) new n ∙ ap (λ z. is_in (rest p old) n || z) e ∙ all-of (is_in (rest p old) n)
      where
        all-of : (x : Bool) → (x || true) ≡ true
        all-of true = refl
        all-of false = refl

    rest-all : filter (λ i. is_in (rest p old) i.number) all ≡ rest p old
    rest-all =
        filter-same (λ i. is_in (rest p old) i.number) (λ i. is_in old i.number && not (is_in (picked_out p old) i.number)) all (each-of (λ i. is_in (rest p old) i.number ≡ (is_in old i.number && not (is_in (picked_out p old) i.number)))
        (λ i. ap (λ l. is_in l i.number) left-is ∙ by-number (λ m. not (is_in (picked_out p old) m)) old i.number) all)
        ∙ sym (filter-twice (λ i. is_in old i.number) (λ i. not (is_in (picked_out p old) i.number)) all)
        ∙ ap (filter (λ i. not (is_in (picked_out p old) i.number))) (sym is)
        ∙ sym left-is

    pub pending-own : rest p old ++ new ≡ filter (λ i. is_in (rest p old ++ new) i.number) (all ++ new)
    pending-own =
        sym (filter-append (λ i. is_in (rest p old ++ new) i.number) all new
        ∙ ap (λ l. l ++ filter (λ i. is_in (rest p old ++ new) i.number) new) (filter-same (λ i. is_in (rest p old ++ new) i.number) (λ i. is_in (rest p old) i.number) all (each-map (λ i. is_in new i.number ≡ false) (λ i. is_in (rest p old ++ new) i.number ≡ is_in (rest p old) i.number) (λ i e. with-new i.number e) all far) ∙ rest-all)
        ∙ ap (λ l. rest p old ++ l) (filter-whole (λ i. is_in (rest p old ++ new) i.number) new (each-map (λ i. is_in new i.number ≡ true) (λ i. is_in (rest p old ++ new) i.number ≡ true) (λ i e. among-new i.number e) new own)))

    pub upward-own : IsUpward (is_in (rest p old ++ new)) (all ++ new)
    upward-own =
        upward-append (is_in (rest p old ++ new)) all new
        (upward-same (λ n. is_in old n && not (is_in (picked_out p all) n)) (is_in (rest p old ++ new)) all (each-map (λ i. is_in new i.number ≡ false) (λ i. (is_in old i.number && not (is_in (picked_out p all) i.number)) ≡ is_in (rest p old ++ new) i.number) (λ i e. sym (with-new i.number e ∙ next-in i.number)) all far)
        (upward-rest p (is_in old) all rise up))
        (each-map (λ i. is_in new i.number ≡ true) (λ i. T (is_in (rest p old ++ new) i.number)) (λ i e. holds (among-new i.number e)) new own)

    -- what was pending is so still, or is taken
    pub pending-next : (n : ℕ) → is_in new n ≡ false → is_in (rest p old ++ new) n ≡ (is_in old n && not (is_in (picked_out p all) n))
    pending-next n e = with-new n e ∙ next-in n

-- What is taken is the closure.

any-numbered : (u : Update) (is : List Issue) → list_any (λ j. needs u j.update) is ≡ list_any (λ y. needs u y.1) (numbered is)
any-numbered u [] = refl
any-numbered u (i ∷ is) = ap (λ z. needs u i.update || z) (any-numbered u is)

pairs-taken : (p : Issue → Bool) (q : ℕ → Bool) (is : List Issue) → Each (λ i. p i ≡ q i.number) is → numbered (picked_out p is) ≡ closure q (numbered is)
pairs-taken p q [] h = refl
pairs-taken p q (i ∷ is) h =
    go (p i || list_any (λ j. needs i.update j.update) (picked_out p is))
    ∙ ap (λ l. cond (p i || list_any (λ j. needs i.update j.update) (picked_out p is)) ((i.number, i.update) ∷ l) l) (pairs-taken p q is h.1)
    ∙ ap (λ b. cond (b || list_any (λ j. needs i.update j.update) (picked_out p is)) ((i.number, i.update) ∷ closure q (numbered is)) (closure q (numbered is))) h.0
    ∙ ap (λ b. cond (q i.number || b) ((i.number, i.update) ∷ closure q (numbered is)) (closure q (numbered is))) (any-numbered i.update (picked_out p is) ∙ ap (list_any (λ y. needs i.update y.1)) (pairs-taken p q is h.1))
  where
    go : (b : Bool) → numbered (cond b (i ∷ picked_out p is) (picked_out p is)) ≡ cond b ((i.number, i.update) ∷ numbered (picked_out p is)) (numbered (picked_out p is))
    go true = refl
    go false = refl

numbers-firsts : (is : List Issue) → numbers_in is ≡ map (λ x. x.0) (numbered is)
numbers-firsts [] = refl
numbers-firsts (i ∷ is) = ap (λ l. i.number ∷ l) (numbers-firsts is)

passing : (p : Issue → Bool) (is : List Issue) → Rising is → Each (λ i. p i ≡ is_in (filter p is) i.number) is
passing p [] r = tt
passing p (i ∷ is) r = (head (p i) refl, each-map (λ j. (i.number < j.number) × (p j ≡ is_in (filter p is) j.number)) (λ j. p j ≡ is_in (filter p (i ∷ is)) j.number) (λ j h. h.1 ∙ behind (p i) j h.0) is (each-both (λ j. i.number < j.number) (λ j. p j ≡ is_in (filter p is) j.number) is r.0 (passing p is r.1)))
  where
    head : (a : Bool) → p i ≡ a → p i ≡ is_in (cond a (i ∷ filter p is) (filter p is)) i.number
    head true e = e ∙ sym (ap (λ z. z || is_in (filter p is) i.number) (itself i.number))
    head false e = e ∙ sym (absent-in i.number (filter p is) (each-filter (λ j. i.number < j.number) p is r.0))

    behind : (a : Bool) (j : Issue) → i.number < j.number → is_in (filter p is) j.number ≡ is_in (cond a (i ∷ filter p is) (filter p is)) j.number
    behind true j l = sym (ap (λ z. z || is_in (filter p is) j.number) (higher i.number j.number l))
    behind false j l = refl

pub taken-closure : (p : Issue → Bool) (is : List Issue) → Rising is → numbers_in (picked_out p is) ≡ map (λ x. x.0) (closure (λ n. member n (numbers_in (filter p is))) (numbered is))
taken-closure p is r = numbers-firsts (picked_out p is) ∙ ap (map (λ x. x.0)) (pairs-taken p (λ n. member n (numbers_in (filter p is))) is (passing p is r))
