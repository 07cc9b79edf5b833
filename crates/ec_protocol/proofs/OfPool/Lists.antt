-- Lists of pairs with numbers as keys: look-ups, and what additions and removals make of them.
use Rattle.std.proofs.Common.{◌≡◌, ℕ, ◌+◌, ◌<◌, ◌≤◌, refl, sym, ap, subst, ◌∙◌, arith, Bool, true, false, cond, not, ◌&&◌, ◌||◌, T, [], ◌∷◌, ◌++◌, length, filter, Option, None, Some, is_some, IsTrue, ◌==◌, nat_lt, Ordering, Less, Equal, Greater, is_eq, is_lt, nat_cmp}
use Rattle.std.specs.Ordering.{eq_by_cmp}
use Rattle.std.specs.Cmp.{nat_cmp_total}
use Rattle.std.specs.List.{AllByRecursion}
use Rattle.std.specs.List.Sorted.{IsStrictlySortedBy}
use Rattle.std.specs.FinMap.Entries.{put, is_sorted, below_all, by_order, find-append, find-put, find-where_key}
use Rattle.std.specs.Map.{lookup, remove_entry}
use Rattle.std.specs.BTreeMap.{insert_entry, is_at}
use Rattle.std.proofs.lemmas.Bool.Decides.{nat_tests}
use Rattle.ec_base.specs.Tables.{Table, at, keys, without}
use Rattle.ec_volume.specs.Update.{member}
use Rattle.ec_protocol.specs.World.{among}

-- Numbers.

pub same : (a b : ℕ) → is_eq (nat_cmp a b) ≡ true → a ≡ b
same a b h = grind (arith, nat_tests)

pub itself : (a : ℕ) → is_eq (nat_cmp a a) ≡ true
itself a = grind (arith, nat_tests)

pub test_of : (a b : ℕ) → (a == b) ≡ is_eq (nat_cmp a b)
test_of a b = grind (arith, nat_tests)

pub test_back : (a b : ℕ) → (b == a) ≡ is_eq (nat_cmp a b)
test_back a b = grind (arith, nat_tests)

above : (a b : ℕ) → b < a → nat_cmp a b ≡ Greater
above a b h = grind (arith, nat_tests)

module _ {X : Type 0} where
  -- Look-ups.

  pub found : (n : ℕ) (es : Table X) → lookup (is_at (nat_cmp n)) es ≡ at n es
  found n [] = refl
  found n (e ∷ es) = ap (cond (is_eq (nat_cmp n e.0)) (Some e.1)) (found n es)

  pub first_found : (e : ℕ × X) (es : Table X) → at e.0 (e ∷ es) ≡ Some e.1
  first_found e es = ap (λ b. cond b (Some e.1) (at e.0 es)) (itself e.0)

  -- what is found further on is found
  pub later_found : (n : ℕ) (e : ℕ × X) (es : Table X) → IsTrue (is_some (at n es)) → IsTrue (is_some (at n (e ∷ es)))
  later_found n e es h = go (is_eq (nat_cmp n e.0))
    where
      go : (b : Bool) → IsTrue (is_some (cond b (Some e.1) (at n es)))
      go true = refl
      go false = h

  pub member_keys : (n : ℕ) (es : Table X) → member n (keys es) ≡ is_some (at n es)
  member_keys n [] = refl
  member_keys n (e ∷ es) = ap (λ b. b || member n (keys es)) (test_of n e.0) ∙ go (is_eq (nat_cmp n e.0)) (member_keys n es)
    where
      go : (b : Bool) → member n (keys es) ≡ is_some (at n es) → (b || member n (keys es)) ≡ is_some (cond b (Some e.1) (at n es))
      go true rest = refl
      go false rest = rest

  -- An addition at the end.

  pub put_last : (n : ℕ) (x : X) (es : Table X) → ((q : ℕ) → IsTrue (is_some (at q es)) → q < n) → put nat_cmp n x es ≡ es ++ (n, x) ∷ []
  put_last n x [] h = refl
  put_last n x (e ∷ es) h =
      let a : nat_cmp n e.0 ≡ Greater = above n e.0 (h e.0 (ap is_some (first_found e es))) in
      rw a (ap (λ xs. e ∷ xs) (put_last n x es (λ q k. h q (later_found q e es k))))

  pub insert_last : (n : ℕ) (x : X) (es : Table X) → ((q : ℕ) → IsTrue (is_some (at q es)) → q < n) → insert_entry nat_cmp es n x ≡ es ++ (n, x) ∷ []
  insert_last n x [] h = refl
  insert_last n x (e ∷ es) h =
      let a : nat_cmp n e.0 ≡ Greater = above n e.0 (h e.0 (ap is_some (first_found e es))) in
      rw a (ap (λ xs. e ∷ xs) (insert_last n x es (λ q k. h q (later_found q e es k))))

  pub none_above : (n : ℕ) (es : Table X) → ((q : ℕ) → IsTrue (is_some (at q es)) → q < n) → at n es ≡ None
  none_above n es h = go (at n es) refl
    where
      go : (o : Option X) → at n es ≡ o → o ≡ None
      go None p = refl
      go (Some x) p = let k : n < n = h n (ap is_some p) in absurd (omega arith)

  pub at_last : (n : ℕ) (x : X) (es : Table X) (q : ℕ) → at n es ≡ None → at q (es ++ (n, x) ∷ []) ≡ cond (is_eq (nat_cmp q n)) (Some x) (at q es)
  at_last n x es q none = find-append nat_cmp nat_cmp_total es n x q none

  pub keys_last : (n : ℕ) (x : X) (es : Table X) → keys (es ++ (n, x) ∷ []) ≡ keys es ++ n ∷ []
  keys_last n x [] = refl
  keys_last n x (e ∷ es) = ap (λ ns. e.0 ∷ ns) (keys_last n x es)

  pub length_last : (y : ℕ × X) (es : Table X) → length (es ++ y ∷ []) ≡ length es + 1
  length_last y [] = refl
  length_last y (e ∷ es) = let k = length_last y es in omega arith

  -- the addition taken back
  pub removed_last : (n : ℕ) (x : X) (es : Table X) → ((q : ℕ) → IsTrue (is_some (at q es)) → q < n) → remove_entry (is_at (nat_cmp n)) (es ++ (n, x) ∷ []) ≡ es
  removed_last n x [] h = rw (itself n)
  removed_last n x (e ∷ es) h =
      let a : nat_cmp n e.0 ≡ Greater = above n e.0 (h e.0 (ap is_some (first_found e es))) in
      rw a (ap (λ xs. e ∷ xs) (removed_last n x es (λ q k. h q (later_found q e es k))))

  -- An addition at its place.

  pub keys_put : (n : ℕ) (x : X) (es : Table X) → at n es ≡ None → keys (put nat_cmp n x es) ≡ among n (keys es)
  keys_put n x [] h = refl
  keys_put n x (e ∷ es) h = go (nat_cmp n e.0) refl h (keys_put n x es)
    where
      less : nat_cmp n e.0 ≡ Less → nat_lt n e.0 ≡ true
      less p = grind (arith, nat_tests)

      greater : nat_cmp n e.0 ≡ Greater → nat_lt n e.0 ≡ false
      greater p = grind (arith, nat_tests)

      go : (r : Ordering) → nat_cmp n e.0 ≡ r → cond (is_eq r) (Some e.1) (at n es) ≡ None → (at n es ≡ None → keys (put nat_cmp n x es) ≡ among n (keys es))
          → keys (by_order r ((n, x) ∷ e ∷ es) ((e.0, x) ∷ es) (e ∷ put nat_cmp n x es)) ≡ elim (nat_lt n e.0) [ true ↦ n ∷ e.0 ∷ keys es | false ↦ e.0 ∷ among n (keys es) ]
      go Less p none rest = rw (less p)
      go Equal p none rest = absurd cc
      go Greater p none rest = rw (greater p) (ap (λ ns. e.0 ∷ ns) (rest none))

  pub at_put : (n : ℕ) (x : X) (es : Table X) (q : ℕ) → at q (put nat_cmp n x es) ≡ cond (is_eq (nat_cmp q n)) (Some x) (at q es)
  at_put n x es q = find-put nat_cmp nat_cmp_total q n x es

  pub length_put : (n : ℕ) (x : X) (es : Table X) → length (put nat_cmp n x es) ≤ length es + 1
  length_put n x [] = omega arith
  length_put n x (e ∷ es) = go (nat_cmp n e.0) (length_put n x es)
    where
      go : (r : Ordering) → length (put nat_cmp n x es) ≤ length es + 1 → length (by_order r ((n, x) ∷ e ∷ es) ((e.0, x) ∷ es) (e ∷ put nat_cmp n x es)) ≤ length (e ∷ es) + 1
      go Less k = omega arith
      go Equal k = omega arith
      go Greater k = omega arith

  -- Removals.

  pub keys_without : (n : ℕ) (es : Table X) → filter (λ m. not (m == n)) (keys es) ≡ keys (without n es)
  keys_without n [] = refl
  keys_without n (e ∷ es) =
      ap (λ b. cond (not b) (e.0 ∷ filter (λ m. not (m == n)) (keys es)) (filter (λ m. not (m == n)) (keys es))) (test_back n e.0) ∙ go (is_eq (nat_cmp n e.0)) (keys_without n es)
    where
      go : (b : Bool) → filter (λ m. not (m == n)) (keys es) ≡ keys (without n es)
          → cond (not b) (e.0 ∷ filter (λ m. not (m == n)) (keys es)) (filter (λ m. not (m == n)) (keys es)) ≡ keys (cond (not b) (e ∷ without n es) (without n es))
      go true rest = rest
      go false rest = ap (λ ns. e.0 ∷ ns) rest

  pub at_without : (n q : ℕ) (es : Table X) → at q (without n es) ≡ cond (not (is_eq (nat_cmp n q))) (at q es) None
  at_without n q es = find-where_key nat_cmp (λ other. not (eq_by_cmp nat_cmp n other)) q (λ x p. let e : q ≡ x = same q x (ap is_eq p) in ap (λ y. not (eq_by_cmp nat_cmp n y)) (sym e)) es

  -- nothing is left out where the key isn't there
  pub without_none : (n : ℕ) (es : Table X) → at n es ≡ None → without n es ≡ es
  without_none n [] h = refl
  without_none n (e ∷ es) h = go (is_eq (nat_cmp n e.0)) h (without_none n es)
    where
      go : (b : Bool) → cond b (Some e.1) (at n es) ≡ None → (at n es ≡ None → without n es ≡ es) → cond (not b) (e ∷ without n es) (without n es) ≡ e ∷ es
      go true h rest = absurd cc
      go false h rest = ap (λ xs. e ∷ xs) (rest h)

  pub length_without : (n : ℕ) (es : Table X) → IsTrue (is_some (at n es)) → length (without n es) + 1 ≤ length es
  length_without n (e ∷ es) h = go (is_eq (nat_cmp n e.0)) h (length_without n es)
    where
      shorter : (es : Table X) → length (without n es) ≤ length es
      shorter [] = omega arith
      shorter (d ∷ ds) = let k = shorter ds in by (is_eq (nat_cmp n d.0)) k
        where
          by : (b : Bool) → length (without n ds) ≤ length ds → length (cond (not b) (d ∷ without n ds) (without n ds)) ≤ length (d ∷ ds)
          by true k = omega arith
          by false k = omega arith

      go : (b : Bool) → IsTrue (is_some (cond b (Some e.1) (at n es))) → (IsTrue (is_some (at n es)) → length (without n es) + 1 ≤ length es) → length (cond (not b) (e ∷ without n es) (without n es)) + 1 ≤ length (e ∷ es)
      go true k rest = let s = shorter es in omega arith
      go false k rest = let s = rest k in omega arith
  length_without n [] h = absurd cc

  -- what is left out doesn't pass
  pub filter_removed : (p : ℕ → Bool) (n : ℕ) (es : Table X) → p n ≡ false → filter (λ e. p e.0) (remove_entry (is_at (nat_cmp n)) es) ≡ filter (λ e. p e.0) es
  filter_removed p n [] h = refl
  filter_removed p n (e ∷ es) h = go (is_eq (nat_cmp n e.0)) refl (filter_removed p n es h)
    where
      go : (b : Bool) → is_eq (nat_cmp n e.0) ≡ b → filter (λ e. p e.0) (remove_entry (is_at (nat_cmp n)) es) ≡ filter (λ e. p e.0) es
          → filter (λ e. p e.0) (cond b es (e ∷ remove_entry (is_at (nat_cmp n)) es)) ≡ filter (λ e. p e.0) (e ∷ es)
      go true q rest = let f : p e.0 ≡ false = ap p (sym (same n e.0 q)) ∙ h in rw f refl
      go false q rest = ap (λ xs. cond (p e.0) (e ∷ xs) xs) rest

  pub filter_all : (p : ℕ → Bool) (es : Table X) → ((n : ℕ) → IsTrue (is_some (at n es)) → IsTrue (p n)) → filter (λ e. p e.0) es ≡ es
  filter_all p [] h = refl
  filter_all p (e ∷ es) h =
      let t : p e.0 ≡ true = h e.0 (ap is_some (first_found e es)) in
      rw t (ap (λ xs. e ∷ xs) (filter_all p es (λ n k. h n (later_found n e es k))))

  pub filter_same : (p q : ℕ → Bool) (es : Table X) → ((n : ℕ) → p n ≡ q n) → filter (λ e. p e.0) es ≡ filter (λ e. q e.0) es
  filter_same p q [] h = refl
  filter_same p q (e ∷ es) h = λ i. cond (h e.0 i) (e ∷ filter_same p q es h i) (filter_same p q es h i)

  -- What holds of each pair.

  pub all_last : (P : ℕ × X → Type 0) (es : Table X) (y : ℕ × X) → AllByRecursion P es → P y → AllByRecursion P (es ++ y ∷ [])
  all_last P [] y h k = (k, tt)
  all_last P (e ∷ es) y h k = (h.0, all_last P es y h.1 k)

  pub all_filter : (P : ℕ × X → Type 0) (p : ℕ × X → Bool) (es : Table X) → AllByRecursion P es → AllByRecursion P (filter p es)
  all_filter P p [] h = tt
  all_filter P p (e ∷ es) h = go (p e) (all_filter P p es h.1)
    where
      go : (b : Bool) → AllByRecursion P (filter p es) → AllByRecursion P (cond b (e ∷ filter p es) (filter p es))
      go true rest = (h.0, rest)
      go false rest = rest

  pub all_put : (P : ℕ × X → Type 0) (n : ℕ) (x : X) (es : Table X) → at n es ≡ None → AllByRecursion P es → P (n, x) → AllByRecursion P (put nat_cmp n x es)
  all_put P n x [] none h k = (k, tt)
  all_put P n x (e ∷ es) none h k = go (nat_cmp n e.0) none (λ none. all_put P n x es none h.1 k)
    where
      go : (r : Ordering) → cond (is_eq r) (Some e.1) (at n es) ≡ None → (at n es ≡ None → AllByRecursion P (put nat_cmp n x es)) → AllByRecursion P (by_order r ((n, x) ∷ e ∷ es) ((e.0, x) ∷ es) (e ∷ put nat_cmp n x es))
      go Less none rest = (k, (h.0, h.1))
      go Equal none rest = absurd cc
      go Greater none rest = (h.0, rest none)

  pub all_by : (P Q : ℕ × X → Type 0) (es : Table X) → ((e : ℕ × X) → IsTrue (is_some (at e.0 es)) → P e → Q e) → AllByRecursion P es → AllByRecursion Q es
  all_by P Q [] f h = tt
  all_by P Q (e ∷ es) f h = (f e (ap is_some (first_found e es)) h.0, all_by P Q es (λ d k. f d (later_found d.0 e es k)) h.1)

  -- what is found is one of the pairs
  pub all_found : (P : ℕ × X → Type 0) (n : ℕ) (es : Table X) (x : X) → AllByRecursion P es → at n es ≡ Some x → P (n, x)
  all_found P n [] x h is = absurd cc
  all_found P n (e ∷ es) x h is = go (is_eq (nat_cmp n e.0)) refl is (all_found P n es x h.1)
    where
      go : (b : Bool) → is_eq (nat_cmp n e.0) ≡ b → cond b (Some e.1) (at n es) ≡ Some x → (at n es ≡ Some x → P (n, x)) → P (n, x)
      go true p is rest = let a : n ≡ e.0 = same n e.0 p in let b : e.1 ≡ x = cc in subst P (λ i. (sym a i, b i)) h.0
      go false p is rest = rest is

  -- keys that rise
  pub keys_rise : (es : Table X) → T (is_sorted nat_cmp es) → IsStrictlySortedBy nat_cmp (keys es)
  unfolding IsStrictlySortedBy
  keys_rise [] h = tt
  keys_rise (e ∷ es) h = (below e.0 es (left _ _ h), keys_rise es (right _ _ h))
    where
      left : (a b : Bool) → T (a && b) → T a
      left true b p = tt
      left false b p = p

      right : (a b : Bool) → T (a && b) → T b
      right true b p = p
      right false b p = absurd p

      less : (r : Ordering) → T (is_lt r) → r ≡ Less
      less Less p = refl
      less Equal p = absurd p
      less Greater p = absurd p

      below : (k : ℕ) (es : Table X) → T (below_all nat_cmp k es) → AllByRecursion (λ y. nat_cmp k y ≡ Less) (keys es)
      below k [] h = tt
      below k (d ∷ ds) h = (less _ (left _ _ h), below k ds (right _ _ h))
