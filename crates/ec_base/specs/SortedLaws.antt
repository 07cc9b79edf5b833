-- Laws of lists of pairs whose keys rise, for any total order of the keys: `nat_cmp_total` and `nat_list_cmp_total` are the laws of ids and names.
-- Further ones stand in std's `FinMap.Entries`: `find-put`, `is_sorted-put`, `is_sorted-where_key`, `length-put`, `length_without`, `same_entries`.
use Rattle.std.proofs.Common.{◌≡◌, ℕ, zero, suc, ◌+◌, ◌<◌, ◌≤◌, List, [], ◌∷◌, length, get_or, Option, None, Some, Bool, true, false, refl, sym, ap, subst, ◌∙◌, arith}
use Rattle.std.specs.Prelude.{T, ◌&&◌, not, cond, is_some, unwrap_or, slice_get, Result, Ok, Err, OnOk, OnErr, OnSome, IfNone, MatchOption, MatchResult}
use Rattle.std.specs.declared.cmp.Ordering.{Ordering}
use Rattle.std.specs.declared.cmp.Ordering.TheVariants.{Less, Equal, Greater}
use Rattle.std.specs.Ordering.{is_lt, is_eq, eq_by_cmp, ordering_reverse, ordering_index}
use Rattle.std.specs.Cmp.{IsTotalOrder}
use Rattle.std.specs.List.Sorted.{IsSearchInRange, IsBinarySearchResult, IsNonDecreasingBy}
use Rattle.std.specs.FinMap.Entries.{find, put, is_sorted, below_all, is_sorted-put, is_sorted-where_key, find-where_key}
use Rattle.std.proofs.lemmas.List.Sorted.{searchable_from_sorted}
use Rattle.std.proofs.lemmas.Cmp.{alike_right, tied_back, tied_itself}
use Rattle.std.proofs.lemmas.Option.{get_or_from_slice_get, slice_get_within}
use Rattle.ec_base.specs.Sorted.{without}
use Rattle.ec_base.specs.SortedPlaces.{StandsAt, GoesAt}

pub first : (a b : Bool) → T (a && b) → T a
first true b p = tt
first false b p = p

pub second : (a b : Bool) → T (a && b) → T b
second true b p = p
second false b p = absurd p

pub both : (a b : Bool) → T a → T b → T (a && b)
both true b p q = q
both false b p q = p

pub less : (r : Ordering) → T (is_lt r) → r ≡ Less
less Less p = refl
less Equal p = absurd p
less Greater p = absurd p

is_less : (r : Ordering) → r ≡ Less → T (is_lt r)
is_less r e = subst (λ o. T (is_lt o)) (sym e) tt

pub same_Some : {A : Type 0} {x y : A} → Some x ≡ Some y → x ≡ y
same_Some {x = x} e = ap (λ o. unwrap_or o x) e

pub not_None : {A : Type 0} {x : A} → Some x ≡ None → ⊥
not_None e = subst T (ap is_some e) tt

turned_round : {A : Type 0} (b : Bool) (found : Option A) → cond (not b) found None ≡ cond b None found
turned_round true found = refl
turned_round false found = refl

pub turned : {K : Type 0} (R : K → K → Ordering) → IsTotalOrder R → (a b : K) (r : Ordering) → R a b ≡ r → R b a ≡ ordering_reverse r
turned R o a b r e = o.antisymm b a ∙ ap ordering_reverse e

module _ {K X : Type 0} (R : K → K → Ordering) where
  -- a later pair has a greater key
  pub below_each : (k : K) (es : List (K × X)) (i : ℕ) (d : K × X) → T (below_all R k es) → i < length es → R k (get_or es i d).0 ≡ Less
  below_each k [] i d h lt = absurd (omega arith)
  below_each k (e ∷ es) zero d h lt = less _ (first _ _ h)
  below_each k (e ∷ es) (suc i) d h lt = below_each k es i d (second _ _ h) (omega arith)

  -- a key below each key isn't found
  pub none_below : (k : K) (es : List (K × X)) → T (below_all R k es) → find R k es ≡ None
  none_below k [] h = refl
  none_below k (e ∷ es) h = let l : R k e.0 ≡ Less = less _ (first _ _ h) in rw l (none_below k es (second _ _ h))

  pub kept_below : (k : K) (es : List (K × X)) → T (below_all R k es) → without R k es ≡ es
  kept_below k [] h = refl
  kept_below k (e ∷ es) h = let l : R k e.0 ≡ Less = less _ (first _ _ h) in rw l (ap (λ xs. e ∷ xs) (kept_below k es (second _ _ h)))

  stands_later : (k : K) (e : K × X) (es : List (K × X)) (at : ℕ) → R k e.0 ≡ Greater → StandsAt R k es at → StandsAt R k (e ∷ es) (suc at)
  stands_later k e es at g s = record {
    within = omega (arith, s.within);
    found = λ d. rw g (s.found d);
    changed = λ d v. rw g (ap (λ xs. e ∷ xs) (s.changed d v));
    removed = rw g (ap (λ xs. e ∷ xs) s.removed);
  }

  goes_later : (k : K) (e : K × X) (es : List (K × X)) (at : ℕ) → R k e.0 ≡ Greater → GoesAt R k es at → GoesAt R k (e ∷ es) (suc at)
  goes_later k e es at g s = record {
    within = omega (arith, s.within);
    absent = rw g s.absent;
    added = λ v. rw g (ap (λ xs. e ∷ xs) (s.added v));
    kept = rw g (ap (λ xs. e ∷ xs) s.kept);
  }

  pub sorted_without : (k : K) (old new : List (K × X)) → new ≡ without R k old → T (is_sorted R old) → T (is_sorted R new)
  sorted_without k old new e h = subst (λ es. T (is_sorted R es)) (sym e) (is_sorted-where_key R _ old h)

  pub sorted_same : (old new : List (K × X)) → new ≡ old → T (is_sorted R old) → T (is_sorted R new)
  sorted_same old new e h = subst (λ es. T (is_sorted R es)) (sym e) h

  -- what is found has a pair
  pub pair_of_found : (q : K) (es : List (K × X)) (v : X) → find R q es ≡ Some v → (i : ℕ) × (k : K) × (slice_get es i ≡ Some (k, v)) × (R q k ≡ Equal)
  pair_of_found q [] v is = cc
  pair_of_found q (e ∷ es) v is =
      elim (R q e.0) as (λ r. R q e.0 ≡ r → cond (is_eq r) (Some e.1) (find R q es) ≡ Some v → (i : ℕ) × (k : K) × (slice_get (e ∷ es) i ≡ Some (k, v)) × (R q k ≡ Equal)) [
        | Less ↦ λ p found. later (pair_of_found q es v found)
        | Equal ↦ λ p found. (0, e.0, ap (λ x. Some (e.0, x)) (same_Some found), p)
        | Greater ↦ λ p found. later (pair_of_found q es v found)
      ] refl is
    where
      later : ((i : ℕ) × (k : K) × (slice_get es i ≡ Some (k, v)) × (R q k ≡ Equal)) → (i : ℕ) × (k : K) × (slice_get (e ∷ es) i ≡ Some (k, v)) × (R q k ≡ Equal)
      later p = (suc p.0, p.1, p.2, p.3)

  module _ (o : IsTotalOrder R) where
    -- what is below x is below what x is below, and below what ties with x
    pub below_through : (k x : K) (es : List (K × X)) → R k x ≡ Less → T (below_all R x es) → T (below_all R k es)
    below_through k x [] p h = tt
    below_through k x (e ∷ es) p h = both _ _ (is_less _ (o.trans k x e.0 p (less _ (first _ _ h)))) (below_through k x es p (second _ _ h))

    pub below_tied : (k x : K) (es : List (K × X)) → R k x ≡ Equal → T (below_all R x es) → T (below_all R k es)
    below_tied k x [] p h = tt
    below_tied k x (e ∷ es) p h = both _ _ (is_less _ (o.congr k x e.0 p ∙ less _ (first _ _ h))) (below_tied k x es p (second _ _ h))

    -- a key below the first is below each
    pub below_first : (k : K) (e : K × X) (es : List (K × X)) → R k e.0 ≡ Less → T (is_sorted R (e ∷ es)) → T (below_all R k (e ∷ es))
    below_first k e es p h = both _ _ (is_less _ p) (below_through k e.0 es p (first _ _ h))

    stands : (k : K) (es : List (K × X)) (at : ℕ) → T (is_sorted R es) → at < length es → ((d : K × X) → R (get_or es at d).0 k ≡ Equal) → StandsAt R k es at
    stands k [] at h lt ties = absurd (omega arith)
    stands k (e ∷ es) zero h lt ties =
        let tie : R k e.0 ≡ Equal = tied_back o _ _ (ties e) in
        record {
          within = lt;
          found = λ d. rw tie;
          changed = λ d v. rw tie;
          removed = rw tie (kept_below k es (below_tied k e.0 es tie (first _ _ h)));
        }
    stands k (e ∷ es) (suc at) h lt ties =
        let lower : R e.0 k ≡ Less = sym (alike_right o _ _ e.0 (ties e)) ∙ below_each e.0 es at e (first _ _ h) (omega arith) in
        stands_later k e es at (turned R o _ _ Less lower) (stands k es at (second _ _ h) (omega arith) ties)

    goes : (k : K) (es : List (K × X)) (at : ℕ) → T (is_sorted R es) → at ≤ length es → ((i : ℕ) (d : K × X) → i < at → R (get_or es i d).0 k ≡ Less) → ((i : ℕ) (d : K × X) → at ≤ i → i < length es → R (get_or es i d).0 k ≡ Greater) → GoesAt R k es at
    goes k [] zero h le before after = record { within = le; absent = refl; added = λ v. refl; kept = refl }
    goes k [] (suc at) h le before after = absurd (omega arith)
    goes k (e ∷ es) zero h le before after =
        let lower : R k e.0 ≡ Less = turned R o _ _ Greater (after 0 e (omega arith) (omega arith)) in
        let all : T (below_all R k (e ∷ es)) = below_first k e es lower h in
        record { within = le; absent = none_below k (e ∷ es) all; added = λ v. rw lower; kept = kept_below k (e ∷ es) all }
    goes k (e ∷ es) (suc at) h le before after =
        goes_later k e es at (turned R o _ _ Less (before 0 e (omega arith)))
        (goes k es at (second _ _ h) (omega arith) (λ i d lt. before (suc i) d (omega arith)) (λ i d from lt. after (suc i) d (omega arith) (omega arith)))

    rising : (es : List (K × X)) (i j : ℕ) (d : K × X) → T (is_sorted R es) → i < j → j < length es → R (get_or es i d).0 (get_or es j d).0 ≡ Less
    rising [] i j d h lt in_range = absurd (omega arith)
    rising (e ∷ es) i zero d h lt in_range = absurd (omega arith)
    rising (e ∷ es) zero (suc j) d h lt in_range = below_each e.0 es j d (first _ _ h) (omega arith)
    rising (e ∷ es) (suc i) (suc j) d h lt in_range = rising es i j d (second _ _ h) (omega arith) (omega arith)

    -- the comparisons with the key rise along the list, as a binary search asks
    comparisons_rise : (k : K) (es : List (K × X)) → T (is_sorted R es) → IsNonDecreasingBy (λ e. ordering_index (R e.0 k)) es
    comparisons_rise k es h = searchable_from_sorted o (λ e. e.0) es k (λ i d from lt. ap is_lt (turned R o _ _ Less (rising es i (i + 1) d h (omega arith) (omega arith))))

    pub searched : (k : K) (es : List (K × X)) (r : Result ℕ ℕ) → T (is_sorted R es) → IsSearchInRange r (length es) → IsBinarySearchResult (λ e. R e.0 k) es r → MatchResult r (StandsAt R k es) (GoesAt R k es)
    searched k es (Ok at) h within ties = stands k es at h within ties
    searched k es (Err at) h within parted =
        let parts = parted (comparisons_rise k es h) in
        goes k es at h within (λ i d lt. parts.0 i d (omega arith) lt) (λ i d from lt. parts.1 i d from lt)

    pub sorted_put : (k : K) (v : X) (old new : List (K × X)) → new ≡ put R k v old → T (is_sorted R old) → T (is_sorted R new)
    sorted_put k v old new e h = subst (λ es. T (is_sorted R es)) (sym e) (is_sorted-put R o k v old h)

    pub sorted_on_ok : {A E : Type 0} (r : Result A E) (k : K) (v : X) (old new : List (K × X)) → OnOk r (new ≡ put R k v old) → OnErr r (new ≡ old) → T (is_sorted R old) → T (is_sorted R new)
    sorted_on_ok (Ok a) k v old new ok err h = sorted_put k v old new ok h
    sorted_on_ok (Err e) k v old new ok err h = subst (λ es. T (is_sorted R es)) (sym err) h

    pub sorted_on_some : {A : Type 0} (r : Option A) (k : K) (v : X) (old new : List (K × X)) → OnSome r (new ≡ put R k v old) → IfNone r (new ≡ old) → T (is_sorted R old) → T (is_sorted R new)
    sorted_on_some (Some a) k v old new some none h = sorted_put k v old new some h
    sorted_on_some None k v old new some none h = subst (λ es. T (is_sorted R es)) (sym none) h

    sorted_matched : (found : Option X) (k : K) (f : X → X) (old new : List (K × X)) → MatchOption found (new ≡ old) (λ v. new ≡ put R k (f v) old) → T (is_sorted R old) → T (is_sorted R new)
    sorted_matched (Some v) k f old new is h = sorted_put k (f v) old new is h
    sorted_matched None k f old new is h = sorted_same old new is h

    pub sorted_on_change : {A E : Type 0} (r : Result A E) (k : K) (f : X → X) (old new : List (K × X)) → OnOk r (MatchOption (find R k old) (new ≡ old) (λ v. new ≡ put R k (f v) old)) → OnErr r (new ≡ old) → T (is_sorted R old) → T (is_sorted R new)
    sorted_on_change (Ok a) k f old new ok err h = sorted_matched (find R k old) k f old new ok h
    sorted_on_change (Err e) k f old new ok err h = sorted_same old new err h

    pub find-without : (q k : K) (es : List (K × X)) → find R q (without R k es) ≡ cond (eq_by_cmp R k q) None (find R q es)
    find-without q k es = find-where_key R (λ other. not (eq_by_cmp R k other)) q (λ x tie. ap (λ r. not (is_eq r)) (alike_right o _ _ k (tied_back o _ _ tie))) es ∙ turned_round (eq_by_cmp R k q) (find R q es)

    -- a new key that is removed again leaves the map as it was
    pub without-put_new : (k : K) (v : X) (es : List (K × X)) → T (is_sorted R es) → find R k es ≡ None → without R k (put R k v es) ≡ es
    without-put_new k v [] h none = rw (tied_itself o k)
    without-put_new k v (e ∷ es) h none =
        elim (R k e.0) as (λ r. R k e.0 ≡ r → without R k (put R k v (e ∷ es)) ≡ e ∷ es) [
          | Less ↦ λ p. rw (p, tied_itself o k, p) (ap (λ xs. e ∷ xs) (kept_below k es (second _ _ (below_first k e es p h))))
          | Equal ↦ λ p. absurd (not_None (sym (ap (λ r. cond (is_eq r) (Some e.1) (find R k es)) p) ∙ none))
          | Greater ↦ λ p. rw (p, p) (ap (λ xs. e ∷ xs) (without-put_new k v es (second _ _ h) (sym (ap (λ r. cond (is_eq r) (Some e.1) (find R k es)) p) ∙ none)))
        ] refl

    -- of two values that are put at a key, the second one stays
    pub put-put : (k : K) (v w : X) (es : List (K × X)) → put R k w (put R k v es) ≡ put R k w es
    put-put k v w [] = rw (tied_itself o k)
    put-put k v w (e ∷ es) =
        elim (R k e.0) as (λ r. R k e.0 ≡ r → put R k w (put R k v (e ∷ es)) ≡ put R k w (e ∷ es)) [
          | Less ↦ λ p. rw (p, tied_itself o k)
          | Equal ↦ λ p. rw (p, p)
          | Greater ↦ λ p. rw (p, p) (ap (λ xs. e ∷ xs) (put-put k v w es))
        ] refl

    -- the value that a key has may be put there again
    pub put-found : (k : K) (v : X) (es : List (K × X)) → T (is_sorted R es) → find R k es ≡ Some v → put R k v es ≡ es
    put-found k v [] h is = cc
    put-found k v (e ∷ es) h is =
        elim (R k e.0) as (λ r. R k e.0 ≡ r → cond (is_eq r) (Some e.1) (find R k es) ≡ Some v → put R k v (e ∷ es) ≡ e ∷ es) [
          | Less ↦ λ p found. absurd (not_None (sym found ∙ none_below k es (second _ _ (below_first k e es p h))))
          | Equal ↦ λ p found. rw p (ap (λ x. (e.0, x) ∷ es) (sym (same_Some found)))
          | Greater ↦ λ p found. rw p (ap (λ xs. e ∷ xs) (put-found k v es (second _ _ h) found))
        ] refl is

    -- each pair is found at its key
    pub found_at : (es : List (K × X)) (i : ℕ) (e : K × X) → T (is_sorted R es) → slice_get es i ≡ Some e → find R e.0 es ≡ Some e.1
    found_at [] i e h is = cc
    found_at (f ∷ es) zero e h is = rw (← same_Some is) (rw (tied_itself o f.0))
    found_at (f ∷ es) (suc i) e h is =
        let lower : R f.0 e.0 ≡ Less = ap (λ (x : K × X). R f.0 x.0) (sym (get_or_from_slice_get es i e e is)) ∙ below_each f.0 es i e (first _ _ h) (slice_get_within es i e is) in
        let greater : R e.0 f.0 ≡ Greater = turned R o _ _ Less lower in
        rw greater (found_at es i e (second _ _ h) is)
