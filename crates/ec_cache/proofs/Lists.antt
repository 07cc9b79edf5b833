-- Lists of tokens behind a change at several objects, and lists that are made of them.
use Rattle.std.proofs.Common.{◌≡◌, ◌∙◌, ◌⊎◌, inl, inr, ◌++◌, ◌+◌, ◌-◌, ◌<◌, ◌==◌, ℕ, zero, suc, T, List, [], ◌∷◌, Option, None, Some, Bool, true, false, not, cond, map, is_some, length, length-append, take, append-nil, append_assoc, drop, drop-cons, get_or, add-one, refl, sym, ap, subst, arith}
use Rattle.std.specs.Prelude.{◌||◌, if◌then◌else◌, option_map}
use Rattle.std.specs.Ordering.{nat_cmp}
use Rattle.std.specs.Cmp.{nat_cmp_total, unsigned_ties}
use Rattle.std.specs.FinMap.Entries.{is_sorted, below_all, is_sorted-put, find-put, same_entries}
use Rattle.ec_base.specs.Tables.{Table, at, without, keys, by_key}
use Rattle.ec_base.specs.SortedLaws.{first, second, both}
use Rattle.ec_base.specs.declared.ids.Hold.{Hold}
use Rattle.ec_volume.specs.Update.{member}
use Rattle.ec_cache.specs.declared.state.Held.{Held}
use Rattle.ec_cache.specs.Cache.{numberless}
use Rattle.ec_cache.specs.Numbers.{numbers}
use Rattle.ec_cache.specs.Marks.{with_mark, marks, joined, emptied}
use Rattle.ec_cache.specs.Held.{IsCache, unpinned, apart_from, hold_of, holds_by, unnumbered, unnumbered_at}
use Rattle.ec_cache.proofs.Marks.{below-marks, marks-at}
use Rattle.ec_cache.proofs.Kept.{same, same-turned, same-itself, key-same}
use Rattle.ec_base.proofs.Numbers.{tied}

-- Tokens that are looked at one by one.

pub looked-on : (n : ℕ) (xs one ys total : Table ℕ) → (one ≡ []) ⊎ ((a : ℕ × ℕ) × (one ≡ a ∷ [])) → length xs < n → xs ++ take (n - length xs) (one ++ ys) ≡ total → (xs ++ one) ++ take (n - length (xs ++ one)) ys ≡ total
looked-on n xs one ys total (inl e) room is =
    subst (λ o. xs ++ take (n - length xs) (o ++ ys) ≡ total → (xs ++ o) ++ take (n - length (xs ++ o)) ys ≡ total) (sym e)
    (λ h. subst (λ zs. zs ++ take (n - length zs) ys ≡ total) (sym (append-nil xs)) h) is
looked-on n xs one ys total (inr p) room is =
    subst (λ o. xs ++ take (n - length xs) (o ++ ys) ≡ total → (xs ++ o) ++ take (n - length (xs ++ o)) ys ≡ total) (sym p.1)
    (λ h. append_assoc xs (p.0 ∷ []) (take (n - length (xs ++ p.0 ∷ [])) ys) ∙ ap (λ zs. xs ++ zs) (taken (n - length xs) (n - length (xs ++ p.0 ∷ [])) (fewer n xs p.0 room)) ∙ h) is
  where
    fewer : (n : ℕ) (xs : Table ℕ) (a : ℕ × ℕ) → length xs < n → n - length xs ≡ suc (n - length (xs ++ a ∷ []))
    fewer n xs a room = omega (arith, room, length-append xs (a ∷ []))

    taken : (m k : ℕ) → m ≡ suc k → p.0 ∷ take k ys ≡ take m (p.0 ∷ ys)
    taken m k e = subst (λ j. p.0 ∷ take k ys ≡ take j (p.0 ∷ ys)) (sym e) refl

pub one-looked : (pinned : List ℕ) (e : ℕ × Held) → (numbers (unpinned pinned (e ∷ [])) ≡ []) ⊎ ((a : ℕ × ℕ) × (numbers (unpinned pinned (e ∷ [])) ≡ a ∷ []))
one-looked pinned e = elim (not (member e.0 pinned)) as (λ b. (numbers (cond b (e ∷ []) []) ≡ []) ⊎ ((a : ℕ × ℕ) × (numbers (cond b (e ∷ []) []) ≡ a ∷ []))) [
  | true ↦ inr ((e.0, (e.1).number), refl)
  | false ↦ inl refl
]

pub first-looked : (pinned : List ℕ) (e : ℕ × Held) (es : Table Held) → numbers (unpinned pinned (e ∷ es)) ≡ numbers (unpinned pinned (e ∷ [])) ++ numbers (unpinned pinned es)
first-looked pinned e es = elim (not (member e.0 pinned)) as (λ b. numbers (cond b (e ∷ unpinned pinned es) (unpinned pinned es)) ≡ numbers (cond b (e ∷ []) []) ++ numbers (unpinned pinned es)) [
  | true ↦ refl
  | false ↦ refl
]

pub keys-numbers : (es : Table Held) → keys (numbers es) ≡ keys es
keys-numbers [] = refl
keys-numbers (e ∷ es) = ap (λ ks. e.0 ∷ ks) (keys-numbers es)

-- Pairs that go one by one.

apart-once : (a b : Bool) (A : Type 0) (x y : A) → cond (not a) (cond (not b) x y) y ≡ cond (not (a || b)) x y
apart-once true b A x y = refl
apart-once false b A x y = refl

module _ {X : Type 0} where
  filter-apart : (ks : List ℕ) (c : Bool) (e : ℕ × X) (es : Table X) → apart_from ks (cond c (e ∷ es) es) ≡ cond c (cond (not (member e.0 ks)) (e ∷ apart_from ks es) (apart_from ks es)) (apart_from ks es)
  filter-apart ks true e es = refl
  filter-apart ks false e es = refl

  pub apart-next : (k : ℕ) (ks : List ℕ) (es : Table X) → apart_from ks (without k es) ≡ apart_from (k ∷ ks) es
  apart-next k ks [] = refl
  apart-next k ks (e ∷ es) =
      filter-apart ks (not (same k e.0)) e (without k es)
      ∙ ap (λ rest. cond (not (same k e.0)) (cond (not (member e.0 ks)) (e ∷ rest) rest) rest) (apart-next k ks es)
      ∙ ap (λ b. cond (not b) (cond (not (member e.0 ks)) (e ∷ apart_from (k ∷ ks) es) (apart_from (k ∷ ks) es)) (apart_from (k ∷ ks) es)) (same-turned e.0 k ∙ sym (unsigned_ties e.0 k))
      ∙ apart-once (e.0 == k) (member e.0 ks) (Table X) (e ∷ apart_from (k ∷ ks) es) (apart_from (k ∷ ks) es)

  pub apart-none : (es : Table X) → apart_from [] es ≡ es
  apart-none [] = refl
  apart-none (e ∷ es) = ap (λ fs. e ∷ fs) (apart-none es)

-- the first of the pairs that are left
pub left : {A : Type 0} (xs : List A) (i : ℕ) (x : A) → i < length xs → x ≡ get_or xs i x → drop i xs ≡ x ∷ drop (i + 1) xs
left xs i x within is = drop-cons xs i x within ∙ (λ k. sym is k ∷ drop (sym (add-one i) k) xs)

-- The modes by rising ids.

module _ {X : Type 0} where
  sorted-by_key : (es : Table X) → T (is_sorted nat_cmp (by_key es))
  sorted-by_key [] = tt
  sorted-by_key (e ∷ es) = is_sorted-put nat_cmp nat_cmp_total e.0 e.1 (by_key es) (sorted-by_key es)

  at-by_key : (q : ℕ) (es : Table X) → at q (by_key es) ≡ at q es
  at-by_key q [] = refl
  at-by_key q (e ∷ es) = find-put nat_cmp nat_cmp_total q e.0 e.1 (by_key es) ∙ ap (cond (same q e.0) (Some e.1)) (at-by_key q es)

  sorted-marks : (es : Table (Option X)) → T (is_sorted nat_cmp es) → T (is_sorted nat_cmp (marks es))
  sorted-marks [] h = tt
  sorted-marks (e ∷ es) h = go e.1 (sorted-marks es (second _ _ h))
    where
      go : (o : Option X) → T (is_sorted nat_cmp (marks es)) → T (is_sorted nat_cmp (with_mark e.0 o (marks es)))
      go None rest = rest
      go (Some y) rest = both _ _ (below-marks e.0 es (first _ _ h)) rest

module _ {X Y : Type 0} (g : ℕ → Y) where
  -- other values at the same keys
  abbrev replaced : Table X → Table Y
  replaced es = map (λ e. (e.0, g e.0)) es

  below-replaced : (k : ℕ) (es : Table X) → T (below_all nat_cmp k es) → T (below_all nat_cmp k (replaced es))
  below-replaced k [] h = tt
  below-replaced k (e ∷ es) h = both _ _ (first _ _ h) (below-replaced k es (second _ _ h))

  sorted-replaced : (es : Table X) → T (is_sorted nat_cmp es) → T (is_sorted nat_cmp (replaced es))
  sorted-replaced [] h = tt
  sorted-replaced (e ∷ es) h = both _ _ (below-replaced e.0 es (first _ _ h)) (sorted-replaced es (second _ _ h))

  at-replaced : (q : ℕ) (es : Table X) → at q (replaced es) ≡ cond (is_some (at q es)) (Some (g q)) None
  at-replaced q [] = refl
  at-replaced q (e ∷ es) = go (at-replaced q es) (same q e.0) refl
    where
      go : at q (replaced es) ≡ cond (is_some (at q es)) (Some (g q)) None → (b : Bool) → same q e.0 ≡ b → at q (replaced (e ∷ es)) ≡ cond (is_some (at q (e ∷ es))) (Some (g q)) None
      go rest true t = rw t (ap (λ k. Some (g k)) (sym (key-same q e.0 t)))
      go rest false t = rw t rest

holds-marks : {Y : Type 0} (ss : Table Y) (es : Table Held) → holds_by ss es ≡ marks (replaced (λ k. option_map hold_of (at k es)) ss)
holds-marks [] es = refl
holds-marks (s ∷ ss) es = ap (with_mark s.0 (option_map hold_of (at s.0 es))) (holds-marks ss es)

at-holds : (q : ℕ) (es : Table Held) → at q (map (λ e. (e.0, (e.1).hold)) es) ≡ option_map hold_of (at q es)
at-holds q [] = refl
at-holds q (e ∷ es) = ap (cond (same q e.0) (Some (e.1).hold)) (at-holds q es) ∙ turned (same q e.0) e.1 (at q es)
  where
    turned : (b : Bool) (h : Held) (o : Option Held) → cond b (Some h.hold) (option_map hold_of o) ≡ option_map hold_of (cond b (Some h) o)
    turned true h o = refl
    turned false h o = refl

joined-held : (a : Bool) (o : Option Held) → a ≡ is_some o → joined (cond a (Some (option_map hold_of o)) None) ≡ option_map hold_of o
joined-held true o e = refl
joined-held false None e = refl
joined-held false (Some h) e = absurd (cc e)

-- the slots give the tokens by rising ids
pub holds-by_key : (es : Table Held) (room : Table (Option Hold)) → IsCache es room → holds_by room es ≡ by_key (map (λ e. (e.0, (e.1).hold)) es)
holds-by_key es room c =
    let g : ℕ → Option Hold = λ k. option_map hold_of (at k es) in
    let sorted = sorted-replaced g room c.sorted in
    holds-marks room es
    ∙ same_entries nat_cmp nat_cmp_total (λ x y t. tied x y t) (marks (replaced g room)) (by_key (map (λ e. (e.0, (e.1).hold)) es)) (sorted-marks (replaced g room) sorted) (sorted-by_key (map (λ e. (e.0, (e.1).hold)) es))
    (λ q.
    marks-at q (replaced g room) sorted
    ∙ ap joined (at-replaced g q room)
    ∙ joined-held (is_some (at q room)) (at q es) (c.slots q)
    ∙ sym (at-by_key q (map (λ e. (e.0, (e.1).hold)) es) ∙ at-holds q es))

-- A new epoch.

pub marks-emptied : {Y : Type 0} (es : Table (Option Y)) → marks (emptied es) ≡ []
marks-emptied [] = refl
marks-emptied (e ∷ es) = marks-emptied es

below-emptied : {Y : Type 0} (k i : ℕ) (es : Table (Option Y)) → T (below_all nat_cmp k es) → T (below_all nat_cmp k (emptied (take i es)))
below-emptied k zero es h = tt
below-emptied k (suc i) [] h = tt
below-emptied k (suc i) (e ∷ es) h = both _ _ (first _ _ h) (below-emptied k i es (second _ _ h))

pub sorted-emptied : {Y : Type 0} (i : ℕ) (es : Table (Option Y)) → T (is_sorted nat_cmp es) → T (is_sorted nat_cmp (emptied (take i es)))
sorted-emptied zero es h = tt
sorted-emptied (suc i) [] h = tt
sorted-emptied (suc i) (e ∷ es) h = both _ _ (below-emptied e.0 i es (first _ _ h)) (sorted-emptied i es (second _ _ h))

pub kept-emptied : (es : Table Held) (room : Table (Option Hold)) → IsCache es room → IsCache es (emptied room)
kept-emptied es room c = record {
  tokens = c.tokens;
  sorted = sorted-replaced (λ k. None) room c.sorted;
  slots = λ q. ap is_some (at-replaced (λ k. None) q room) ∙ so (is_some (at q room)) ∙ c.slots q;
}
  where
    so : (b : Bool) → is_some (cond {A = Option (Option Hold)} b (Some None) None) ≡ b
    so true = refl
    so false = refl

abbrev zeroed : ℕ × Held → ℕ × Held
zeroed e = (e.0, record (e.1) { number = 0 })

abbrev zeroed-if : List ℕ → ℕ × Held → ℕ × Held
zeroed-if ks e = if member e.0 ks then zeroed e else e

zeroed-next : (k : ℕ) (ks : List ℕ) (e : ℕ × Held) → zeroed-if ks (if e.0 == k then zeroed e else e) ≡ zeroed-if (k ∷ ks) e
zeroed-next k ks e = elim (e.0 == k) as (λ a. zeroed-if ks (if a then zeroed e else e) ≡ (if (a || member e.0 ks) then zeroed e else e)) [
  | true ↦ elim (member e.0 ks) as (λ b. (if b then zeroed e else zeroed e) ≡ zeroed e) [ true ↦ refl | false ↦ refl ]
  | false ↦ refl
]

zeroed-twice : (k : ℕ) (ks : List ℕ) (es : Table Held) → map (zeroed-if ks) (unnumbered_at k es) ≡ map (zeroed-if (k ∷ ks)) es
zeroed-twice k ks [] = refl
zeroed-twice k ks (e ∷ es) = λ i. zeroed-next k ks e i ∷ zeroed-twice k ks es i

zeroed-none : (es : Table Held) → es ≡ map (zeroed-if []) es
zeroed-none [] = refl
zeroed-none (e ∷ es) = ap (λ fs. e ∷ fs) (zeroed-none es)

unnumbered-if : (ks : List ℕ) (es : Table Held) → unnumbered ks es ≡ map (zeroed-if ks) es
unnumbered-if [] es = zeroed-none es
unnumbered-if (k ∷ ks) es = unnumbered-if ks (unnumbered_at k es) ∙ zeroed-twice k ks es

all-zeroed : (ks : List ℕ) (es : Table Held) → ((x : ℕ) → is_some (at x es) ≡ true → member x ks ≡ true) → map (zeroed-if ks) es ≡ numberless es
all-zeroed ks [] all = refl
all-zeroed ks (e ∷ es) all =
    λ i. ap (λ b. if b then zeroed e else e) (all e.0 (ap (λ b. is_some (cond b (Some e.1) (at e.0 es))) (same-itself e.0))) i ∷ all-zeroed ks es (λ x t. all x (there x t)) i
  where
    there : (x : ℕ) → is_some (at x es) ≡ true → is_some (at x (e ∷ es)) ≡ true
    there x t = elim (same x e.0) as (λ b. is_some (cond b (Some e.1) (at x es)) ≡ true) [ true ↦ refl | false ↦ t ]

has-key : {X : Type 0} (x : ℕ) (es : Table X) → is_some (at x es) ≡ member x (keys es)
has-key x [] = refl
has-key x (e ∷ es) = go (same x e.0) refl (has-key x es)
  where
    go : (b : Bool) → same x e.0 ≡ b → is_some (at x es) ≡ member x (keys es) → is_some (at x (e ∷ es)) ≡ ((x == e.0) || member x (keys es))
    go true t rest = rw (t, unsigned_ties x e.0 ∙ t)
    go false t rest = rw (t, unsigned_ties x e.0 ∙ t) rest

-- the tokens by rising ids have all objects
pub unnumbered-all : (ks : List ℕ) (es : Table Held) → ks ≡ keys (by_key (map (λ e. (e.0, (e.1).hold)) es)) → unnumbered ks es ≡ numberless es
unnumbered-all ks es are =
    unnumbered-if ks es ∙ all-zeroed ks es (λ x t.
    ap (member x) are
    ∙ sym (has-key x (by_key (map (λ e. (e.0, (e.1).hold)) es)))
    ∙ ap is_some (at-by_key x (map (λ e. (e.0, (e.1).hold)) es) ∙ at-holds x es)
    ∙ shows (at x es)
    ∙ t)
  where
    shows : (o : Option Held) → is_some (option_map hold_of o) ≡ is_some o
    shows None = refl
    shows (Some h) = refl
