-- Tokens that go back where there are too many.
use Rattle.std.proofs.Common.{◌≡◌, refl, sym, ap, subst, ◌∙◌, arith, ◌≤◌, ◌+◌, ◌-◌, ℕ, zero, suc, T, Bool, true, false, not, ◌==◌, ◌&&◌, ◌||◌, cond, List, [], ◌∷◌, ◌++◌, length, filter, take, None, length-append, length-take-le}
use Rattle.std.specs.Ordering.{nat_cmp}
use Rattle.std.specs.FinMap.Entries.{find-where_key}
use Rattle.std.specs.List.{list_all}
use Rattle.std.specs.declared.cmp.Ordering.TheVariants.{Equal}
use Rattle.std.proofs.lemmas.Bool.{eqb-true, true≢false}
use Rattle.std.proofs.lemmas.Bool.Decides.{nat_tests}
use Rattle.std.proofs.lemmas.List.{take-append-le}
use Rattle.std.proofs.lemmas.List.Elements.{filter-append}
use Rattle.ec_base.specs.Tables.{Table, at, keys}
use Rattle.ec_volume.specs.Update.{member, distinct}
use Rattle.ec_cache.specs.Cache.{evicted, evict}
use Rattle.ec_cache.specs.Held.{unpinned}
use Rattle.ec_cache.specs.declared.state.CacheState.{CacheState}
use Rattle.ec_cache.specs.declared.state.Held.{Held}
use Rattle.ec_machine_laws.specs.Needs.{AreRoomy}
use Rattle.ec_machine_laws.proofs.Once.{AreOnce, fewer, keys-length}
use Rattle.ec_base.proofs.Numbers.{same-self}
use Rattle.ec_base.proofs.Bools.{or-right, first as left, right, not-true, or_first, is-true}
use Rattle.ec_base.proofs.Lists.{take-few}

-- Lists.

both-parts : {A : Type 0} (p : A → Bool) (xs : List A) → length (filter p xs) + length (filter (λ x. not (p x)) xs) ≡ length xs
both-parts p [] = refl
both-parts p (x ∷ xs) = go (p x) (both-parts p xs)
  where
    go : (b : Bool) → length (filter p xs) + length (filter (λ x. not (p x)) xs) ≡ length xs
        → length (cond b (x ∷ filter p xs) (filter p xs)) + length (cond (not b) (x ∷ filter (λ x. not (p x)) xs) (filter (λ x. not (p x)) xs)) ≡ suc (length xs)
    go true e = omega (arith, e)
    go false e = omega (arith, e)

-- Keys of parts.

taken-key : (c : ℕ) (es : Table Held) (x : ℕ) → T (member x (keys (take c es))) → T (member x (keys es))
taken-key zero es x m = absurd m
taken-key (suc c) [] x m = absurd m
taken-key (suc c) (e ∷ es) x m = go (x == e.0) m (taken-key c es x)
  where
    go : (b : Bool) → T (b || member x (keys (take c es))) → (T (member x (keys (take c es))) → T (member x (keys es))) → T (b || member x (keys es))
    go true m r = tt
    go false m r = r m

part-key : (p : ℕ → Bool) (es : Table Held) (x : ℕ) → T (member x (keys (filter (λ e. p e.0) es))) → T (member x (keys es))
part-key p [] x m = absurd m
part-key p (e ∷ es) x m = go (p e.0) m (part-key p es x)
  where
    inside : (b : Bool) → T (b || member x (keys (filter (λ e. p e.0) es))) → (T (member x (keys (filter (λ e. p e.0) es))) → T (member x (keys es))) → T (b || member x (keys es))
    inside true m r = tt
    inside false m r = r m

    go : (b : Bool) → T (member x (keys (cond b (e ∷ filter (λ e. p e.0) es) (filter (λ e. p e.0) es)))) → (T (member x (keys (filter (λ e. p e.0) es))) → T (member x (keys es))) → T (member x (keys (e ∷ es)))
    go true m r = inside (x == e.0) m r
    go false m r = or-right (x == e.0) (member x (keys es)) (r m)

-- a key of a part passes the test
passed-key : (p : ℕ → Bool) (es : Table Held) (x : ℕ) → T (member x (keys (filter (λ e. p e.0) es))) → p x ≡ true
passed-key p [] x m = absurd m
passed-key p (e ∷ es) x m = go (p e.0) refl m (passed-key p es x)
  where
    inside : (b : Bool) → (x == e.0) ≡ b → p e.0 ≡ true → T (b || member x (keys (filter (λ e. p e.0) es))) → (T (member x (keys (filter (λ e. p e.0) es))) → p x ≡ true) → p x ≡ true
    inside true q t m r = ap p (eqb-true x e.0 q) ∙ t
    inside false q t m r = r m

    go : (b : Bool) → p e.0 ≡ b → T (member x (keys (cond b (e ∷ filter (λ e. p e.0) es) (filter (λ e. p e.0) es)))) → (T (member x (keys (filter (λ e. p e.0) es))) → p x ≡ true) → p x ≡ true
    go true t m r = inside (x == e.0) refl t m r
    go false t m r = r m

-- Evictions.

pub evicted-few : (k : CacheState) (pinned : List ℕ) → length (evicted pinned k) ≤ length k.held - k.capacity
evicted-few k pinned = take-few (length k.held - k.capacity) (unpinned pinned k.held)

pub evicted-held : (k : CacheState) (pinned : List ℕ) (x : ℕ) → T (member x (keys (evicted pinned k))) → T (member x (keys k.held))
evicted-held k pinned x m = part-key (λ o. not (member o pinned)) k.held x (taken-key (length k.held - k.capacity) (unpinned pinned k.held) x m)

pub evicted-free : (k : CacheState) (pinned : List ℕ) (x : ℕ) → T (member x (keys (evicted pinned k))) → member x pinned ≡ false
evicted-free k pinned x m = not-true (member x pinned) (passed-key (λ o. not (member o pinned)) k.held x (taken-key (length k.held - k.capacity) (unpinned pinned k.held) x m))

module _ (k : CacheState) (pinned : List ℕ) (olds news : Table Held) (r : AreRoomy k pinned olds news) where
  enough : length k.held - k.capacity ≤ length (unpinned pinned olds)
  enough = omega (arith, both-parts (λ e. member e.0 pinned) olds, r.room, ap length r.whole, length-append olds news)

  pub evicted-old : evicted pinned k ≡ take (length k.held - k.capacity) (unpinned pinned olds)
  evicted-old =
      ap (λ es. take (length k.held - k.capacity) (unpinned pinned es)) r.whole
      ∙ ap (take (length k.held - k.capacity)) (filter-append (λ e. not (member e.0 pinned)) olds news)
      ∙ take-append-le (length k.held - k.capacity) (unpinned pinned olds) (unpinned pinned news) enough

  pub evicted-count : length (evicted pinned k) ≡ length k.held - k.capacity
  evicted-count = ap length evicted-old ∙ length-take-le (length k.held - k.capacity) (unpinned pinned olds) enough

  pub evicted-olds : (x : ℕ) → T (member x (keys (evicted pinned k))) → T (member x (keys olds))
  evicted-olds x m = part-key (λ o. not (member o pinned)) olds x (taken-key (length k.held - k.capacity) (unpinned pinned olds) x (subst (λ es. T (member x (keys es))) evicted-old m))

-- The rest.

alike : (gone : List ℕ) (x y : ℕ) → nat_cmp x y ≡ Equal → not (member y gone) ≡ not (member x gone)
alike gone x y e = ap (λ z. not (member z gone)) (sym (same x y e))
  where
    same : (m n : ℕ) → nat_cmp m n ≡ Equal → m ≡ n
    same m n e = grind (arith, nat_tests)

kept-at : (gone : List ℕ) (es : Table Held) (x : ℕ) → at x (unpinned gone es) ≡ cond (not (member x gone)) (at x es) None
kept-at gone es x = find-where_key nat_cmp (λ o. not (member o gone)) x (λ y e. alike gone x y e) es

pub stays-held : (k : CacheState) (pinned : List ℕ) (x : ℕ) → member x (keys (evicted pinned k)) ≡ false → at x (evict pinned k).held ≡ at x k.held
stays-held k pinned x e = kept-at (keys (evicted pinned k)) k.held x ∙ ap (λ b. cond (not b) (at x k.held) None) e

pub goes-back : (k : CacheState) (pinned : List ℕ) (x : ℕ) → T (member x (keys (evicted pinned k))) → at x (evict pinned k).held ≡ None
goes-back k pinned x m = kept-at (keys (evicted pinned k)) k.held x ∙ ap (λ b. cond (not b) (at x k.held) None) (is-true (member x (keys (evicted pinned k))) m)

-- the first of those that pass are no more than those that pass another test, where each of them passes it
sub-few : (p q : ℕ × Held → Bool) (c : ℕ) (es : Table Held) → T (list_all q (take c (filter p es))) → length (take c (filter p es)) ≤ length (filter q es)
sub-few p q zero es h = omega arith
sub-few p q (suc c) [] h = omega arith
sub-few p q (suc c) (e ∷ es) h = go (p e) h (λ i. sub-few p q c es i) (λ i. sub-few p q (suc c) es i)
  where
    wider : (b : Bool) (n : ℕ) → n ≤ length (filter q es) → n ≤ length (cond b (e ∷ filter q es) (filter q es))
    wider true n l = omega (arith, l)
    wider false n l = l

    here : q e ≡ true → length (cond (q e) (e ∷ filter q es) (filter q es)) ≡ suc (length (filter q es))
    here t = ap (λ b. length (cond b (e ∷ filter q es) (filter q es))) t

    go : (b : Bool) → T (list_all q (take (suc c) (cond b (e ∷ filter p es) (filter p es)))) → (T (list_all q (take c (filter p es))) → length (take c (filter p es)) ≤ length (filter q es))
        → (T (list_all q (take (suc c) (filter p es))) → length (take (suc c) (filter p es)) ≤ length (filter q es))
        → length (take (suc c) (cond b (e ∷ filter p es) (filter p es))) ≤ length (cond (q e) (e ∷ filter q es) (filter q es))
    go true h r s =
        let t : q e ≡ true = is-true (q e) (left (q e) (list_all q (take c (filter p es))) h) in
        let l : length (take c (filter p es)) ≤ length (filter q es) = r (right (q e) (list_all q (take c (filter p es))) h) in
        omega (arith, here t, l)
    go false h r s = wider (q e) (length (take (suc c) (filter p es))) (s h)

own-keys : (gone : List ℕ) (es : Table Held) → ((x : ℕ) → T (member x (keys es)) → T (member x gone)) → T (list_all (λ e. member e.0 gone) es)
own-keys gone [] h = tt
own-keys gone (e ∷ es) h = joined (member e.0 gone) (list_all (λ e. member e.0 gone) es) (h e.0 (or_first (e.0 == e.0) (member e.0 (keys es)) (subst T (sym (same-self e.0)) tt))) (own-keys gone es (λ x m. h x (or-right (x == e.0) (member x (keys es)) m)))
  where
    joined : (a b : Bool) → T a → T b → T (a && b)
    joined true b h i = i
    joined false b h i = h

pub room-left : (k : CacheState) (pinned : List ℕ) (olds news : Table Held) → AreRoomy k pinned olds news → length (evict pinned k).held ≤ k.capacity
room-left k pinned olds news r =
    let gone : length (evicted pinned k) ≤ length (filter (λ e. member e.0 (keys (evicted pinned k))) k.held)
    = sub-few (λ e. not (member e.0 pinned)) (λ e. member e.0 (keys (evicted pinned k))) (length k.held - k.capacity) k.held (own-keys (keys (evicted pinned k)) (evicted pinned k) (λ x m. m)) in
    omega (arith, gone, evicted-count k pinned olds news r, both-parts (λ e. member e.0 (keys (evicted pinned k))) k.held)

-- Newer tokens stay where they are.

apart-keys : (es fs : Table Held) → T (distinct (keys (es ++ fs))) → (x : ℕ) → T (member x (keys es)) → member x (keys fs) ≡ false
apart-keys [] fs d x m = absurd m
apart-keys (e ∷ es) fs d x m = go (x == e.0) refl m (apart-keys es fs (right (not (member e.0 (keys (es ++ fs)))) (distinct (keys (es ++ fs))) d) x)
  where
    behind : (gs : Table Held) → member e.0 (keys (gs ++ fs)) ≡ false → member e.0 (keys fs) ≡ false
    behind [] h = h
    behind (g ∷ gs) h = behind gs (later (e.0 == g.0) h)
      where
        later : (b : Bool) → (b || member e.0 (keys (gs ++ fs))) ≡ false → member e.0 (keys (gs ++ fs)) ≡ false
        later true h = absurd (true≢false h)
        later false h = h

    none : (b : Bool) → T (not b) → b ≡ false
    none true h = absurd h
    none false h = refl

    go : (b : Bool) → (x == e.0) ≡ b → T (b || member x (keys es)) → (T (member x (keys es)) → member x (keys fs) ≡ false) → member x (keys fs) ≡ false
    go true q m r = ap (λ z. member z (keys fs)) (eqb-true x e.0 q) ∙ behind es (none (member e.0 (keys (es ++ fs))) (left (not (member e.0 (keys (es ++ fs)))) (distinct (keys (es ++ fs))) d))
    go false q m r = r m

all-kept : (gone : List ℕ) (es : Table Held) → ((x : ℕ) → T (member x (keys es)) → member x gone ≡ false) → unpinned gone es ≡ es
all-kept gone [] h = refl
all-kept gone (e ∷ es) h =
    ap (λ b. cond (not b) (e ∷ unpinned gone es) (unpinned gone es)) (h e.0 (or_first (e.0 == e.0) (member e.0 (keys es)) (subst T (sym (same-self e.0)) tt)))
    ∙ ap (λ zs. e ∷ zs) (all-kept gone es (λ x m. h x (or-right (x == e.0) (member x (keys es)) m)))

pub order-stays : (k : CacheState) (pinned : List ℕ) (olds news : Table Held) → AreRoomy k pinned olds news → T (distinct (keys k.held)) → (evict pinned k).held ≡ unpinned (keys (evicted pinned k)) olds ++ news
order-stays k pinned olds news r d =
    ap (unpinned (keys (evicted pinned k))) r.whole ∙ filter-append (λ e. not (member e.0 (keys (evicted pinned k)))) olds news
    ∙ ap (λ es. unpinned (keys (evicted pinned k)) olds ++ es) (all-kept (keys (evicted pinned k)) news (λ x m. go x m (member x (keys (evicted pinned k))) refl))
  where
    go : (x : ℕ) → T (member x (keys news)) → (b : Bool) → member x (keys (evicted pinned k)) ≡ b → b ≡ false
    go x m true e =
        let old : T (member x (keys olds)) = evicted-olds k pinned olds news r x (subst T (sym e) tt) in
        absurd (true≢false (sym (is-true (member x (keys news)) m) ∙ apart-keys olds news (subst (λ es. T (distinct (keys es))) r.whole d) x old))
    go x m false e = refl

-- Pinned tokens.

-- the keys of a part, each once
part-once : (p : ℕ → Bool) (es : Table Held) → T (distinct (keys es)) → AreOnce (keys (filter (λ e. p e.0) es))
part-once p [] d = tt
part-once p (e ∷ es) d = go (p e.0) (part-once p es (right (not (member e.0 (keys es))) (distinct (keys es)) d))
  where
    none : (b : Bool) → T (not b) → b ≡ false
    none true h = absurd h
    none false h = refl

    apart : (x : ℕ) → T (member x (keys (filter (λ e. p e.0) es))) → (x == e.0) ≡ false
    apart x m = by (x == e.0) refl
      where
        by : (b : Bool) → (x == e.0) ≡ b → b ≡ false
        by true q =
            let there : T (member e.0 (keys es)) = subst (λ z. T (member z (keys es))) (eqb-true x e.0 q) (part-key p es x m) in
            absurd (true≢false (sym (is-true (member e.0 (keys es)) there) ∙ none (member e.0 (keys es)) (left (not (member e.0 (keys es))) (distinct (keys es)) d)))
        by false q = refl

    go : (b : Bool) → AreOnce (keys (filter (λ e. p e.0) es)) → AreOnce (keys (cond b (e ∷ filter (λ e. p e.0) es) (filter (λ e. p e.0) es)))
    go true o = (apart, o)
    go false o = o

pub pinned-few : (es : Table Held) (pinned ids : List ℕ) → T (distinct (keys es)) → ((x : ℕ) → T (member x pinned) → T (member x ids)) → length (filter (λ e. member e.0 pinned) es) ≤ length ids
pinned-few es pinned ids d h =
    omega (
      arith,
      fewer (keys (filter (λ e. member e.0 pinned) es)) ids (part-once (λ o. member o pinned) es d) (λ x m. h x (subst T (sym (passed-key (λ o. member o pinned) es x m)) tt)),
      keys-length (filter (λ e. member e.0 pinned) es),
    )
