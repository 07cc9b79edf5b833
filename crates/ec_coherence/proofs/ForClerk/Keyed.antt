-- A cache has each object at most once, whatever is done with it.
use Rattle.std.proofs.Common.{◌≡◌, refl, sym, ap, subst, ◌∙◌, arith, ℕ, Bool, true, false, not, ◌&&◌, ◌||◌, cond, T, List, [], ◌∷◌, ◌++◌}
use Rattle.std.specs.Prelude.{◌==◌, Option, None, Some, filter}
use Rattle.ec_base.specs.Tables.{Table, at, keys, without, renewed}
use Rattle.ec_base.specs.declared.ids.Hold.{Hold}
use Rattle.ec_volume.specs.Update.{member, distinct, effect}
use Rattle.ec_volume.specs.declared.image.Image.{Image}
use Rattle.ec_volume.specs.declared.update.Update.{Update}
use Rattle.ec_base.specs.Holds.{is_free, weaker}
use Rattle.ec_cache.specs.Cache as cache
use Rattle.ec_cache.specs.declared.state.CacheState.{CacheState}
use Rattle.ec_cache.specs.declared.state.Held.{Held}
use Rattle.ec_protocol.specs.Clerk.{mark_recall, lower_held, take_each}
use Rattle.ec_coherence.specs.Caches.{IsKeyed}
use Rattle.ec_coherence.proofs.ForServer.Tables.{at-without}
use Rattle.ec_base.proofs.Numbers.{same-self as same}
use Rattle.ec_coherence.proofs.ForClerk.CacheChange.{at-cons}
use Rattle.ec_base.proofs.Bools.{and-both, not-right}

absent : (x : ℕ) (es : Table Held) → at x es ≡ None → T (not (member x (keys es)))
absent x [] p = tt
absent x (e ∷ es) p = go (x == e.0) (sym (at-cons x e es) ∙ p) (absent x es)
  where
    go : (b : Bool) → cond b (Some e.1) (at x es) ≡ None → (at x es ≡ None → T (not (member x (keys es)))) → T (not (b || member x (keys es)))
    go true q f = absurd (cc)
    go false q f = f q

or-left : (a b : Bool) → T (not (a || b)) → T (not a)
or-left true b h = absurd h
or-left false b h = tt

or-both : (a b : Bool) → T (not a) → T (not b) → T (not (a || b))
or-both true b h i = absurd h
or-both false b h i = i

left : (a b : Bool) → T (not a && b) → T (not a)
left true b h = absurd h
left false b h = tt

right : (a b : Bool) → T (not a && b) → T b
right true b h = absurd h
right false b h = h

absent-filter : (x : ℕ) (q : ℕ × Held → Bool) (es : Table Held) → T (not (member x (keys es))) → T (not (member x (keys (filter q es))))
absent-filter x q [] h = tt
absent-filter x q (e ∷ es) h = go (q e) (absent-filter x q es (not-right (x == e.0) (member x (keys es)) h))
  where
    go : (a : Bool) → T (not (member x (keys (filter q es)))) → T (not (member x (keys (cond a (e ∷ filter q es) (filter q es)))))
    go true i = or-both (x == e.0) (member x (keys (filter q es))) (or-left (x == e.0) (member x (keys es)) h) i
    go false i = i

keyed-filter : (q : ℕ × Held → Bool) (es : Table Held) → T (distinct (keys es)) → T (distinct (keys (filter q es)))
keyed-filter q [] h = tt
keyed-filter q (e ∷ es) h = go (q e) (keyed-filter q es (right (member e.0 (keys es)) (distinct (keys es)) h))
  where
    go : (a : Bool) → T (distinct (keys (filter q es))) → T (distinct (keys (cond a (e ∷ filter q es) (filter q es))))
    go true i = and-both (not (member e.0 (keys (filter q es)))) (distinct (keys (filter q es))) (absent-filter e.0 q es (left (member e.0 (keys es)) (distinct (keys es)) h)) i
    go false i = i

absent-end : (x k : ℕ) (v : Held) (es : Table Held) → T (not (member x (keys es))) → T (not (x == k)) → T (not (member x (keys (es ++ (k, v) ∷ []))))
absent-end x k v [] h d = or-both (x == k) false d tt
absent-end x k v (e ∷ es) h d = or-both (x == e.0) (member x (keys (es ++ (k, v) ∷ []))) (or-left (x == e.0) (member x (keys es)) h) (absent-end x k v es (not-right (x == e.0) (member x (keys es)) h) d)

keyed-end : (k : ℕ) (v : Held) (es : Table Held) → T (distinct (keys es)) → T (not (member k (keys es))) → T (distinct (keys (es ++ (k, v) ∷ [])))
keyed-end k v [] h d = tt
keyed-end k v (e ∷ es) h d = and-both (not (member e.0 (keys (es ++ (k, v) ∷ [])))) (distinct (keys (es ++ (k, v) ∷ [])))
    (absent-end e.0 k v es (left (member e.0 (keys es)) (distinct (keys es)) h) (turn (or-left (k == e.0) (member k (keys es)) d)))
    (keyed-end k v es (right (member e.0 (keys es)) (distinct (keys es)) h) (not-right (k == e.0) (member k (keys es)) d))
  where
    turn : T (not (k == e.0)) → T (not (e.0 == k))
    turn h = subst (λ b. T (not b)) (turned k e.0) h
      where
        turned : (a b : ℕ) → (a == b) ≡ (b == a)
        turned a b = grind arith

keyed-without : (x : ℕ) (es : Table Held) → T (distinct (keys es)) → T (distinct (keys (without x es)))
keyed-without x es h = keyed-filter _ es h

pub keyed-renewed : (x : ℕ) (v : Held) (es : Table Held) → T (distinct (keys es)) → T (distinct (keys (renewed x v es)))
keyed-renewed x v es h = keyed-end x v (without x es) (keyed-without x es h) (absent x (without x es) (at-without x x es ∙ ap (λ b. cond b None (at x es)) (same x)))

-- What is done with a cache.

module _ (k : CacheState) (h : IsKeyed k) where
  pub keyed-take : (x : ℕ) (m : Hold) (n : ℕ) (i : Image) → IsKeyed (cache.take x m n i k)
  keyed-take x m n i = go (cache.is_new x n k)
    where
      go : (b : Bool) → IsKeyed (elim b as (λ z. CacheState) [
        | false ↦ k
        | true ↦ record k { held = renewed x (record { hold = m; number = n; image = i }) k.held; lasts = Rattle.ec_base.specs.Tables.put x n k.lasts; limits = without x k.limits }
      ])
      go true = keyed-renewed x (record { hold = m; number = n; image = i }) k.held h
      go false = h

  pub keyed-used : (x : ℕ) → IsKeyed (cache.used x k)
  keyed-used x = go (at x k.held)
    where
      go : (o : Option Held) → IsKeyed (elim o as (λ z. CacheState) [ None ↦ k | Some d ↦ record k { held = renewed x d k.held } ])
      go None = h
      go (Some d) = keyed-renewed x d k.held h

  pub keyed-changed : (u : Update) (x : ℕ) → IsKeyed (cache.change_at u x k)
  keyed-changed u x = go (at x k.held)
    where
      go : (o : Option Held) → IsKeyed (elim o as (λ z. CacheState) [ None ↦ k | Some d ↦ record k { held = renewed x (record d { image = effect u x d.image }) k.held } ])
      go None = h
      go (Some d) = keyed-renewed x (record d { image = effect u x d.image }) k.held h

  pub keyed-marked : (x : ℕ) (to : Hold) → IsKeyed (mark_recall x to k)
  keyed-marked x to = go (at x k.held)
    where
      go : (o : Option Held) → IsKeyed (elim o as (λ z. CacheState) [ None ↦ k | Some d ↦ cache.limit x to k ])
      go None = h
      go (Some d) = h

  pub keyed-evicted : (pinned : List ℕ) → IsKeyed (cache.evict pinned k)
  keyed-evicted pinned = keyed-filter _ k.held h

  pub keyed-new-epoch : IsKeyed (cache.new_epoch k)
  keyed-new-epoch = subst (λ ks. T (distinct ks)) (sym (go k.held)) h
    where
      go : (es : Table Held) → keys (cache.numberless es) ≡ keys es
      go [] = refl
      go (e ∷ es) = ap (λ z. e.0 ∷ z) (go es)

  pub keyed-lowered : (x : ℕ) (to : Hold) (o : Option Held) → IsKeyed (lower_held x to o k)
  keyed-lowered x to None = h
  keyed-lowered x to (Some d) = by-mode (is_free to)
    where
      by-mode : (b : Bool) → T (distinct (keys (cond b (without x k.held) (cache.lowered x to k.held))))
      by-mode true = keyed-without x k.held h
      by-mode false = subst (λ ks. T (distinct ks)) (sym (go k.held)) h
        where
          one : (b : Bool) (e : ℕ × Held) → (cond b (e.0, record (e.1) { hold = weaker to (e.1).hold }) e).0 ≡ e.0
          one true e = refl
          one false e = refl

          go : (es : Table Held) → keys (cache.lowered x to es) ≡ keys es
          go [] = refl
          go (e ∷ es) = ap (λ z. z ∷ keys (cache.lowered x to es)) (one (e.0 == x) e) ∙ ap (λ z. e.0 ∷ z) (go es)

pub keyed-all-used : (xs : List ℕ) (k : CacheState) → IsKeyed k → IsKeyed (cache.all_used xs k)
keyed-all-used [] k h = h
keyed-all-used (x ∷ xs) k h = keyed-all-used xs (cache.used x k) (keyed-used k h x)

pub keyed-all-changed : (u : Update) (xs : List ℕ) (k : CacheState) → IsKeyed k → IsKeyed (cache.change u xs k)
keyed-all-changed u [] k h = h
keyed-all-changed u (x ∷ xs) k h = keyed-all-changed u xs (cache.change_at u x k) (keyed-changed k h u x)

pub keyed-each : (n : ℕ) (xs : List ℕ) (k : CacheState) → IsKeyed k → IsKeyed (take_each n xs k)
keyed-each n [] k h = h
keyed-each n (x ∷ xs) k h = keyed-each n xs _ (keyed-take k h x Rattle.ec_base.specs.declared.ids.Hold.TheVariants.Write n Rattle.ec_volume.specs.declared.image.Image.TheVariants.Gone)

pub keyed-empty : (capacity : ℕ) → IsKeyed (cache.empty capacity)
keyed-empty capacity = tt
