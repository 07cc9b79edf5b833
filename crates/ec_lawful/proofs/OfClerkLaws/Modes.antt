-- Modes of tokens, as a clerk holds them.
use Rattle.std.proofs.Common.{◌≡◌, refl, sym, ap, subst, ◌∙◌, arith, ◌≤◌, ℕ, Bool, true, false, cond, ◌==◌, List, [], ◌∷◌, Option, Some, None}
use Rattle.std.proofs.lemmas.Bool.{lt-ltb, ltb-true}
use Rattle.ec_base.specs.Holds.{is_below, is_free, rank}
use Rattle.ec_base.specs.Tables.{at, keys, put, renewed, without}
use Rattle.ec_base.specs.declared.ids.Hold.{Hold}
use Rattle.ec_base.specs.declared.ids.Hold.TheVariants.{Write}
use Rattle.ec_volume.specs.Update.{member, operands}
use Rattle.ec_volume.specs.declared.image.Image.{Image}
use Rattle.ec_volume.specs.declared.image.Image.TheVariants.{Gone}
use Rattle.ec_volume.specs.declared.update.Update.{Update}
use Rattle.ec_cache.specs.Cache as cache
use Rattle.ec_cache.specs.Cache.{held_mode, mode}
use Rattle.ec_cache.specs.declared.state.CacheState.{CacheState}
use Rattle.ec_cache.specs.declared.state.Held.{Held}
use Rattle.ec_protocol.specs.Clerk.{lower_held, mark_recall, take_each}
use Rattle.ec_coherence.proofs.ForClerk.CacheChange.{at-used, at-renewed}
use Rattle.ec_coherence.proofs.ForClerk.Caches.{at-kept, at-lowered, at-numberless, at_most, bare}
use Rattle.ec_coherence.proofs.ForServer.Tables.{at-without}
use Rattle.ec_base.proofs.Numbers.{le-same}
use Rattle.ec_lawful.proofs.OfClerkSteps.ForCalls.Resting.{mode-changed}
use Rattle.ec_coherence.proofs.ForClerk.GiveBack.{weaker-right}
use Rattle.ec_base.proofs.HoldsLemmas.{rank-most}

pub le-then : (a b c : ℕ) → b ≤ a → c ≤ b → c ≤ a
le-then a b c p q = omega (arith, p, q)

pub le-zero : (n : ℕ) → 0 ≤ n
le-zero n = omega arith

pub below-lower : (a b h : Hold) → rank b ≤ rank a → is_below a h ≡ true → is_below b h ≡ true
below-lower a b h l t = let m = ltb-true (rank a) (rank h) t in lt-ltb (rank b) (rank h) (omega (arith, l, m))

-- a mode falls, or stays
abbrev pub Falls : CacheState → CacheState → Type 0
Falls k now = (x : ℕ) → rank (mode x now) ≤ rank (mode x k)

pub falls-same : (k now : CacheState) → ((x : ℕ) → at x now.held ≡ at x k.held) → Falls k now
falls-same k now e x = subst (λ o. rank (held_mode o) ≤ rank (mode x k)) (sym (e x)) (le-same (rank (mode x k)))

pub lowers : (y : ℕ) (to : Hold) (o : Option Held) (k : CacheState) → Falls k (lower_held y to o k)
lowers y to None k x = le-same (rank (mode x k))
lowers y to (Some h) k x = go (is_free to)
  where
    none : (z : Bool) → rank (held_mode (cond z None (at x k.held))) ≤ rank (mode x k)
    none true = le-zero (rank (mode x k))
    none false = le-same (rank (mode x k))

    most : (z : Bool) (o : Option Held) → rank (held_mode (cond z (at_most to o) o)) ≤ rank (held_mode o)
    most true None = le-same 0
    most true (Some d) = weaker-right to d.hold
    most false o = le-same (rank (held_mode o))

    go : (z : Bool) → rank (held_mode (at x (cond z (without y k.held) (cache.lowered y to k.held)))) ≤ rank (mode x k)
    go true = subst (λ o. rank (held_mode o) ≤ rank (mode x k)) (sym (at-without x y k.held)) (none (x == y))
    go false = subst (λ o. rank (held_mode o) ≤ rank (mode x k)) (sym (at-lowered x y to k.held)) (most (x == y) (at x k.held))

pub evicted-falls : (pinned : List ℕ) (k : CacheState) → Falls k (cache.evict pinned k)
evicted-falls pinned k x = subst (λ o. rank (held_mode o) ≤ rank (mode x k)) (sym (at-kept x (keys (cache.evicted pinned k)) k.held)) (go (member x (keys (cache.evicted pinned k))))
  where
    go : (z : Bool) → rank (held_mode (cond z None (at x k.held))) ≤ rank (mode x k)
    go true = le-zero (rank (mode x k))
    go false = le-same (rank (mode x k))

pub changed-falls : (u : Update) (k : CacheState) → Falls k (cache.change u (operands u) k)
changed-falls u k x = subst (λ m. rank m ≤ rank (mode x k)) (sym (mode-changed u (operands u) x k)) (le-same (rank (mode x k)))

pub used-falls : (xs : List ℕ) (k : CacheState) → Falls k (cache.all_used xs k)
used-falls xs k = falls-same k (cache.all_used xs k) (λ x. at-used xs x k)

-- of another object nothing is lowered
pub lowered-other : (y x : ℕ) (to : Hold) (o : Option Held) (k : CacheState) → (x == y) ≡ false → mode x (lower_held y to o k) ≡ mode x k
lowered-other y x to None k e = refl
lowered-other y x to (Some h) k e = ap held_mode (go (is_free to))
  where
    go : (z : Bool) → at x (cond z (without y k.held) (cache.lowered y to k.held)) ≡ at x k.held
    go true = at-without x y k.held ∙ ap (λ z. cond z None (at x k.held)) e
    go false = at-lowered x y to k.held ∙ ap (λ z. cond z (at_most to (at x k.held)) (at x k.held)) e

-- a recall that is noted takes nothing yet
pub marked-mode : (y : ℕ) (to : Hold) (x : ℕ) (k : CacheState) → mode x (mark_recall y to k) ≡ mode x k
marked-mode y to x k = go (at y k.held)
  where
    go : (o : Option Held) → mode x (elim o as (λ z. CacheState) [ None ↦ k | Some h ↦ cache.limit y to k ]) ≡ mode x k
    go None = refl
    go (Some h) = refl

-- numbers are forgotten alone
pub numberless-mode : (x : ℕ) (k : CacheState) → mode x (cache.new_epoch k) ≡ mode x k
numberless-mode x k = ap held_mode (at-numberless x k.held) ∙ go (at x k.held)
  where
    go : (o : Option Held) → held_mode (bare o) ≡ held_mode o
    go None = refl
    go (Some h) = refl

-- a grant leaves the other objects
pub taken-mode : (y : ℕ) (h : Hold) (n : ℕ) (i : Image) (x : ℕ) (k : CacheState) → (x == y) ≡ false → mode x (cache.take y h n i k) ≡ mode x k
taken-mode y h n i x k e = go (cache.is_new y n k)
  where
    go : (z : Bool) → mode x (elim z as (λ q. CacheState) [ false ↦ k | true ↦ record k { held = renewed y (record { hold = h; number = n; image = i }) k.held; lasts = put y n k.lasts; limits = without y k.limits } ]) ≡ mode x k
    go false = refl
    go true = ap held_mode (at-renewed x y (record { hold = h; number = n; image = i }) k.held ∙ ap (λ z. cond z (Some (record { hold = h; number = n; image = i })) (at x k.held)) e)

-- tokens for writing lower nothing
written-rises : (y n : ℕ) (i : Image) (x : ℕ) (k : CacheState) → rank (mode x k) ≤ rank (mode x (cache.take y Write n i k))
written-rises y n i x k = by (x == y) refl
  where
    own : (x == y) ≡ true → (z : Bool) → rank (mode x k) ≤ rank (mode x (elim z as (λ q. CacheState) [ false ↦ k | true ↦ record k { held = renewed y (record { hold = Write; number = n; image = i }) k.held; lasts = put y n k.lasts; limits = without y k.limits } ]))
    own e false = le-same (rank (mode x k))
    own e true = subst (λ o. rank (mode x k) ≤ rank (held_mode o)) (sym (at-renewed x y (record { hold = Write; number = n; image = i }) k.held ∙ ap (λ z. cond z (Some (record { hold = Write; number = n; image = i })) (at x k.held)) e)) (rank-most (mode x k))

    by : (z : Bool) → (x == y) ≡ z → rank (mode x k) ≤ rank (mode x (cache.take y Write n i k))
    by true e = own e (cache.is_new y n k)
    by false e = subst (λ m. rank (mode x k) ≤ rank m) (sym (taken-mode y Write n i x k e)) (le-same (rank (mode x k)))

pub ids-rise : (n : ℕ) (ids : List ℕ) (x : ℕ) (k : CacheState) → rank (mode x k) ≤ rank (mode x (take_each n ids k))
ids-rise n [] x k = le-same (rank (mode x k))
ids-rise n (y ∷ ids) x k = let l = cache.take y Write n Gone k in le-then (rank (mode x (take_each n ids l))) (rank (mode x l)) (rank (mode x k)) (ids-rise n ids x l) (written-rises y n Gone x k)
