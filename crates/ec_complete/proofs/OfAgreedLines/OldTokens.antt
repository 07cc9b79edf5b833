-- Of tokens in the order of use the old ones go.
use Rattle.std.proofs.Common.{◌≡◌, refl, sym, ap, ◌∙◌, subst, arith, ◌≤◌, ◌+◌, ◌-◌, ◌*◌, ℕ, zero, suc, T, Bool, true, false, not, ◌||◌, cond, List, [], ◌∷◌, ◌++◌, length, length-append, map}
use Rattle.std.specs.Prelude.{None, Some, ◌==◌, filter, nat_le, take}
use Rattle.std.specs.Ordering.{nat_cmp, eq_by_cmp}
use Rattle.std.proofs.lemmas.Bool.{eqb-true}
use Rattle.ec_base.specs.Tables.{Table, at, keys}
use Rattle.ec_base.specs.declared.ids.Hold.TheVariants.{Free}
use Rattle.ec_history.specs.History.{Each}
use Rattle.ec_volume.specs.Update.{distinct, member}
use Rattle.ec_cache.specs.Cache as cache
use Rattle.ec_cache.specs.Cache.{evicted}
use Rattle.ec_cache.specs.Held.{unpinned}
use Rattle.ec_cache.specs.declared.state.CacheState.{CacheState}
use Rattle.ec_cache.specs.declared.state.Held.{Held}
use Rattle.ec_wire.specs.declared.msg.Msg.TheVariants.{Back}
use Rattle.ec_machine_laws.specs.Needs.{AreRoomy}
use Rattle.ec_machine_laws.proofs.Evicting.{evicted-few, evicted-old, goes-back, pinned-few, room-left, stays-held}
use Rattle.ec_protocol.specs.Clerk as clerk
use Rattle.ec_protocol.specs.Clerk.{Doing, evict, evict_unpinned, max_tokens, on_objects, send_backs, with_cache}
use Rattle.ec_protocol.specs.declared.clerk.Out.TheVariants as out
use Rattle.ec_quiet.specs.Facts.{token_of}
use Rattle.ec_quiet.specs.Evictions.{Evicts, IsOld, back_out, less_tokens}
use Rattle.ec_quiet.proofs.Taking.{each-map, each-of, regroup}
use Rattle.ec_quiet.proofs.Used.{roomy}
use Rattle.ec_base.proofs.Bools.{left, and-both, right}
use Rattle.ec_base.proofs.Lists.{no-more}
use Rattle.ec_quiet.proofs.Once.{found-once}

-- The tokens stand in the order of use: those of old numbers, and then those on fresh objects.
pub record AreAged (n : ℕ) (fresh : List ℕ) (es : Table Held) : Type 0 where
  pub olds : Table Held
  pub news : Table Held
  pub whole : es ≡ olds ++ news
  pub old : Each (IsOld n) olds
  pub own : Each {A = ℕ × Held} (λ e. T (member e.0 fresh)) news

-- Keys that stand once.

front-absent : (x : ℕ) (es fs : Table Held) → T (not (member x (keys (es ++ fs)))) → T (not (member x (keys es)))
front-absent x [] fs t = tt
front-absent x (e ∷ es) fs t = go (x == e.0) t (front-absent x es fs)
  where
    go : (b : Bool) → T (not (b || member x (keys (es ++ fs)))) → (T (not (member x (keys (es ++ fs)))) → T (not (member x (keys es)))) → T (not (b || member x (keys es)))
    go true t r = absurd t
    go false t r = r t

front-once : (es fs : Table Held) → T (distinct (keys (es ++ fs))) → T (distinct (keys es))
front-once [] fs t = tt
front-once (e ∷ es) fs t =
    and-both (not (member e.0 (keys es))) (distinct (keys es)) (front-absent e.0 es fs (left (not (member e.0 (keys (es ++ fs)))) (distinct (keys (es ++ fs))) t))
    (front-once es fs (right (not (member e.0 (keys (es ++ fs)))) (distinct (keys (es ++ fs))) t))

back-once : (es fs : Table Held) → T (distinct (keys (es ++ fs))) → T (distinct (keys fs))
back-once [] fs t = t
back-once (e ∷ es) fs t = back-once es fs (right (not (member e.0 (keys (es ++ fs)))) (distinct (keys (es ++ fs))) t)

-- Counts.

all-own : (fresh : List ℕ) (es : Table Held) → Each {A = ℕ × Held} (λ e. T (member e.0 fresh)) es → filter (λ (e : ℕ × Held). member e.0 fresh) es ≡ es
all-own fresh [] a = refl
all-own fresh (e ∷ es) a = go (member e.0 fresh) a.0 (all-own fresh es a.1)
  where
    go : (b : Bool) → T b → filter (λ (e : ℕ × Held). member e.0 fresh) es ≡ es → cond b (e ∷ filter (λ (e : ℕ × Held). member e.0 fresh) es) (filter (λ (e : ℕ × Held). member e.0 fresh) es) ≡ e ∷ es
    go true t r = ap (λ l. e ∷ l) r
    go false t r = absurd t

each-take : (P : ℕ × Held → Type 0) (c : ℕ) (es : Table Held) → Each P es → Each P (take c es)
each-take P zero es a = tt
each-take P (suc c) [] a = tt
each-take P (suc c) (e ∷ es) a = (a.0, each-take P c es a.1)

-- Messages that go back.

sends : (es : Table Held) (d : Doing) → send_backs es d ≡ record d { outs = d.outs ++ map (back_out d) es }
sends [] d = ap (λ os. record d { outs = os }) (sym (no-more d.outs))
sends (e ∷ es) d = sends es (clerk.send (Back (clerk.session d) (clerk.epoch d) e.0 (e.1).number Free) d) ∙ ap (λ os. record d { outs = os }) (regroup d.outs (back_out d e ∷ []) (map (back_out d) es))

holds : (b : Bool) → b ≡ true → T b
holds true e = tt
holds false e = absurd (grind (arith, e))

module _ (n : ℕ) (d : Doing) (fresh pinned : List ℕ) (a : AreAged n fresh d.clerk.cache.held) (once : T (distinct (keys d.clerk.cache.held))) (stay : (x : ℕ) → T (member x (on_objects d.clerk.log.undurable)) → T (member x pinned))
    (room : length pinned + length fresh ≤ max_tokens) (capacity : d.clerk.cache.capacity ≡ max_tokens) where
  abbrev k : CacheState
  k = d.clerk.cache

  abbrev objects : List ℕ
  objects = on_objects d.clerk.log.undurable

  parted : T (distinct (keys (a.olds ++ a.news)))
  parted = subst (λ es. T (distinct (keys es))) a.whole once

  few-news : length a.news ≤ length fresh
  few-news = subst (λ es. length es ≤ length fresh) (all-own fresh a.news a.own) (pinned-few a.news fresh fresh (back-once a.olds a.news parted) (λ x m. m))

  roomy-now : AreRoomy k objects a.olds a.news
  roomy-now = record { whole = a.whole; room = omega (arith, pinned-few a.olds objects pinned (front-once a.olds a.news parted) stay, few-news, room, capacity) }

  gone : Table Held
  gone = evicted objects k

  gone-old : Each (IsOld n) (evicted objects k)
  gone-old = subst (Each (IsOld n)) (sym (evicted-old k objects a.olds a.news roomy-now)) (each-take (IsOld n) (length k.held - k.capacity) (unpinned objects a.olds) (each-of (IsOld n) (λ e. not (member e.0 objects)) a.olds a.old))

  gone-held : Each {A = ℕ × Held} (λ e. token_of (at e.0 k.held) ≡ token_of (Some e.1)) (evicted objects k)
  gone-held = each-take (λ e. token_of (at e.0 k.held) ≡ token_of (Some e.1)) (length k.held - k.capacity) (unpinned objects k.held)
      (each-of {A = ℕ × Held} (λ e. token_of (at e.0 k.held) ≡ token_of (Some e.1)) (λ e. not (member e.0 objects)) k.held
      (each-map {A = ℕ × Held} (λ e. at e.0 k.held ≡ Some e.1) (λ e. token_of (at e.0 k.held) ≡ token_of (Some e.1)) (λ e p. ap token_of p) k.held (found-once k.held once)))

  goes : nat_le (length k.held) k.capacity ≡ false → evict d ≡ less_tokens (cache.evict objects k) (evicted objects k) d
  goes f = ap (λ b. elim b as (λ z. Doing) [ true ↦ d | false ↦ evict_unpinned objects d ]) f ∙ sends (evicted objects k) (with_cache (cache.evict objects) d)

  not-few : nat_le (length k.held) k.capacity ≡ false → length k.held ≤ max_tokens → ⊥
  not-few f l = go (length k.held) k.capacity f (omega (arith, l, capacity))
    where
      go : (x y : ℕ) → nat_le x y ≡ false → x ≤ y → ⊥
      go x y f l = grind (arith, f, l)

  at-most : nat_le (length k.held) k.capacity ≡ true → length k.held ≤ max_tokens
  at-most f = omega (arith, go (length k.held) k.capacity f, capacity)
    where
      go : (x y : ℕ) → nat_le x y ≡ true → x ≤ y
      go x y f = grind (arith, f)

  pub evicts : Evicts n d
  evicts = by (nat_le (length k.held) k.capacity) refl
    where
      by : (b : Bool) → nat_le (length k.held) k.capacity ≡ b → Evicts n d
      by true f = roomy n d capacity (at-most f)
      by false f = record {
        cache = cache.evict objects k;
        gone = evicted objects k;
        is = goes f;
        leaves = record {
          capacity = refl;
          lasts = refl;
          limits = λ e. ap (filter (λ t. not (member t.0 (keys (evicted objects k))))) e;
          stay = λ x e. ap token_of (stays-held k objects x e);
          go = λ x e. goes-back k objects x (holds (member x (keys (evicted objects k))) e);
          held = gone-held;
        };
        part = refl;
        old = gone-old;
        room = omega (arith, room-left k objects a.olds a.news roomy-now, capacity);
        few = omega (arith, evicted-few k objects, capacity);
        none = λ l. absurd (not-few f l);
      }
