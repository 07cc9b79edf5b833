-- The line's clerk takes Write tokens on new ids, one after the other.
use Rattle.std.proofs.Common.{◌≡◌, refl, sym, ap, ◌∙◌, subst, arith, ◌≤◌, ◌<◌, ◌+◌, ℕ, zero, suc, T, Bool, true, false, not, ◌||◌, cond, List, [], ◌∷◌, ◌++◌, inl, inr, ◌⊎◌, length, length-append}
use Rattle.std.specs.Prelude.{None, Some, ◌==◌}
use Rattle.std.specs.Ordering.{nat_cmp, eq_by_cmp}
use Rattle.std.proofs.lemmas.Bool.{eq-eqb, eqb-true}
use Rattle.ec_base.specs.Tables.{at, or_else, put, without}
use Rattle.ec_base.specs.declared.ids.Hold.TheVariants.{Write}
use Rattle.ec_volume.specs.Update.{member}
use Rattle.ec_volume.specs.declared.image.Image.TheVariants.{Gone}
use Rattle.ec_history.specs.History.{Each}
use Rattle.ec_sessions.specs.Limits.{ids_per_grant}
use Rattle.ec_sessions.specs.Slots.{run}
use Rattle.ec_sessions.specs.OfTokens.Tokens.{token}
use Rattle.ec_wire.specs.declared.msg.Msg.{Msg}
use Rattle.ec_cache.specs.Cache as cache
use Rattle.ec_cache.specs.Cache.{last}
use Rattle.ec_cache.specs.declared.state.CacheState.{CacheState}
use Rattle.ec_cache.specs.declared.state.Held.{Held}
use Rattle.ec_protocol.specs.Clerk.{take_each}
use Rattle.ec_protocol.specs.declared.clerk.Clerk.{Clerk}
use Rattle.ec_quiet.specs.Facts.{Same, token_of}
use Rattle.ec_quiet.specs.Phases.{IsAged, IsGivenBack, IsLeaving, backs}
use Rattle.ec_quiet.specs.Scenes.{Mail, Scene}
use Rattle.ec_quiet.specs.Works.{Work}
use Rattle.ec_quiet.proofs.Taking as taking
use Rattle.ec_quiet.proofs.Taking.{at-renewed, each-both, each-map, each-of, few-left, regroup}
use Rattle.ec_quiet.proofs.Beside.{filter-both}
use Rattle.ec_base.proofs.Bools.{or-right}

-- the clerk with the ids, while its tokens are taken
abbrev pub filling : ℕ → Clerk → CacheState → Clerk
filling first k c = record k { got = k.got + 1; asking = None; ids = k.ids ++ run first ids_per_grant; cache = c }

abbrev pub filling_at : Work → Scene → Mail → Clerk → Scene
filling_at j sc rest m = record sc { clerks = put j.clerk m sc.clerks; mail = rest }

-- It has the same tokens as the server, but for these ids.
pub record IsFilled (j : Work) (sc : Scene) (rest : Mail) (first : ℕ) (k : Clerk) (xs : List ℕ) (c : CacheState) : Type 0 where
  pub numbers : (y : ℕ) (h : Held) → at y c.held ≡ Some h → h.number ≡ last y c
  pub lasts : (y : ℕ) → last y c ≤ sc.server.number
  pub rises : (y : ℕ) → last y k.cache ≤ last y c
  pub capacity : c.capacity ≡ k.cache.capacity
  pub limits : c.limits ≡ []
  pub same : (y : ℕ) → T (not (member y xs)) → Same sc.server j.session (filling first k c) y ⊎ IsLeaving j (filling_at j sc rest (filling first k c)) (filling first k c) y
  pub given : Each {A = ℕ × Msg} (λ m. IsGivenBack j sc.server.durable.epoch (filling first k c) m.1) (backs j rest)
  pub aged : IsAged j (filling first k c)
  pub size : length c.held + length xs ≤ length k.cache.held + ids_per_grant

apart : (a b : Bool) → a ≡ false → T (not b) → T (not (a || b))
apart true b e t = absurd (grind (arith, e))
apart false b e t = t

-- One of them is taken.

module _ (j : Work) (sc : Scene) (rest : Mail) (first : ℕ) (k : Clerk) (x : ℕ) (xs : List ℕ) (c : CacheState) (f : IsFilled j sc rest first k (x ∷ xs) c) (n : ℕ)
    (out : n ≤ sc.server.number) (recorded : token sc.server.tokens j.session x ≡ Some (record { hold = Write; number = n })) (new : last x c < n) (own : T (member x (k.ids ++ run first ids_per_grant))) where
  abbrev e : ℕ
  e = sc.server.durable.epoch

  abbrev v : Held
  v = taking.token-taken x Write n Gone c new

  abbrev d : CacheState
  d = taking.cache-taken x Write n Gone c new

  abbrev before : Clerk
  before = filling first k c

  abbrev now : Clerk
  now = filling first k d

  other-object : (y : ℕ) → (y == x) ≡ false → at y d.held ≡ at y c.held
  other-object y q = at-renewed x v c.held y ∙ ap (λ b. cond b (Some v) (at y c.held)) q

  own-object : at x d.held ≡ Some v
  own-object = at-renewed x v c.held x ∙ ap (λ b. cond b (Some v) (at x c.held)) (eq-eqb x x refl)

  leaving : (y : ℕ) → (y == x) ≡ false → IsLeaving j (filling_at j sc rest before) before y → IsLeaving j (filling_at j sc rest now) now y
  leaving y q l = record { number = l.number; hold = l.hold; sent = l.sent; recorded = l.recorded; gone = other-object y q ∙ l.gone; old = l.old }

  same : (y : ℕ) → T (not (member y xs)) → Same sc.server j.session now y ⊎ IsLeaving j (filling_at j sc rest now) now y
  same y t = go (y == x) refl
    where
      go : (b : Bool) → (y == x) ≡ b → Same sc.server j.session now y ⊎ IsLeaving j (filling_at j sc rest now) now y
      go true q = inl (subst (Same sc.server j.session now) (sym (eqb-true y x q)) (recorded ∙ ap token_of (sym own-object)))
      go false q = elim (f.same y (apart (y == x) (member y xs) q t)) [ inl s ↦ inl (s ∙ ap token_of (sym (other-object y q))) | inr l ↦ inr (leaving y q l) ]

  given : (m : ℕ × Msg) → IsGivenBack j e before m.1 → IsGivenBack j e now m.1
  given m g = record {
    obj = g.obj;
    number = g.number;
    is = g.is;
    known = omega (arith, g.known, taking.last-rises x Write n Gone c new g.obj);
    held = λ t p. later t (g.obj == x) refl (sym (at-renewed x v c.held g.obj) ∙ p);
  }
    where
      later : (t : Held) (b : Bool) → (g.obj == x) ≡ b → cond b (Some v) (at g.obj c.held) ≡ Some t → g.number < t.number
      later t true q p =
          let same : v ≡ t = (cc) in
          omega (arith, g.known, new, ap (λ z. z.number) same, ap (λ z. last z c) (eqb-true g.obj x q))
      later t false q p = g.held t p

  aged : IsAged j now
  aged =
      let a = f.aged in
      record {
        olds = without x a.olds;
        news = without x a.news ++ (x, v) ∷ [];
        whole = ap (λ es. without x es ++ (x, v) ∷ []) a.whole
            ∙ ap (λ es. es ++ (x, v) ∷ []) (filter-both (λ z. not (eq_by_cmp nat_cmp x z.0)) a.olds a.news) ∙ regroup (without x a.olds) (without x a.news) ((x, v) ∷ []);
        old = each-of {A = ℕ × Held} (λ z. (z.1).number ≤ j.number) (λ z. not (eq_by_cmp nat_cmp x z.0)) a.olds a.old;
        fresh = each-both {A = ℕ × Held} (λ z. T (member z.0 j.touched || member z.0 now.ids)) (without x a.news) ((x, v) ∷ [])
            (each-of {A = ℕ × Held} (λ z. T (member z.0 j.touched || member z.0 now.ids)) (λ z. not (eq_by_cmp nat_cmp x z.0)) a.news a.fresh) (or-right (member x j.touched) (member x now.ids) own, tt);
      }

  taken-now : IsFilled j sc rest first k xs d
  taken-now = record {
    numbers = taking.numbers-kept x Write n Gone c new f.numbers;
    lasts = taking.lasts-kept x Write n Gone c new sc.server.number out f.lasts;
    rises = λ y. omega (arith, f.rises y, taking.last-rises x Write n Gone c new y);
    capacity = f.capacity;
    limits = ap (without x) f.limits;
    same = same;
    given = each-map {A = ℕ × Msg} (λ m. IsGivenBack j e before m.1) (λ m. IsGivenBack j e now m.1) given (backs j rest) f.given;
    aged = aged;
    size = omega (arith, f.size, length-append (without x c.held) ((x, v) ∷ []), few-left {A = ℕ × Held} (λ z. not (eq_by_cmp nat_cmp x z.0)) c.held);
  }

  pub one-taken : IsFilled j sc rest first k xs (cache.take x Write n Gone c)
  one-taken = subst (IsFilled j sc rest first k xs) (sym (taking.takes-new x Write n Gone c new)) taken-now

  -- the last numbers of others are the same
  pub others-same : (y : ℕ) → (y == x) ≡ false → last y (cache.take x Write n Gone c) ≡ last y c
  others-same y q = ap (last y) (taking.takes-new x Write n Gone c new) ∙ taking.last-is x Write n Gone c new y ∙ ap (λ b. or_else 0 (cond b (Some n) (at y c.lasts))) q

-- All of them are.

pub record IsGiven (j : Work) (sc : Scene) (first : ℕ) (k : Clerk) (n : ℕ) (id m : ℕ) (c : CacheState) : Type 0 where
  pub recorded : (y : ℕ) → id ≤ y → y < id + m → token sc.server.tokens j.session y ≡ Some (record { hold = Write; number = n })
  pub new : (y : ℕ) → id ≤ y → y < id + m → last y c < n
  pub own : (y : ℕ) → id ≤ y → y < id + m → T (member y (k.ids ++ run first ids_per_grant))

module _ (j : Work) (sc : Scene) (rest : Mail) (first : ℕ) (k : Clerk) (n : ℕ) (out : n ≤ sc.server.number) where
  pub all-taken : (m id : ℕ) (c : CacheState) → IsFilled j sc rest first k (run id m) c → IsGiven j sc first k n id m c → IsFilled j sc rest first k [] (take_each n (run id m) c)
  all-taken zero id c f g = f
  all-taken (suc m) id c f g = all-taken m (id + 1) (cache.take id Write n Gone c) one rest-given
    where
      here : id < id + suc m
      here = omega arith

      one : IsFilled j sc rest first k (run (id + 1) m) (cache.take id Write n Gone c)
      one = one-taken j sc rest first k id (run (id + 1) m) c f n out (g.recorded id (omega arith) here) (g.new id (omega arith) here) (g.own id (omega arith) here)

      differs : (y : ℕ) → id + 1 ≤ y → (y == id) ≡ false
      differs y l = grind (arith, l)

      rest-given : IsGiven j sc first k n (id + 1) m (cache.take id Write n Gone c)
      rest-given = record {
        recorded = λ y l t. g.recorded y (omega (arith, l)) (omega (arith, t));
        new = λ y l t.
            subst (λ z. z < n) (sym (others-same j sc rest first k id (run (id + 1) m) c f n out (g.recorded id (omega arith) here) (g.new id (omega arith) here) (g.own id (omega arith) here) y (differs y l)))
            (g.new y (omega (arith, l)) (omega (arith, t)));
        own = λ y l t. g.own y (omega (arith, l)) (omega (arith, t));
      }

-- A range of ids.

pub in-run : (m id y : ℕ) → id ≤ y → y < id + m → T (member y (run id m))
in-run zero id y l t = absurd (omega (arith, l, t))
in-run (suc m) id y l t = go (y == id) refl (λ k. in-run m (id + 1) y k (omega (arith, t)))
  where
    next : (y == id) ≡ false → id + 1 ≤ y
    next f = grind (arith, f, l)

    go : (b : Bool) → (y == id) ≡ b → (id + 1 ≤ y → T (member y (run (id + 1) m))) → T (b || member y (run (id + 1) m))
    go true f r = tt
    go false f r = r (next f)

pub of-run : (P : ℕ → Type 0) (m id : ℕ) → Each P (run id m) → (y : ℕ) → id ≤ y → y < id + m → P y
of-run P zero id a y l t = absurd (omega (arith, l, t))
of-run P (suc m) id a y l t = go (y == id) refl (λ k. of-run P m (id + 1) a.1 y k (omega (arith, t)))
  where
    next : (y == id) ≡ false → id + 1 ≤ y
    next f = grind (arith, f, l)

    go : (b : Bool) → (y == id) ≡ b → (id + 1 ≤ y → P y) → P y
    go true f r = subst P (sym (eqb-true y id f)) a.0
    go false f r = r (next f)

pub run-length : (m id : ℕ) → length (run id m) ≡ m
run-length zero id = refl
run-length (suc m) id = ap suc (run-length m (id + 1))
