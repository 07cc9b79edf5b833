-- A clerk takes ids: Write tokens on sixteen new objects.
use Rattle.std.proofs.Common.{◌≡◌, refl, sym, ap, subst, ◌∙◌, inl, inr, ◌⊎◌, arith, ℕ, zero, suc, Bool, true, false, not, ◌&&◌, ◌||◌, ◌+◌, cond, T, ◌≤◌, ◌<◌, List, [], ◌∷◌}
use Rattle.std.specs.Prelude.{◌==◌, Some, nat_lt, nat_le}
use Rattle.ec_base.specs.Tables.{at}
use Rattle.ec_base.specs.declared.counter.Counter.TheVariants as counter
use Rattle.ec_base.specs.declared.ids.Hold.TheVariants.{Write}
use Rattle.ec_volume.specs.Update.{member}
use Rattle.ec_volume.specs.declared.image.Image.TheVariants as image
use Rattle.ec_history.specs.History.{Each}
use Rattle.ec_sessions.specs.Slots.{run}
use Rattle.ec_wire.specs.declared.msg.Msg.TheVariants.{Ids}
use Rattle.ec_cache.specs.Cache as cache
use Rattle.ec_cache.specs.Cache.{last}
use Rattle.ec_cache.specs.declared.state.CacheState.{CacheState}
use Rattle.ec_cache.specs.declared.state.Held.{Held}
use Rattle.ec_protocol.specs.declared.clerk.Clerk.{Clerk}
use Rattle.ec_protocol.specs.Clerk.{Doing, in_session, spend, with_clerk, take_each, add_ids, take_ids}
use Rattle.ec_coherence.specs.Clerks.{acting}
use Rattle.ec_coherence.specs.Tokens.{View, side, eff, is_untaken, in_sixteen, Fits, TokensAgree}
use Rattle.ec_coherence.proofs.ForClerk.Acting.{is-in, moves-act}
use Rattle.ec_coherence.proofs.ForClerk.Caches.{last-put}
use Rattle.ec_coherence.proofs.ForClerk.Rows.{Moved, still}
use Rattle.ec_coherence.proofs.ForClerk.Sides.{Moves}
use Rattle.ec_coherence.proofs.ForServer.Tables.{each-map}
use Rattle.ec_coherence.proofs.ForClerk.TakeGrant.{by-session}
use Rattle.ec_base.proofs.Numbers.{equal}
use Rattle.ec_coherence.proofs.ForClerk.CacheChange.{at-renewed}
use Rattle.ec_base.proofs.Bools.{is-true}

abbrev own : ℕ → Held
own n = record { hold = Write; number = n; image = image.Gone }

-- new, or taken at this number already
abbrev Ready : ℕ → CacheState → ℕ → Type 0
Ready n k x = (last x k < n) ⊎ ((at x k.held ≡ Some (own n)) × (last x k ≡ n))

abbrev IsTaken : ℕ → Bool → ℕ → CacheState → CacheState → Type 0
IsTaken n b y k m = (at y m.held ≡ cond b (Some (own n)) (at y k.held)) × (last y m ≡ cond b n (last y k))

taken-one : (y x n : ℕ) (k : CacheState) → Ready n k x → IsTaken n (y == x) y k (cache.take x Write n image.Gone k)
taken-one y x n k r = go (cache.is_new x n k) refl
  where
    new-not : (a b : ℕ) → nat_lt a b ≡ false → a < b → ⊥
    new-not a b p q = absurd (grind arith)

    same-one : (b : Bool) → (y == x) ≡ b → at x k.held ≡ Some (own n) → last x k ≡ n → IsTaken n b y k k
    same-one true e p q = (ap (λ z. at z k.held) (equal y x e) ∙ p, ap (λ z. last z k) (equal y x e) ∙ q)
    same-one false e p q = (refl, refl)

    go : (b : Bool) → cache.is_new x n k ≡ b → IsTaken n (y == x) y k (elim b [
      | false ↦ k
      | true ↦ record k { held = Rattle.ec_base.specs.Tables.renewed x (own n) k.held; lasts = Rattle.ec_base.specs.Tables.put x n k.lasts; limits = Rattle.ec_base.specs.Tables.without x k.limits }
    ])
    go true p = (at-renewed y x (own n) k.held, last-put y x n k.lasts)
    go false p = elim r [ inl q ↦ absurd (new-not (last x k) n p q) | inr q ↦ same-one (y == x) refl q.0 q.1 ]

still-ready : (x z n : ℕ) (k : CacheState) → Ready n k x → Ready n k z → Ready n (cache.take x Write n image.Gone k) z
still-ready x z n k r q = go (z == x) (taken-one z x n k r)
  where
    go : (b : Bool) → IsTaken n b z k (cache.take x Write n image.Gone k) → Ready n (cache.take x Write n image.Gone k) z
    go true t = inr t
    go false t = elim q [ inl l ↦ inl (let a = t.1 in omega arith) | inr p ↦ inr (t.0 ∙ p.0, t.1 ∙ p.1) ]

pub taken-each : (n : ℕ) (xs : List ℕ) (k : CacheState) → Each (Ready n k) xs → (y : ℕ) → IsTaken n (member y xs) y k (take_each n xs k)
taken-each n [] k r y = (refl, refl)
taken-each n (x ∷ xs) k r y =
    let m = cache.take x Write n image.Gone k in
    join (y == x) (member y xs) m (take_each n xs m) (taken-one y x n k r.0) (taken-each n xs m (each-map (Ready n k) (Ready n m) xs (λ z. still-ready x z n k r.0) r.1) y)
  where
    join : (a b : Bool) (m l : CacheState) → IsTaken n a y k m → IsTaken n b y m l → IsTaken n (a || b) y k l
    join true true m l p q = q
    join true false m l p q = (q.0 ∙ p.0, q.1 ∙ p.1)
    join false true m l p q = q
    join false false m l p q = (q.0 ∙ p.0, q.1 ∙ p.1)

-- the ids of a run
member-run : (y f k : ℕ) → member y (run f k) ≡ (nat_le f y && nat_lt y (f + k))
member-run y f zero = none y f
  where
    none : (y f : ℕ) → false ≡ (nat_le f y && nat_lt y (f + 0))
    none y f = grind arith
member-run y f (suc k) = ap (λ b. (y == f) || b) (member-run y (f + 1) k) ∙ one-more y f k
  where
    one-more : (y f k : ℕ) → ((y == f) || (nat_le (f + 1) y && nat_lt y ((f + 1) + k))) ≡ (nat_le f y && nat_lt y (f + suc k))
    one-more y f k = grind arith

each-run : (P : ℕ → Type 0) (f k : ℕ) → ((x : ℕ) → f ≤ x → x < f + k → P x) → Each P (run f k)
each-run P f zero h = tt
each-run P f (suc k) h = (h f (omega arith) (omega arith), each-run P (f + 1) k (λ x a b. h x (omega arith) (omega arith)))

module _ (w : View) (c s n first : ℕ) (d : Doing) (agree : TokensAgree (acting w c s d)) (fits : Fits (acting w c s d) (Ids s d.clerk.epoch d.clerk.got n first)) where
  abbrev clerk : Clerk
  clerk = add_ids n first d.clerk

  abbrev k : CacheState
  k = d.clerk.cache

  given : w.grants s ≡ d.clerk.got + 1
  given = let a = fits.3 in let b = (agree.got s (side d.clerk) (is-in w c s d)).3 in omega arith

  ids : (x : ℕ) → T (in_sixteen first x) → (eff (acting w c s d) s x ≡ Some (record { hold = Write; number = n; epoch = d.clerk.epoch })) × (last x k < n)
  ids x h = let q = fits.5 (side d.clerk) (is-in w c s d) refl refl x h in (q.0, q.2)

  taken : (y : ℕ) → IsTaken n (in_sixteen first y) y k (take_each n (run first 16) k)
  taken y = subst (λ b. IsTaken n b y k (take_each n (run first 16) k)) (member-run y first 16) (taken-each n (run first 16) k (each-run (Ready n k) first 16 (λ x a b. inl (ids x (within x first a b)).1)) y)
    where
      within : (x f : ℕ) → f ≤ x → x < f + 16 → T (nat_le f x && nat_lt x (f + 16))
      within x f a b = grind arith

  moves : Moves (acting w c s d) s (side d.clerk) (side clerk)
  moves = record {
    was = is-in w c s d;
    epoch = refl;
    got = inr (refl, sym given, λ a o. fits.2 a o);
    row = λ y. subst (λ o. Moved (at y k.held) o (last y k) (last y (take_each n (run first 16) k)) d.clerk.epoch (eff (acting w c s d) s y)) (sym (taken y).0)
        (subst (λ m. Moved (at y k.held) (cond (in_sixteen first y) (Some (own n)) (at y k.held)) (last y k) m d.clerk.epoch (eff (acting w c s d) s y)) (sym (taken y).1) (row y (in_sixteen first y) refl));
    lasts = λ y. lasts y (in_sixteen first y) refl (taken y).1;
    recalls = agree.recalled s (side d.clerk) (is-in w c s d);
  }
    where
      row : (y : ℕ) (b : Bool) → in_sixteen first y ≡ b → Moved (at y k.held) (cond b (Some (own n)) (at y k.held)) (last y k) (cond b n (last y k)) d.clerk.epoch (eff (acting w c s d) s y)
      row y true e = let q = ids y (Rattle.ec_base.proofs.Bools.holds-true (in_sixteen first y) e) in ((let a = q.1 in omega arith), inr (own n, refl, refl, q.1, q.0))
      row y false e = still (at y k.held) (last y k) d.clerk.epoch (eff (acting w c s d) s y) (agree.holds s y (side d.clerk) (is-in w c s d))

      shown : (y : ℕ) → T (not (is_untaken (w.grants s) (w.first s) (Some (side clerk)) y))
      shown y = off (d.clerk.got + 1 + 1 == w.grants s) refl
        where
          off : (b : Bool) → (d.clerk.got + 1 + 1 == w.grants s) ≡ b → T (not (b && in_sixteen (w.first s) y))
          off true p = absurd (let a = equal (d.clerk.got + 1 + 1) (w.grants s) p in let b = given in omega arith)
          off false p = tt

      below : (y : ℕ) → in_sixteen first y ≡ true → y < w.next_id
      below y e = let a = (agree.given s (let b = given in omega arith)).0 in let f = fits.4 (sym given) in up y first e (let b = f in omega arith)
        where
          up : (y f : ℕ) → (nat_le f y && nat_lt y (f + 16)) ≡ true → f + 16 ≤ w.next_id → y < w.next_id
          up y f e l = let a : y < f + 16 = low y f e in omega arith
            where
              low : (y f : ℕ) → (nat_le f y && nat_lt y (f + 16)) ≡ true → y < f + 16
              low y f e = grind arith

      lasts : (y : ℕ) (b : Bool) → in_sixteen first y ≡ b → last y (take_each n (run first 16) k) ≡ cond b n (last y k)
          → (last y (take_each n (run first 16) k) ≡ last y k) ⊎ ((y < w.next_id) × T (not (is_untaken (w.grants s) (w.first s) (Some (side clerk)) y)))
      lasts y true e p = inr (below y e, shown y)
      lasts y false e p = inl p

  pub ids-agree : TokensAgree (acting w c s (with_clerk (add_ids n first) d))
  ids-agree = moves-act w c s d clerk agree moves

-- Ids of any session, epoch and turn
pub take-ids-agrees : (w : View) (c s t e got n first : ℕ) (d : Doing) → d.clerk.session ≡ Some s → TokensAgree (acting w c s d) → Fits (acting w c s d) (Ids t e got n first)
    → TokensAgree (acting w c s (in_session t e (take_ids got n first) d))
take-ids-agrees w c s t e got n first d own agree fits = by-session (λ z. TokensAgree (acting w c s z)) d s t e (take_ids got n first) own agree (λ p q. turn p q (got == d.clerk.got) refl)
  where
    turn : t ≡ s → e ≡ d.clerk.epoch → (b : Bool) → (got == d.clerk.got) ≡ b → TokensAgree (acting w c s (elim b [
      | false ↦ d
      | true ↦ elim (nat_le 4294967295 got) [ true ↦ spend counter.Id d | false ↦ with_clerk (add_ids n first) d ]
    ]))
    turn p q false r = agree
    turn p q true r = room (nat_le 4294967295 got)
      where
        room : (b : Bool) → TokensAgree (acting w c s (elim b [ true ↦ spend counter.Id d | false ↦ with_clerk (add_ids n first) d ]))
        room true = agree
        room false = ids-agree w c s n first d agree (subst (λ g. Fits (acting w c s d) (Ids s d.clerk.epoch g n first)) (equal got d.clerk.got r)
            (subst (λ z. Fits (acting w c s d) (Ids s z got n first)) q (subst (λ z. Fits (acting w c s d) (Ids z e got n first)) p fits)))
