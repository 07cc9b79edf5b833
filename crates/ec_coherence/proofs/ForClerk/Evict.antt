-- A clerk gives back the tokens that are too many.
use Rattle.std.proofs.Common.{◌≡◌, refl, sym, ap, subst, ◌∙◌, inl, arith, ℕ, zero, suc, Bool, true, false, not, ◌&&◌, ◌||◌, ◌-◌, cond, T, ◌≤◌, List, [], ◌∷◌}
use Rattle.std.specs.Prelude.{◌==◌, Option, None, Some, length, nat_le, filter, take as front}
use Rattle.ec_base.specs.Tables.{Table, at, keys}
use Rattle.ec_base.specs.declared.ids.Hold.TheVariants.{Free}
use Rattle.ec_volume.specs.Update.{member, distinct}
use Rattle.ec_history.specs.History.{Each}
use Rattle.ec_wire.specs.declared.msg.Msg.TheVariants.{Back}
use Rattle.ec_cache.specs.Cache as cache
use Rattle.ec_cache.specs.Cache.{last}
use Rattle.ec_cache.specs.declared.state.CacheState.{CacheState}
use Rattle.ec_cache.specs.declared.state.Held.{Held}
use Rattle.ec_protocol.specs.declared.clerk.Clerk.{Clerk}
use Rattle.ec_protocol.specs.Clerk.{Doing, send, session, epoch, send_backs, evict_unpinned, evict, on_objects}
use Rattle.ec_coherence.specs.Clerks.{acting}
use Rattle.ec_coherence.specs.System.{Eff}
use Rattle.ec_coherence.specs.Tokens.{View, side, eff, Names, Below, BackFits, HeldAtMost}
use Rattle.ec_coherence.proofs.ForClerk.Acting.{is-in}
use Rattle.ec_coherence.proofs.ForClerk.Caches.{at-kept}
use Rattle.ec_coherence.proofs.ForClerk.Goes.{Goes, name-now, names-act, goes-send, goes-move, passed-now}
use Rattle.ec_coherence.proofs.ForClerk.Rows.{Moved, still}
use Rattle.ec_coherence.proofs.ForClerk.SendClaim.{held-names}
use Rattle.ec_coherence.proofs.ForClerk.SendWant.{of-now}
use Rattle.ec_coherence.proofs.ForClerk.Sides.{Moves}
use Rattle.ec_coherence.proofs.ForServer.Tables.{each-map}
use Rattle.ec_base.proofs.Numbers.{same-self as same, equal}
use Rattle.ec_base.proofs.Bools.{not-both as refutes, is-true}
use Rattle.ec_coherence.proofs.ForClerk.CacheChange.{at-cons}
use Rattle.ec_history.proofs.OfLaws.ForRenamed.IdleIds.{both}

-- Entries of a table with distinct keys are what is found at them.

abbrev pub IsAt : Table Held → ℕ × Held → Type 0
IsAt es e = at e.0 es ≡ Some e.1

pub none-at : (x : ℕ) (es : Table Held) → T (not (member x (keys es))) → at x es ≡ None
none-at x [] h = refl
none-at x (e ∷ es) h = at-cons x e es ∙ go (x == e.0) h (none-at x es)
  where
    go : (b : Bool) → T (not (b || member x (keys es))) → (T (not (member x (keys es))) → at x es ≡ None) → cond b (Some e.1) (at x es) ≡ None
    go true h f = absurd h
    go false h f = f h

each-at : (es : Table Held) → T (distinct (keys es)) → Each (IsAt es) es
each-at [] h = tt
each-at (e ∷ es) h = (at-cons e.0 e es ∙ ap (λ b. cond b (Some e.1) (at e.0 es)) (same e.0), each-map (IsAt es) (IsAt (e ∷ es)) es later (each-at es (right (member e.0 (keys es)) h)))
  where
    left : (b : Bool) → T (not b && distinct (keys es)) → T (not b)
    left true t = absurd t
    left false t = tt

    right : (b : Bool) → T (not b && distinct (keys es)) → T (distinct (keys es))
    right true t = absurd t
    right false t = t

    later : (d : ℕ × Held) → IsAt es d → IsAt (e ∷ es) d
    later d p = at-cons d.0 e es ∙ go (d.0 == e.0) refl
      where
        go : (b : Bool) → (d.0 == e.0) ≡ b → cond b (Some e.1) (at d.0 es) ≡ Some d.1
        go true q = absurd (let z : at d.0 es ≡ None = ap (λ y. at y es) (equal d.0 e.0 q) ∙ none-at e.0 es (left (member e.0 (keys es)) h) in Rattle.ec_base.proofs.Options.none_some (sym z ∙ p))
        go false q = p

pub each-filter : {A : Type 0} (P : A → Type 0) (q : A → Bool) (xs : List A) → Each P xs → Each P (filter q xs)
each-filter P q [] h = tt
each-filter {A} P q (x ∷ xs) h = go (q x) (each-filter P q xs h.1)
  where
    go : (b : Bool) → Each P (filter q xs) → Each P (cond b (x ∷ filter q xs) (filter q xs))
    go true r = (h.0, r)
    go false r = r

pub each-front : {A : Type 0} (P : A → Type 0) (n : ℕ) (xs : List A) → Each P xs → Each P (front n xs)
each-front P zero xs h = tt
each-front P (suc n) [] h = tt
each-front P (suc n) (x ∷ xs) h = (h.0, each-front P n xs h.1)

each-member : (xs : Table Held) → Each (λ e. T (member e.0 (keys xs))) xs
each-member [] = tt
each-member (e ∷ xs) = (subst (λ b. T (b || member e.0 (keys xs))) (sym (same e.0)) tt, each-map _ _ xs (λ d h. more (d.0 == e.0) d h) (each-member xs))
  where
    more : (b : Bool) (d : ℕ × Held) → T (member d.0 (keys xs)) → T (b || member d.0 (keys xs))
    more true d h = tt
    more false d h = h

-- What goes back isn't held any more, and was of the last number.
abbrev GoesBack : View → ℕ → ℕ → Doing → CacheState → ℕ × Held → Type 0
GoesBack w c s d k e = (at e.0 k.held ≡ None) × ((e.1).number ≤ last e.0 k) × Names (acting w c s d) e.0

module _ (w : View) (c s : ℕ) (d : Doing) where
  pub goes-backs : (es : List (ℕ × Held)) (e : Doing) → Goes w c s d e → Each (GoesBack w c s d e.clerk.cache) es → Goes w c s d (send_backs es e)
  goes-backs [] e g n = g
  goes-backs (p ∷ es) e g n = goes-backs es (send (Back (session e) (epoch e) p.0 (p.1).number Free) e) (goes-send w c s d e g (Back (session e) (epoch e) p.0 (p.1).number Free) (
    passed-now w c s d e g,
    name-now w c s d e g p.0 n.0.2,
    of-now w c s d e g (λ k. BackFits k.epoch (epoch e) (p.1).number Free (at p.0 k.cache.held) (last p.0 k.cache)) (λ a. (n.0.1, subst (λ o. HeldAtMost o (p.1).number Free) (sym n.0.0) tt)),
  )) n.1

  module _ (e : Doing) (g : Goes w c s d e) (next : w.next_token ≤ w.next_id) (keyed : T (distinct (keys e.clerk.cache.held))) (pinned : List ℕ) where
    abbrev k : CacheState
    k = e.clerk.cache

    abbrev gone : List ℕ
    gone = keys (cache.evicted pinned k)

    abbrev clerk : Clerk
    clerk = record (e.clerk) { cache = cache.evict pinned k }

    held-after : (y : ℕ) → at y clerk.cache.held ≡ cond (member y gone) None (at y k.held)
    held-after y = at-kept y gone k.held

    moves : Moves (acting w c s e) s (side e.clerk) (side clerk)
    moves = record {
      was = is-in w c s e;
      epoch = refl;
      got = inl refl;
      row = λ y. subst (λ o. Moved (at y k.held) o (last y k) (last y k) e.clerk.epoch (eff (acting w c s e) s y)) (sym (held-after y)) (go y (member y gone));
      lasts = λ y. inl refl;
      recalls = g.agree.recalled s (side e.clerk) (is-in w c s e);
    }
      where
        go : (y : ℕ) (b : Bool) → Moved (at y k.held) (cond b None (at y k.held)) (last y k) (last y k) e.clerk.epoch (eff (acting w c s e) s y)
        go y true = (omega arith, inl tt)
        go y false = still (at y k.held) (last y k) e.clerk.epoch (eff (acting w c s e) s y) (g.agree.holds s y (side e.clerk) (is-in w c s e))

    dropped : Goes w c s d (record e { clerk = clerk })
    dropped = goes-move w c s d e g clerk refl refl moves

    goes-back : (p : ℕ × Held) → IsAt k.held p × T (member p.0 gone) → GoesBack w c s d clerk.cache p
    goes-back p q = (
      held-after p.0 ∙ ap (λ b. cond b None (at p.0 k.held)) (is-true (member p.0 gone) q.1),
      number (eff (acting w c s e) s p.0) (subst (λ o. Below e.clerk.epoch (last p.0 k) o (eff (acting w c s e) s p.0)) q.0 (g.agree.below s p.0 (side e.clerk) (is-in w c s e))),
      names-act w c s e d (sym g.got) p.0 (held-names (acting w c s e) s (side e.clerk) g.agree (is-in w c s e) next p.0 p.1 q.0),
    )
      where
        number : (f : Option Eff) → Below e.clerk.epoch (last p.0 k) (Some p.1) f → (p.1).number ≤ last p.0 k
        number None b = absurd b
        number (Some f) b = let a = b.1 in omega arith

    pub goes-evict-unpinned : Goes w c s d (evict_unpinned pinned e)
    goes-evict-unpinned = goes-backs (cache.evicted pinned k) (record e { clerk = clerk }) dropped
        (each-map _ _ (cache.evicted pinned k) goes-back (both _ _ (cache.evicted pinned k)
        (each-front _ (length k.held - k.capacity) _ (each-filter _ (λ e. not (member e.0 pinned)) k.held (each-at k.held keyed))) (each-member (cache.evicted pinned k))))

  pub goes-evict : (e : Doing) → Goes w c s d e → w.next_token ≤ w.next_id → T (distinct (keys e.clerk.cache.held)) → Goes w c s d (evict e)
  goes-evict e g next keyed = go (nat_le (length e.clerk.cache.held) e.clerk.cache.capacity)
    where
      go : (b : Bool) → Goes w c s d (elim b [ true ↦ e | false ↦ evict_unpinned (on_objects e.clerk.log.undurable) e ])
      go true = g
      go false = goes-evict-unpinned e g next keyed (on_objects e.clerk.log.undurable)
