-- Tokens beyond the capacity go back, but those on objects with undurable operations.
use Rattle.std.proofs.Common.{◌≡◌, refl, sym, ap, subst, ◌∙◌, inl, inr, arith, ◌-◌, ℕ, zero, suc, Bool, true, false, not, ◌||◌, ◌==◌, cond, map, T, List, [], ◌∷◌, ◌++◌, length, take, append-nil}
use Rattle.std.specs.Prelude.{None, Some, filter, nat_le}
use Rattle.std.proofs.lemmas.List.{append_assoc}
use Rattle.ec_base.specs.Tables.{Table, at, keys}
use Rattle.ec_base.specs.declared.ids.Hold.TheVariants.{Free}
use Rattle.ec_volume.specs.Update.{member, operands}
use Rattle.ec_history.specs.History.{Each, Op}
use Rattle.ec_order.specs.Order.{Holds}
use Rattle.ec_wire.specs.declared.msg.Msg.{Msg}
use Rattle.ec_wire.specs.declared.msg.Msg.TheVariants.{Back}
use Rattle.ec_cache.specs.Cache as cache
use Rattle.ec_cache.specs.declared.state.CacheState.{CacheState}
use Rattle.ec_cache.specs.declared.state.Held.{Held}
use Rattle.ec_protocol.specs.Clerk.{Doing, epoch, evict, evict_unpinned, on_objects, send, send_backs, session, with_cache}
use Rattle.ec_protocol.specs.declared.clerk.Clerk.{Clerk}
use Rattle.ec_protocol.specs.declared.clerk.Out.TheVariants.{Send}
use Rattle.ec_coherence.specs.Clerks.{acting}
use Rattle.ec_coherence.specs.System.{System, Ghost, is_of, is_open}
use Rattle.ec_coherence.specs.Log as log
use Rattle.ec_coherence.specs.Tokens.{IsWrite, TokensAgree, view}
use Rattle.ec_coherence.specs.Steps.{doing_in}
use Rattle.ec_coherence.specs.ChangeLaws.{LogsAndImages, with_clerk}
use Rattle.ec_coherence.proofs.ForClerk.Caches.{at-kept}
use Rattle.ec_coherence.proofs.ForClerk.Evict.{goes-evict-unpinned}
use Rattle.ec_coherence.proofs.ForClerk.Keyed.{keyed-evicted}
use Rattle.ec_coherence.proofs.ForServer.Lists.{each-always, each-at, each-member, each-turn, either_way}
use Rattle.ec_coherence.proofs.ForServer.Tables.{fails}
use Rattle.ec_coherence.specs.StandLaws.{AreSent, IsUnderWay, sending}
use Rattle.ec_coherence.specs.CommitLaws.{AllAgree}
use Rattle.ec_lawful.specs.OfClerkSteps.DoingLaws.{IsInHand}
use Rattle.ec_lawful.proofs.OfClerkSteps.ForDoings.CacheLogs as kept
use Rattle.ec_lawful.proofs.OfClerkSteps.ForDoings.Hand as hand
use Rattle.ec_lawful.proofs.OfClerkSteps.ForDoings.Moving as moving
use Rattle.ec_lawful.proofs.OfClerkSteps.ForDoings.Undurable.{held-pinned, left-held}
use Rattle.ec_base.proofs.Bools.{not-both as no_both, no-longer as is-false}

-- what is said of a token that goes back
abbrev back : ℕ → ℕ → ℕ × Held → Msg
back s e p = Back s e p.0 (p.1).number Free

backs-outs : (es : List (ℕ × Held)) (d : Doing) → send_backs es d ≡ record d { outs = d.outs ++ map Send (map (back (session d) (epoch d)) es) }
backs-outs [] d = ap (λ os. record d { outs = os }) (sym (append-nil d.outs))
backs-outs (p ∷ es) d = backs-outs es (send (back (session d) (epoch d) p) d) ∙ ap (λ os. record d { outs = os }) (append_assoc d.outs (Send (back (session d) (epoch d) p) ∷ []) (map Send (map (back (session d) (epoch d)) es)))

-- a pinned object isn't evicted
pinned-stays : (pinned : List ℕ) (k : CacheState) (x : ℕ) → T (member x pinned) → member x (keys (cache.evicted pinned k)) ≡ false
pinned-stays pinned k x m = front (length k.held - k.capacity) (filter (λ e. not (member e.0 pinned)) k.held) (part k.held)
  where
    part : (es : Table Held) → member x (keys (filter (λ e. not (member e.0 pinned)) es)) ≡ false
    part [] = refl
    part (e ∷ es) = go (member e.0 pinned) refl (part es)
      where
        apart : member e.0 pinned ≡ false → (x == e.0) ≡ false
        apart q = by (x == e.0) refl
          where
            by : (z : Bool) → (x == e.0) ≡ z → z ≡ false
            by false p = refl
            by true p = absurd (no_both (member e.0 pinned) (subst (λ y. T (member y pinned)) (Rattle.ec_base.proofs.Numbers.equal x e.0 p) m) (fails (member e.0 pinned) q))

        go : (b : Bool) → member e.0 pinned ≡ b → member x (keys (filter (λ e. not (member e.0 pinned)) es)) ≡ false → member x (keys (cond (not b) (e ∷ filter (λ e. not (member e.0 pinned)) es) (filter (λ e. not (member e.0 pinned)) es))) ≡ false
        go true q r = r
        go false q r = ap (λ z. z || member x (keys (filter (λ e. not (member e.0 pinned)) es))) (apart q) ∙ r

    front : (n : ℕ) (es : Table Held) → member x (keys es) ≡ false → member x (keys (take n es)) ≡ false
    front zero es q = refl
    front (suc n) [] q = refl
    front (suc n) (e ∷ es) q = by (x == e.0) (member x (keys es)) refl refl q (front n es)
      where
        by : (a b : Bool) → (x == e.0) ≡ a → member x (keys es) ≡ b → (a || b) ≡ false → (member x (keys es) ≡ false → member x (keys (take n es)) ≡ false) → ((x == e.0) || member x (keys (take n es))) ≡ false
        by true b p r z f = absurd (cc)
        by false b p r z f = ap (λ y. y || member x (keys (take n es))) p ∙ f (r ∙ z)

module _ (g : System) (c b s : ℕ) (d : Doing) (γ : Ghost) (h : IsInHand g c b s d γ) where
  abbrev u : IsUnderWay g c b s d γ
  u = h.under_way

  abbrev here : System
  here = doing_in c b d γ g

  abbrev k : CacheState
  k = d.clerk.cache

  abbrev pinned : List ℕ
  pinned = on_objects d.clerk.log.undurable

  abbrev gone : Table Held
  gone = cache.evicted pinned k

  abbrev now : Clerk
  now = record (d.clerk) { cache = cache.evict pinned k }

  abbrev ms : List Msg
  ms = map (back (session d) (epoch d)) gone

  abbrev said : List (ℕ × Msg)
  said = map (λ m. (c, m)) ms

  all : AllAgree here
  all = moving.all g c b s d γ u

  held-after : (y : ℕ) → at y now.cache.held ≡ cond (member y (keys gone)) None (at y k.held)
  held-after y = at-kept y (keys gone) k.held

  stays : (o : Op) → Holds d.clerk.log.undurable o.number o.update → Each (λ x. IsWrite (at x k.held)) (operands o.update) → Each (λ x. IsWrite (at x now.cache.held)) (operands o.update)
  stays o p w = each-member (λ x. IsWrite (at x now.cache.held)) (operands o.update) (λ x m.
      subst IsWrite (sym (held-after x ∙ ap (λ z. cond z None (at x k.held)) (pinned-stays pinned k x (held-pinned d.clerk.log.undurable o.number o.update p x m)))) (each-at (λ x. IsWrite (at x k.held)) x (operands o.update) w m))

  image : (x : ℕ) (o : Held) → at x now.cache.held ≡ Some o → at x k.held ≡ Some o
  image x o e = go (member x (keys gone)) refl
    where
      go : (z : Bool) → member x (keys gone) ≡ z → at x k.held ≡ Some o
      go true q = absurd (Rattle.ec_base.proofs.Options.none_some (sym (held-after x ∙ ap (λ z. cond z None (at x k.held)) q) ∙ e))
      go false q = sym (held-after x ∙ ap (λ z. cond z None (at x k.held)) q) ∙ e

  are-sent : (es : List (ℕ × Held)) → AreSent here (map (λ m. (c, m)) (map (back (session d) (epoch d)) es))
  are-sent [] = tt
  are-sent (e ∷ es) = ((moving.mine g c b s d γ u, tt, tt), are-sent es)

  fits : (f : System) (es : List (ℕ × Held)) → Each {A = ℕ × Msg} (λ m. log.Fits f m.1) (map (λ m. (c, m)) (map (back (session d) (epoch d)) es))
  fits f [] = tt
  fits f (e ∷ es) = (tt, fits f es)

  all-stay : Each (kept.Stays here (all.0).logs (all.0).images c s u.age d.clerk now (moving.its g c b s d γ u) refl refl refl refl here.calls said) γ.kept
  all-stay = elim (either_way (is_open here s)) [
    | inl o ↦ each-turn (λ x. T (is_of (γ.owner s) x) → T (not (γ.is_durable x)) → Holds d.clerk.log.undurable x.number x.update) _ γ.kept (λ x f n i p w. stays x (f i n) w) (left-held here (all.0).sessions (all.0).logs s d.clerk (moving.there g c b s d γ u) o)
    | inr o ↦ each-always _ γ.kept (λ x n i p w. absurd (no_both (is_open here s) p o))
  ]

  both : LogsAndImages (with_clerk here c (u.age).boot now here.calls said)
  both = kept.held-both here (all.0).logs (all.0).images c s u.age d.clerk now (moving.its g c b s d γ u) refl refl refl refl here.calls said all-stay
      (λ x o e. (all.0).images.licences s x d.clerk (moving.there g c b s d γ u) o (image x o e)) (fits (with_clerk here c (u.age).boot now here.calls said) gone)

  evicted-is : evict_unpinned pinned d ≡ sending now ms d
  evicted-is = backs-outs gone (with_cache (cache.evict pinned) d)

  unpinned : IsInHand g c b s (evict_unpinned pinned d) γ
  unpinned = subst (λ e. IsInHand g c b s e γ) (sym evicted-is) (hand.still g c b s d γ h (sending now ms d)
      (moving.does g c b s d γ u now (record { id = refl; age = refl; session = refl; owed = refl; next = refl }) ms (are-sent gone)
      (subst (λ e. TokensAgree (acting (view (record g { ghost = γ })) c s e)) evicted-is (goes-evict-unpinned (view (record g { ghost = γ })) c s d d (moving.goes g c b s d γ u) (omega arith) (hand.keyed g c b s d γ h) pinned).agree) both)
      (keyed-evicted k (hand.keyed g c b s d γ h) pinned) (hand.trim g c b s d γ h) refl (λ i. i))

  pub evicts : IsInHand g c b s (evict d) γ
  evicts = go (nat_le (length d.clerk.cache.held) d.clerk.cache.capacity)
    where
      go : (z : Bool) → IsInHand g c b s (elim z as (λ y. Doing) [ true ↦ d | false ↦ evict_unpinned pinned d ]) γ
      go true = h
      go false = unpinned
