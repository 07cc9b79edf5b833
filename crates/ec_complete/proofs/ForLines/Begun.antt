-- A call that begins and goes on waiting leaves the images and the tokens with undurable operations.
use Rattle.std.proofs.Common.{◌≡◌, refl, sym, ap, subst, ◌∙◌, inl, inr, ℕ, ◌+◌, ◌-◌, ◌++◌, Bool, true, false, T, length, List, [], ◌∷◌, Some}
use Rattle.std.specs.Prelude.{nat_le}
use Rattle.ec_base.specs.Limits.{last_counter}
use Rattle.ec_base.specs.Tables.{at, keys}
use Rattle.ec_base.specs.declared.counter.Counter.TheVariants as counter
use Rattle.ec_base.specs.declared.ids.Hold.TheVariants.{Free}
use Rattle.ec_volume.specs.Update.{member}
use Rattle.ec_plain.specs.declared.call.Call.{Call}
use Rattle.ec_wire.specs.declared.msg.Msg.TheVariants.{Back}
use Rattle.ec_cache.specs.Cache as cache
use Rattle.ec_cache.specs.declared.state.CacheState.{CacheState}
use Rattle.ec_cache.specs.declared.state.Held.{Held}
use Rattle.ec_machine_laws.proofs.Evicting.{evicted-free, goes-back, stays-held}
use Rattle.ec_protocol.specs.Clerk.{Answered, Doing, Tried, Waits, add_call, begin, doing, epoch, evict, evict_unpinned, on_objects, send, send_backs, session, settle, spend, try, with_cache}
use Rattle.ec_protocol.specs.declared.clerk.Clerk.{Clerk}
use Rattle.ec_protocol.specs.declared.clerk.Waiting.{Waiting}
use Rattle.ec_lawful.specs.OfClerkSteps.CallLaws.{IsStillIf}
use Rattle.ec_lawful.proofs.OfClerkSteps.ForCalls.Quiets.{quiet-evict}
use Rattle.ec_lawful.proofs.OfClerkSteps.ForCalls.Still.{tries-answer}
use Rattle.ec_quiet.specs.Tries.{left_by}
use Rattle.ec_quiet.proofs.Steps.{prepared, tries-one}
use Rattle.ec_complete.proofs.ForLines.Stepping.{settle-still}
use Rattle.ec_complete.specs.FirstSteps.{KeepsHeld}
use Rattle.ec_base.proofs.Options.{none_some}
use Rattle.ec_base.proofs.Bools.{holds-true as holds}

backs-clerk : (es : List (ℕ × Held)) (d : Doing) → (send_backs es d).clerk ≡ d.clerk
backs-clerk [] d = refl
backs-clerk (e ∷ es) d = backs-clerk es (send (Back (session d) (epoch d) e.0 (e.1).number Free) d)

module _ (pinned : List ℕ) (k : CacheState) (x : ℕ) where
  evicts-less : (t : Held) → at x (cache.evict pinned k).held ≡ Some t → at x k.held ≡ Some t
  evicts-less t e = go (member x (keys (cache.evicted pinned k))) refl
    where
      go : (b : Bool) → member x (keys (cache.evicted pinned k)) ≡ b → at x k.held ≡ Some t
      go true f = absurd (none_some (sym (goes-back k pinned x (holds _ f)) ∙ e))
      go false f = sym (stays-held k pinned x f) ∙ e

  evicts-pinned : T (member x pinned) → at x (cache.evict pinned k).held ≡ at x k.held
  evicts-pinned m = go (member x (keys (cache.evicted pinned k))) refl
    where
      go : (b : Bool) → member x (keys (cache.evicted pinned k)) ≡ b → at x (cache.evict pinned k).held ≡ at x k.held
      go true f = absurd (subst T (evicted-free k pinned x (holds _ f)) m)
      go false f = stays-held k pinned x f

-- what the end of a step leaves of the tokens
evict-less : (e : Doing) (x : ℕ) (t : Held) → at x (evict e).clerk.cache.held ≡ Some t → at x e.clerk.cache.held ≡ Some t
evict-less e x t = go (nat_le (length e.clerk.cache.held) e.clerk.cache.capacity)
  where
    go : (b : Bool) → at x (elim b as (λ z. Doing) [ true ↦ e | false ↦ evict_unpinned (on_objects e.clerk.log.undurable) e ]).clerk.cache.held ≡ Some t → at x e.clerk.cache.held ≡ Some t
    go true q = q
    go false q =
        evicts-less (on_objects e.clerk.log.undurable) e.clerk.cache x t
        (ap (λ k. at x k.cache.held) (sym (backs-clerk (cache.evicted (on_objects e.clerk.log.undurable) e.clerk.cache) (with_cache (cache.evict (on_objects e.clerk.log.undurable)) e))) ∙ q)

evict-pinned : (e : Doing) (x : ℕ) → T (member x (on_objects e.clerk.log.undurable)) → at x (evict e).clerk.cache.held ≡ at x e.clerk.cache.held
evict-pinned e x m = go (nat_le (length e.clerk.cache.held) e.clerk.cache.capacity)
  where
    go : (b : Bool) → at x (elim b as (λ z. Doing) [ true ↦ e | false ↦ evict_unpinned (on_objects e.clerk.log.undurable) e ]).clerk.cache.held ≡ at x e.clerk.cache.held
    go true = refl
    go false =
        ap (λ k. at x k.cache.held) (backs-clerk (cache.evicted (on_objects e.clerk.log.undurable) e.clerk.cache) (with_cache (cache.evict (on_objects e.clerk.log.undurable)) e))
        ∙ evicts-pinned (on_objects e.clerk.log.undurable) e.clerk.cache x m

module _ (cl : Call) (k : Clerk) (idle : k.waiting ≡ []) (unpushed : k.pushes ≡ []) (unrecalled : k.recalls ≡ []) (counts : nat_le last_counter k.calls ≡ false) (waits : (begin cl k).clerk.waiting ≡ [] → ⊥) where
  abbrev w : Waiting
  w = record { no = k.calls + 1; call = cl; begun = k.log.next - 1 }

  begins : begin cl k ≡ settle (doing (add_call cl k))
  begins = ap (λ z. elim z as (λ y. Doing) [ true ↦ spend counter.CallNo (doing k) | false ↦ settle (doing (add_call cl k)) ]) counts

  one : (add_call cl k).waiting ≡ w ∷ []
  one = ap (λ z. z ++ w ∷ []) idle

  by : (r : Tried) → try w (doing (add_call cl k)) ≡ r → IsStillIf (doing (add_call cl k)) r → KeepsHeld k (begin cl k).clerk
  by (Answered e) f s =
      absurd (waits (ap (λ z. z.clerk.waiting) (begins ∙ prepared (doing (add_call cl k)) unrecalled unpushed) ∙ ap (λ z. (evict z).clerk.waiting) (tries-one (doing (add_call cl k)) w one ∙ ap left_by f) ∙ (quiet-evict (left_by (Answered e))).waiting))
  by (Waits e) f s = record { session = session-same; less = less; pinned = pinned }
    where
      is : begin cl k ≡ evict e
      is = begins ∙ prepared (doing (add_call cl k)) unrecalled unpushed ∙ ap evict (tries-one (doing (add_call cl k)) w one ∙ ap left_by f)

      session-same : (begin cl k).clerk.session ≡ k.session
      session-same = elim (settle-still w (doing (add_call cl k)) one) [
        | inl t ↦ ap (λ z. z.clerk.session) begins ∙ t.0
        | inr none ↦ absurd (waits (ap (λ z. z.clerk.waiting) begins ∙ none))
      ]

      less : (x : ℕ) (t : Held) → at x (begin cl k).clerk.cache.held ≡ Some t → at x k.cache.held ≡ Some t
      less x t q = ap (λ z. at x z.held) (sym (s.0).cache) ∙ evict-less e x t (ap (λ z. at x z.clerk.cache.held) (sym is) ∙ q)

      pinned : (x : ℕ) → T (member x (on_objects k.log.undurable)) → at x (begin cl k).clerk.cache.held ≡ at x k.cache.held
      pinned x m = ap (λ z. at x z.clerk.cache.held) is ∙ evict-pinned e x (subst (λ z. T (member x (on_objects z))) (sym (s.0).undurable) m) ∙ ap (λ z. at x z.held) (s.0).cache

  pub begins-are-steps : KeepsHeld k (begin cl k).clerk
  begins-are-steps = by (try w (doing (add_call cl k))) refl (tries-answer w (doing (add_call cl k))).1
