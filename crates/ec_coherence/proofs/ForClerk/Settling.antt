-- The end of a clerk's step: what each small function keeps, the whole keeps.
use Rattle.std.proofs.Common.{◌≡◌, refl, sym, ◌∙◌, ℕ, zero, suc, Bool, true, false, List, [], ◌∷◌, ◌++◌, length}
use Rattle.ec_protocol.specs.declared.clerk.Waiting.{Waiting}
use Rattle.ec_protocol.specs.Clerk.{Doing, with_clerk, Tried, Waits, Answered, try, try_each, try_rounds, try_all, has_session, answer_recalls, ask_pushes, evict, settle}
use Rattle.ec_coherence.proofs.ForClerk.Try.{OnTried}
use Rattle.ec_base.proofs.Lists.{regroup as grouped}

-- A call between others was tried: it waits on, or it left the list.
abbrev pub Keeping : (Doing → Type 0) → List Waiting → Waiting → List Waiting → Tried → Type 0
Keeping P before p ws (Waits e) = P e × (e.clerk.waiting ≡ before ++ p ∷ ws)
Keeping P before p ws (Answered e) = P (with_clerk (λ k. record k { waiting = before ++ ws }) e)

module _ (P : Doing → Type 0) (tries : (before : List Waiting) (p : Waiting) (ws : List Waiting) (e : Doing) → P e → e.clerk.waiting ≡ before ++ p ∷ ws → Keeping P before p ws (try p e)) where
  each-keeps : (before ws : List Waiting) (e : Doing) → P e → e.clerk.waiting ≡ before ++ ws → OnTried P (try_each before ws e)
  each-keeps before [] e h q = h
  each-keeps before (p ∷ ws) e h q = go (try p e) (tries before p ws e h q) (λ f i r. each-keeps (before ++ p ∷ []) ws f i r)
    where
      go : (t : Tried) → Keeping P before p ws t → ((f : Doing) → P f → f.clerk.waiting ≡ (before ++ p ∷ []) ++ ws → OnTried P (try_each (before ++ p ∷ []) ws f))
          → OnTried P (elim t as (λ z. Tried) [ Waits f ↦ try_each (before ++ p ∷ []) ws f | Answered f ↦ Answered (with_clerk (λ k. record k { waiting = before ++ ws }) f) ])
      go (Waits f) r again = again f r.0 (r.1 ∙ sym (grouped before (p ∷ []) ws))
      go (Answered f) r again = r

  rounds-keep : (n : ℕ) (e : Doing) → P e → P (try_rounds n e)
  rounds-keep zero e h = h
  rounds-keep (suc n) e h = go (try_each [] e.clerk.waiting e) (each-keeps [] e.clerk.waiting e h refl) (λ f i. rounds-keep n f i)
    where
      go : (t : Tried) → OnTried P t → ((f : Doing) → P f → P (try_rounds n f)) → P (elim t as (λ z. Doing) [ Waits f ↦ f | Answered f ↦ try_rounds n f ])
      go (Waits f) r again = r
      go (Answered f) r again = again f r

  pub all-keeps : (e : Doing) → P e → P (try_all e)
  all-keeps e h = rounds-keep (suc (length e.clerk.waiting)) e h

  module _ (recalls : (e : Doing) → P e → P (answer_recalls e)) (pushes : (e : Doing) → P e → P (ask_pushes e)) (evicts : (e : Doing) → P e → P (evict e)) where
    pub settle-keeps : (e : Doing) → P e → P (settle e)
    settle-keeps e h = evicts _ (all-keeps _ (go (has_session e.clerk)))
      where
        go : (b : Bool) → P (elim b as (λ z. Doing) [ true ↦ ask_pushes (answer_recalls e) | false ↦ e ])
        go true = pushes _ (recalls e h)
        go false = h
