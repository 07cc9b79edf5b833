-- A clerk takes a Recall: it marks the token, and keeps the recall.
use Rattle.std.proofs.Common.{◌≡◌, refl, ap, ℕ, Bool, true, false, not, T, [], ◌∷◌, ◌++◌}
use Rattle.std.specs.Prelude.{◌==◌, Option, None, Some, nat_lt}
use Rattle.ec_base.specs.Tables.{at}
use Rattle.ec_base.specs.declared.ids.Hold.{Hold}
use Rattle.ec_wire.specs.declared.msg.Msg.TheVariants.{Recall}
use Rattle.ec_cache.specs.Cache as cache
use Rattle.ec_cache.specs.Cache.{last}
use Rattle.ec_cache.specs.declared.state.CacheState.{CacheState}
use Rattle.ec_cache.specs.declared.state.Held.{Held}
use Rattle.ec_protocol.specs.declared.clerk.Recalled.{Recalled}
use Rattle.ec_protocol.specs.Clerk.{Doing, in_session, mark_recall, keep_recall, take_recall, with_cache}
use Rattle.ec_coherence.specs.Clerks.{acting}
use Rattle.ec_coherence.specs.Tokens.{View, Side, side, Names, Fits, TokensAgree}
use Rattle.ec_coherence.proofs.ForClerk.Acting.{is-in, moves-act}
use Rattle.ec_coherence.proofs.ForClerk.OneObject.{still-moves}
use Rattle.ec_coherence.proofs.ForClerk.TakeGrant.{by-session}
use Rattle.ec_history.proofs.HistoryLemmas.{each-more as each-append}

-- a mark changes neither what is held nor the numbers
marked-held : (x : ℕ) (to : Hold) (k : CacheState) → (mark_recall x to k).held ≡ k.held
marked-held x to k = go (at x k.held)
  where
    go : (o : Option Held) → (elim o as (λ z. CacheState) [ None ↦ k | Some h ↦ cache.limit x to k ]).held ≡ k.held
    go None = refl
    go (Some h) = refl

marked-lasts : (x : ℕ) (to : Hold) (k : CacheState) → (mark_recall x to k).lasts ≡ k.lasts
marked-lasts x to k = go (at x k.held)
  where
    go : (o : Option Held) → (elim o as (λ z. CacheState) [ None ↦ k | Some h ↦ cache.limit x to k ]).lasts ≡ k.lasts
    go None = refl
    go (Some h) = refl

module _ (w : View) (c s x : ℕ) (to : Hold) (d : Doing) (agree : TokensAgree (acting w c s d)) where
  -- the token is marked
  pub mark-agrees : TokensAgree (acting w c s (with_cache (mark_recall x to) d))
  mark-agrees = moves-act w c s d (record (d.clerk) { cache = mark_recall x to d.clerk.cache }) agree
      (still-moves (acting w c s d) s (side d.clerk) (side (record (d.clerk) { cache = mark_recall x to d.clerk.cache })) agree (is-in w c s d) refl refl
      (λ y. ap (at y) (marked-held x to d.clerk.cache)) (λ y. ap (Rattle.ec_base.specs.Tables.at_or 0 y) (marked-lasts x to d.clerk.cache)) (agree.recalled s (side d.clerk) (is-in w c s d)))

-- a recall of an object whose id was given out is kept
pub keep-agrees : (w : View) (c s : ℕ) (r : Recalled) (d : Doing) → TokensAgree (acting w c s d) → Names (acting w c s d) r.obj → TokensAgree (acting w c s (keep_recall r d))
keep-agrees w c s r d agree n = moves-act w c s d (record (d.clerk) { recalls = d.clerk.recalls ++ r ∷ [] }) agree
    (still-moves (acting w c s d) s (side d.clerk) (side (record (d.clerk) { recalls = d.clerk.recalls ++ r ∷ [] })) agree (is-in w c s d) refl refl (λ y. refl) (λ y. refl)
    (each-append _ d.clerk.recalls (r ∷ []) (agree.recalled s (side d.clerk) (is-in w c s d)) (n, tt)))

-- all recalls are put aside
pub clear-agrees : (w : View) (c s : ℕ) (d : Doing) → TokensAgree (acting w c s d) → TokensAgree (acting w c s (record d { clerk = record (d.clerk) { recalls = [] } }))
clear-agrees w c s d agree = moves-act w c s d (record (d.clerk) { recalls = [] }) agree
    (still-moves (acting w c s d) s (side d.clerk) (side (record (d.clerk) { recalls = [] })) agree (is-in w c s d) refl refl (λ y. refl) (λ y. refl) tt)

module _ (w : View) (c s x n : ℕ) (to : Hold) (d : Doing) (agree : TokensAgree (acting w c s d)) where
  -- which ids are hidden doesn't hang on the mark
  names-marked : Names (acting w c s d) x → Names (acting w c s (with_cache (mark_recall x to) d)) x
  names-marked m = (m.0, λ t. go t (t == s) (m.1 t))
    where
      go : (t : ℕ) (b : Bool) → T (not (Rattle.ec_coherence.specs.Tokens.is_untaken (w.grants t) (w.first t) (elim b [ true ↦ Some (side d.clerk) | false ↦ w.clerk t ]) x))
          → T (not (Rattle.ec_coherence.specs.Tokens.is_untaken (w.grants t) (w.first t) (elim b [ true ↦ Some (side (record (d.clerk) { cache = mark_recall x to d.clerk.cache })) | false ↦ w.clerk t ]) x))
      go t true h = h
      go t false h = h

  pub recall-agrees : Names (acting w c s d) x → TokensAgree (acting w c s (take_recall x n to d))
  recall-agrees m = go (nat_lt n (last x d.clerk.cache))
    where
      go : (b : Bool) → TokensAgree (acting w c s (elim b [ true ↦ d | false ↦ keep_recall (record { obj = x; number = n; to = to }) (with_cache (mark_recall x to) d) ]))
      go true = agree
      go false = keep-agrees w c s (record { obj = x; number = n; to = to }) (with_cache (mark_recall x to) d) (mark-agrees w c s x to d agree) (names-marked m)

-- a Recall of any session and epoch
pub take-recall-agrees : (w : View) (c s t e x n : ℕ) (to : Hold) (d : Doing) → d.clerk.session ≡ Some s → TokensAgree (acting w c s d) → Fits (acting w c s d) (Recall t e x n to)
    → TokensAgree (acting w c s (in_session t e (take_recall x n to) d))
take-recall-agrees w c s t e x n to d own agree fits = by-session (λ z. TokensAgree (acting w c s z)) d s t e (take_recall x n to) own agree (λ p q. recall-agrees w c s x n to d agree fits.1)
