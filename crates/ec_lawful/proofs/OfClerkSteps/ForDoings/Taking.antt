-- Messages are taken that answer no call and leave the session.
use Rattle.std.proofs.Common.{◌≡◌, refl, sym, ap, subst, ◌∙◌, arith, ◌<◌, ℕ, Bool, true, false, ◌==◌, cond, T, [], ◌∷◌, ◌++◌}
use Rattle.std.specs.Prelude.{Option, None, Some, nat_lt}
use Rattle.ec_base.specs.Tables.{at, put, renewed, without}
use Rattle.ec_base.specs.declared.ids.Hold.{Hold}
use Rattle.ec_volume.specs.declared.image.Image.{Image}
use Rattle.ec_sessions.specs.Windows.{has}
use Rattle.ec_durable.specs.Durable.{slot}
use Rattle.ec_wire.specs.Messages.{is_lowered_mode, is_sound}
use Rattle.ec_wire.specs.declared.msg.Msg.{Msg}
use Rattle.ec_wire.specs.declared.msg.Msg.TheVariants.{Grant, Kept, Recall}
use Rattle.ec_cache.specs.Cache as cache
use Rattle.ec_cache.specs.declared.state.CacheState.{CacheState}
use Rattle.ec_cache.specs.declared.state.Held.{Held}
use Rattle.ec_log.specs.Log as log_of
use Rattle.ec_protocol.specs.Clerk.{Doing, is_session, keep_recall, mark_recall, take_recall, taken, with_cache, with_log}
use Rattle.ec_protocol.specs.declared.clerk.Clerk.{Clerk}
use Rattle.ec_protocol.specs.declared.clerk.Recalled.{Recalled}
use Rattle.ec_coherence.specs.Clerks.{acting}
use Rattle.ec_coherence.specs.System.{System, Ghost, seen}
use Rattle.ec_coherence.specs.Sessions as sessions
use Rattle.ec_coherence.specs.Tokens.{Fits, IsWrite, Names, TokensAgree, View, side, view}
use Rattle.ec_coherence.specs.Log.{OfOpen}
use Rattle.ec_coherence.specs.Steps.{doing_in}
use Rattle.ec_coherence.proofs.ForClerk.Acting.{view-is}
use Rattle.ec_coherence.proofs.ForClerk.Goes.{goes-log}
use Rattle.ec_coherence.proofs.ForClerk.Keyed.{keyed-marked, keyed-take}
use Rattle.ec_coherence.proofs.ForBatches.LogChange.{kept-images, kept-logs}
use Rattle.ec_coherence.proofs.ForServer.Lists.{each-more}
use Rattle.ec_coherence.proofs.ForServer.Tables.{same_some}
use Rattle.ec_coherence.proofs.ForClerk.TakeGrant.{by-session, grant-agrees}
use Rattle.ec_coherence.proofs.ForClerk.TakeRecall.{recall-agrees}
use Rattle.ec_coherence.specs.StandLaws.{SessionGoesOn, IsUnderWay}
use Rattle.ec_coherence.specs.CommitLaws.{AllAgree}
use Rattle.ec_lawful.specs.OfClerkSteps.DoingLaws.{IsInHand}
use Rattle.ec_lawful.proofs.OfClerkSteps.ForDoings.CacheLogs as kept
use Rattle.ec_lawful.proofs.OfClerkSteps.ForDoings.Hand as hand
use Rattle.ec_lawful.proofs.OfClerkSteps.ForDoings.Logs.{kept-order}
use Rattle.ec_lawful.proofs.OfClerkSteps.ForDoings.Moving as moving
use Rattle.ec_base.proofs.Numbers.{equal}
use Rattle.ec_coherence.proofs.ForClerk.CacheChange.{at-renewed}

module _ (g : System) (c b s : ℕ) (d : Doing) (γ : Ghost) (h : IsInHand g c b s d γ) where
  abbrev u : IsUnderWay g c b s d γ
  u = h.under_way

  abbrev pub here : System
  here = doing_in c b d γ g

  abbrev w : View
  w = view (record g { ghost = γ })

  abbrev InHand : Doing → Type 0
  InHand e = IsInHand g c b s e γ

  all : AllAgree here
  all = moving.all g c b s d γ u

  goes-on : (k : Clerk) → k.id ≡ d.clerk.id → k.age ≡ d.clerk.age → k.session ≡ d.clerk.session → k.owed ≡ d.clerk.owed → k.log.next ≡ d.clerk.log.next → SessionGoesOn d.clerk k
  goes-on k i a t o n = record { id = i; age = a; session = t; owed = o; next = n }

  -- the facts on tokens of a message, as the step sees it
  acting-fits : (m : Msg) → Fits (view here) m → Fits (acting w c s d) m
  acting-fits m f = subst (λ v. Fits v m) (view-is g c b s d γ (moving.own g c b s d γ u)) f

  -- A batch is durable.

  module _ (t e n : ℕ) (fits : sessions.Fits here c (Kept t e n)) where
    marked : t ≡ s → OfOpen here s (λ sl. T (has sl.window n))
    marked q j sl p o r =
        let same_owner : Some (j, sl.age) ≡ Some (c, u.age) = sym ((all.0).sessions.slots j sl p).2 ∙ ap γ.owner o ∙ u.owns in
        let same : j ≡ c = ap (λ z. z.0) (same_some same_owner) in
        fits.1 sl (ap (λ z. slot here.durable z) (sym same) ∙ p) (o ∙ sym q)

    passes : t ≡ s → InHand (with_log (log_of.kept n) d)
    passes q =
        let its = moving.its g c b s d γ u in
        let now : Clerk = record (d.clerk) { log = log_of.kept n d.clerk.log } in
        hand.still g c b s d γ h (with_log (log_of.kept n) d)
        (moving.changes g c b s d γ u now (goes-on now refl refl refl refl refl) (goes-log w c s d (log_of.kept n) d (moving.goes g c b s d γ u)).agree (
          kept-logs here (all.0).logs (all.0).images c s u.age d.clerk u.owns (its.start).stands u.session here.calls n (marked q),
          kept-images here (all.0).logs (all.0).images c s u.age d.clerk u.owns (its.start).stands u.session here.calls n (marked q),
        ))
        (hand.keyed g c b s d γ h) (let m = hand.trim g c b s d γ h in (m.0, m.1, kept-order d.clerk.log m.2 n)) refl (λ i. i)

    pub takes-kept : InHand (taken (Kept t e n) d)
    takes-kept = go (is_session t d.clerk.session) refl
      where
        go : (z : Bool) → is_session t d.clerk.session ≡ z → InHand (elim z as (λ y. Doing) [ true ↦ with_log (log_of.kept n) d | false ↦ d ])
        go true p = passes (equal t s (sym (ap (is_session t) u.session) ∙ p))
        go false p = h

  -- A token is granted.

  abbrev k : CacheState
  k = d.clerk.cache

  module _ (x n : ℕ) (m : Hold) (i : Image) (fits : Fits (acting w c s d) (Grant s d.clerk.epoch x n m i)) where
    abbrev granted : Clerk
    granted = record (d.clerk) { cache = cache.take x m n i k }

    -- its row, where the number is new
    abbrev Row : CacheState → Type 0
    Row r = ((y : ℕ) → IsWrite (at y k.held) → IsWrite (at y r.held)) × ((y : ℕ) (o : Held) → at y r.held ≡ Some o → o.image ≡ seen here s y)

    licence : (y : ℕ) (o : Held) → at y k.held ≡ Some o → o.image ≡ seen here s y
    licence y o e = (all.0).images.licences s y d.clerk (moving.there g c b s d γ u) o e

    row : Row (cache.take x m n i k)
    row = go (cache.is_new x n k) refl
      where
        above : (b a : ℕ) → nat_lt b a ≡ true → b < a
        above b a p = grind arith

        go : (z : Bool) → cache.is_new x n k ≡ z → Row (elim z as (λ y. CacheState) [ false ↦ k | true ↦ record k { held = renewed x (record { hold = m; number = n; image = i }) k.held; lasts = put x n k.lasts; limits = without x k.limits } ])
        go false p = ((λ y f. f), licence)
        go true p =
            let f = fits.4 (side d.clerk) (Rattle.ec_coherence.proofs.ForClerk.Acting.is-in w c s d) refl (above (cache.last x k) n p) in (
              (λ y v. subst IsWrite (sym (at-renewed y x (record { hold = m; number = n; image = i }) k.held)) (by y v (y == x) refl f.2)),
              (λ y o e. to-see y o (y == x) refl (sym (at-renewed y x (record { hold = m; number = n; image = i }) k.held) ∙ e) f.1),
            )
          where
            by : (y : ℕ) → IsWrite (at y k.held) → (z : Bool) → (y == x) ≡ z → (IsWrite (at x k.held) → ⊥) → IsWrite (cond z (Some (record { hold = m; number = n; image = i })) (at y k.held))
            by y v true q apart = absurd (apart (subst (λ z. IsWrite (at z k.held)) (equal y x q) v))
            by y v false q apart = v

            to-see : (y : ℕ) (o : Held) (z : Bool) → (y == x) ≡ z → cond z (Some (record { hold = m; number = n; image = i })) (at y k.held) ≡ Some o → i ≡ seen here s x → o.image ≡ seen here s y
            to-see y o true q e r = ap (λ z. z.image) (sym (same_some e)) ∙ r ∙ ap (seen here s) (sym (equal y x q))
            to-see y o false q e r = licence y o e

    takes-token : InHand (with_cache (cache.take x m n i) d)
    takes-token =
        let its = moving.its g c b s d γ u in
        hand.still g c b s d γ h (with_cache (cache.take x m n i) d)
        (moving.changes g c b s d γ u granted (goes-on granted refl refl refl refl refl) (grant-agrees w c s x n m i d (moving.goes g c b s d γ u).agree fits)
        (kept.held-both here (all.0).logs (all.0).images c s u.age d.clerk granted its refl refl refl refl here.calls [] (kept.all-stay here (all.0).logs (all.0).images c s u.age d.clerk granted its refl refl refl refl here.calls [] row.0) row.1 tt))
        (keyed-take k (hand.keyed g c b s d γ h) x m n i) (hand.trim g c b s d γ h) refl (λ z. z)

  pub takes-grant : (t e x n : ℕ) (m : Hold) (i : Image) → Fits (view here) (Grant t e x n m i) → InHand (taken (Grant t e x n m i) d)
  takes-grant t e x n m i f = by-session InHand d s t e (with_cache (cache.take x m n i)) u.session h
      (λ p q. takes-token x n m i (subst (λ z. Fits (acting w c s d) (Grant s z x n m i)) q (subst (λ z. Fits (acting w c s d) (Grant z e x n m i)) p (acting-fits (Grant t e x n m i) f))))

  -- A token is recalled.

  module _ (x n : ℕ) (to : Hold) (lowered : T (is_lowered_mode to)) (names : Names (acting w c s d) x) where
    abbrev recalled : Clerk
    recalled = record (d.clerk) { cache = mark_recall x to k; recalls = d.clerk.recalls ++ record { obj = x; number = n; to = to } ∷ [] }

    marked-held : (mark_recall x to k).held ≡ k.held
    marked-held = go (at x k.held)
      where
        go : (o : Option Held) → (elim o as (λ z. CacheState) [ None ↦ k | Some v ↦ cache.limit x to k ]).held ≡ k.held
        go None = refl
        go (Some v) = refl

    takes-mark : TokensAgree (acting w c s (record d { clerk = recalled })) → InHand (record d { clerk = recalled })
    takes-mark agree =
        let its = moving.its g c b s d γ u in
        hand.still g c b s d γ h (record d { clerk = recalled })
        (moving.changes g c b s d γ u recalled (goes-on recalled refl refl refl refl refl) agree
        (kept.held-both here (all.0).logs (all.0).images c s u.age d.clerk recalled its refl refl refl refl here.calls []
        (kept.all-stay here (all.0).logs (all.0).images c s u.age d.clerk recalled its refl refl refl refl here.calls [] (λ y v. subst (λ z. IsWrite (at y z)) (sym marked-held) v))
        (λ y o e. (all.0).images.licences s y d.clerk (moving.there g c b s d γ u) o (ap (at y) (sym marked-held) ∙ e)) tt))
        (keyed-marked k (hand.keyed g c b s d γ h) x to)
        (let m = hand.trim g c b s d γ h in (each-more {A = Recalled} (λ q. T (is_lowered_mode q.to)) d.clerk.recalls (record { obj = x; number = n; to = to } ∷ []) m.0 (lowered, tt), m.1, m.2)) refl (λ z. z)

    takes-recall-here : InHand (take_recall x n to d)
    takes-recall-here = go (nat_lt n (cache.last x k)) (recall-agrees w c s x n to d (moving.goes g c b s d γ u).agree names)
      where
        go : (z : Bool) → TokensAgree (acting w c s (elim z as (λ y. Doing) [ true ↦ d | false ↦ keep_recall (record { obj = x; number = n; to = to }) (with_cache (mark_recall x to) d) ]))
            → InHand (elim z as (λ y. Doing) [ true ↦ d | false ↦ keep_recall (record { obj = x; number = n; to = to }) (with_cache (mark_recall x to) d) ])
        go true agree = h
        go false agree = takes-mark agree

  pub takes-recall : (t e x n : ℕ) (to : Hold) → T (is_sound (Recall t e x n to)) → Fits (view here) (Recall t e x n to) → InHand (taken (Recall t e x n to) d)
  takes-recall t e x n to sound f = by-session InHand d s t e (take_recall x n to) u.session h (λ p q. takes-recall-here x n to sound (acting-fits (Recall t e x n to) f).1)
