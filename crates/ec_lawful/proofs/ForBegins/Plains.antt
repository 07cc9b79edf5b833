-- Messages of the clerk's session that answer no call: all facts stand behind each.
use Rattle.std.proofs.Common.{◌≡◌, refl, sym, ap, subst, ◌∙◌, inl, ℕ, Bool, true, false, T}
use Rattle.std.specs.Prelude.{Some, is_some}
use Rattle.ec_base.specs.declared.ids.Hold.{Hold}
use Rattle.ec_volume.specs.declared.image.Image.{Image}
use Rattle.ec_wire.specs.Messages.{is_sound}
use Rattle.ec_wire.specs.declared.msg.Msg.{Msg}
use Rattle.ec_wire.specs.declared.msg.Msg.TheVariants.{Grant, Ids, Kept, Recall, Restarted}
use Rattle.ec_cache.specs.Cache as cache
use Rattle.ec_log.specs.Log.{kept}
use Rattle.ec_protocol.specs.Clerk.{Doing, hello, is_session, take_ids, take_recall, take_restarted, taken, with_cache, with_log}
use Rattle.ec_coherence.specs.System.{System, Ghost}
use Rattle.ec_coherence.specs.Sessions as sessions
use Rattle.ec_coherence.specs.Steps.{doing_in}
use Rattle.ec_coherence.specs.Tokens.{Fits, view}
use Rattle.ec_coherence.proofs.ForClerk.TakeGrant.{by-session}
use Rattle.ec_lawful.proofs.OfClerkSteps.ForCalls.Quiets.{quiet-taken}
use Rattle.ec_lawful.specs.OfClerkSteps.Cuts.{CutsAgree}
use Rattle.ec_lawful.proofs.OfClerkSteps.ForJoins.Calm.{are-calm}
use Rattle.ec_lawful.proofs.OfClerkSteps.ForJoins.Going.{calm-keeps, kept-keeps}
use Rattle.ec_lawful.specs.OfClerkSteps.DoingLaws.{IsInHand}
use Rattle.ec_lawful.proofs.OfClerkSteps.ForDoings.Restarting.{takes-restarted}
use Rattle.ec_lawful.proofs.OfClerkSteps.ForDoings.Taking.{takes-grant, takes-kept, takes-recall}
use Rattle.ec_lawful.proofs.OfClerkSteps.ForDoings.TakingIds.{takes-ids}
use Rattle.ec_lawful.proofs.OfClerkSteps.ForNames.Stilling.{are-still, restarts-still}
use Rattle.ec_lawful.proofs.OfClerkSteps.ForDoings.FreesStored.{stills-keep}
use Rattle.ec_lawful.proofs.OfClerkSteps.ForDoings.StoredIds.{ids-keep-frees}
use Rattle.ec_lawful.specs.OfClerkSteps.Zeros.{HasNoZero}
use Rattle.ec_lawful.specs.OfClerkSteps.Trying.{IsTrying}
use Rattle.ec_lawful.proofs.OfClerkSteps.ForNames.Parts.{have-no-zero, ids-have-none}
use Rattle.ec_coherence.specs.CommitLaws.{AllAgree}
use Rattle.ec_coherence.specs.StandLaws.{ClerkStands}
use Rattle.ec_lawful.proofs.ForBegins.Ids.{ids-fresh}
use Rattle.ec_lawful.specs.SettleLaws.{IsLined, IsPlain}
use Rattle.ec_lawful.proofs.ForBegins.Carrying.{goes-lined, in-hand, no-zero, still-lined}
use Rattle.ec_base.proofs.Numbers.{equal}

module _ (g : System) (c b s : ℕ) (d : Doing) (γ : Ghost) (l : IsLined g c b d γ) (session : d.clerk.session ≡ Some s) where
  abbrev here : System
  here = doing_in c b d γ g

  t : IsTrying g c b d γ
  t = l.trying

  h : IsInHand g c b s d γ
  h = in-hand g c b s d γ t session

  all-of : {e : Doing} → ClerkStands g c b e γ → AllAgree (doing_in c b e γ g)
  all-of st = ((st.0).invariant, st.1, st.2, st.3)

  zero : HasNoZero d.clerk
  zero = no-zero g c b d γ t

  grants : (r a x n : ℕ) (m : Hold) (i : Image) → Fits (view here) (Grant r a x n m i) → IsLined g c b (taken (Grant r a x n m i) d) γ
  grants r a x n m i f =
      let e = taken (Grant r a x n m i) d in
      still-lined g c b s d e γ t (takes-grant g c b s d γ h r a x n m i f) (quiet-taken (Grant r a x n m i) d tt) (have-no-zero.same d e (have-no-zero.within r a (with_cache (cache.take x m n i)) d (have-no-zero.grants x m n i d)) zero)
      (stills-keep g c b d γ t.frees e γ refl refl refl refl refl (inl (are-still.grants (Grant r a x n m i) tt d)))
      (calm-keeps g c b d e γ (are-calm.within r a (with_cache (cache.take x m n i)) d (are-calm.grants x m n i d)) t.cuts) l.lines l.shows (are-still.grants (Grant r a x n m i) tt d)

  recalls : (r a x n : ℕ) (m : Hold) → T (is_sound (Recall r a x n m)) → Fits (view here) (Recall r a x n m) → IsLined g c b (taken (Recall r a x n m) d) γ
  recalls r a x n m sound f =
      let e = taken (Recall r a x n m) d in
      still-lined g c b s d e γ t (takes-recall g c b s d γ h r a x n m sound f) (quiet-taken (Recall r a x n m) d tt) (have-no-zero.same d e (have-no-zero.within r a (take_recall x n m) d (have-no-zero.takes_recall x n m d)) zero)
      (stills-keep g c b d γ t.frees e γ refl refl refl refl refl (inl (are-still.takes_recall (Recall r a x n m) tt d)))
      (calm-keeps g c b d e γ (are-calm.within r a (take_recall x n m) d (are-calm.takes_recall x n m d)) t.cuts) l.lines l.shows (are-still.takes_recall (Recall r a x n m) tt d)

  kept-cuts : (r a n : ℕ) → sessions.Fits here c (Kept r a n) → CutsAgree (doing_in c b (taken (Kept r a n) d) γ g)
  kept-cuts r a n f = go (is_session r d.clerk.session) refl
    where
      go : (z : Bool) → is_session r d.clerk.session ≡ z → CutsAgree (doing_in c b (elim z as (λ y. Doing) [ true ↦ with_log (kept n) d | false ↦ d ]) γ g)
      go true p = kept-keeps g c b s d γ h.under_way a n (subst (λ y. sessions.Fits here c (Kept y a n)) (equal r s (sym (ap (is_session r) session) ∙ p)) f) t.cuts
      go false p = t.cuts

  kept-zero : (r a n : ℕ) → HasNoZero (taken (Kept r a n) d).clerk
  kept-zero r a n = go (is_session r d.clerk.session)
    where
      go : (z : Bool) → HasNoZero (elim z as (λ y. Doing) [ true ↦ with_log (kept n) d | false ↦ d ]).clerk
      go true = have-no-zero.kept_batch n d zero
      go false = zero

  keeps-kept : (r a n : ℕ) → sessions.Fits here c (Kept r a n) → IsLined g c b (taken (Kept r a n) d) γ
  keeps-kept r a n f =
      let e = taken (Kept r a n) d in
      still-lined g c b s d e γ t (takes-kept g c b s d γ h r a n f) (quiet-taken (Kept r a n) d tt) (kept-zero r a n)
      (stills-keep g c b d γ t.frees e γ refl refl refl refl refl (inl (are-still.kept (Kept r a n) tt d))) (kept-cuts r a n f) l.lines l.shows (are-still.kept (Kept r a n) tt d)

  ids : (r a got n first : ℕ) → Fits (view here) (Ids r a got n first) → IsLined g c b (taken (Ids r a got n first) d) γ
  ids r a got n first f =
      let e = taken (Ids r a got n first) d in
      goes-lined g c b s d e γ t (takes-ids g c b s d γ h r a got n first f) (quiet-taken (Ids r a got n first) d tt)
      (by-session (λ y. HasNoZero y.clerk) d s r a (take_ids got n first) session zero (λ p q. ids-have-none g c b s d γ h.under_way t.zeros a got n first (subst (λ y. Fits (view here) (Ids y a got n first)) p f)))
      (ids-keep-frees g c b s d γ h t.frees (Ids r a got n first) tt f)
      (calm-keeps g c b d e γ (are-calm.within r a (take_ids got n first) d (are-calm.takes_ids got n first d)) t.cuts) l.lines l.shows (ids-fresh g c b s d γ h l.shows.fresh (Ids r a got n first) tt f (all-of ((takes-ids g c b s d γ h r a got n first f).under_way).stands))

  -- a restart, in a session
  same-restarted : (r a : ℕ) → taken (Restarted r a) d ≡ elim (is_session r d.clerk.session) as (λ y. Doing) [ true ↦ take_restarted a d | false ↦ d ]
  same-restarted r a = ap (λ o. elim (is_some o) as (λ y. Doing) [ false ↦ hello d | true ↦ elim (is_session r d.clerk.session) as (λ y. Doing) [ true ↦ take_restarted a d | false ↦ d ] ]) session

  by-restart : (P : Doing → Type 0) (r a : ℕ) → P (take_restarted a d) → P d → P (taken (Restarted r a) d)
  by-restart P r a p q = subst P (sym (same-restarted r a)) (go (is_session r d.clerk.session))
    where
      go : (z : Bool) → P (elim z as (λ y. Doing) [ true ↦ take_restarted a d | false ↦ d ])
      go true = p
      go false = q

  restarts : (r a : ℕ) → Fits (view here) (Restarted r a) → IsLined g c b (taken (Restarted r a) d) γ
  restarts r a f =
      let e = taken (Restarted r a) d in
      still-lined g c b s d e γ t (takes-restarted g c b s γ d h r a f) (quiet-taken (Restarted r a) d tt)
      (by-restart (λ y. HasNoZero y.clerk) r a (have-no-zero.same d (take_restarted a d) (have-no-zero.restarts a d) zero) zero)
      (stills-keep g c b d γ t.frees e γ refl refl refl refl refl (inl (restarts-still d s session (Restarted r a) tt)))
      (by-restart (λ y. CutsAgree (doing_in c b y γ g)) r a (calm-keeps g c b d (take_restarted a d) γ (are-calm.restarts a d) t.cuts) t.cuts) l.lines l.shows (restarts-still d s session (Restarted r a) tt)

  pub plains-keep : (m : Msg) → IsPlain m → sessions.Fits here c m → T (is_sound m) → Fits (view here) m → IsLined g c b (taken m d) γ
  plains-keep (Grant r a x n m i) p own sound f = grants r a x n m i f
  plains-keep (Recall r a x n m) p own sound f = recalls r a x n m sound f
  plains-keep (Kept r a n) p own sound f = keeps-kept r a n own
  plains-keep (Ids r a got n first) p own sound f = ids r a got n first f
  plains-keep (Restarted r a) p own sound f = restarts r a f
  plains-keep _ p own sound f = absurd p
