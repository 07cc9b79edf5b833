-- A clerk in its session takes a message of the server that answers no call.
use Rattle.std.proofs.Common.{◌≡◌, refl, sym, ap, subst, ◌∙◌, inl, ◌==◌, ◌&&◌, ℕ, Bool, true, false, T, Some}
use Rattle.std.specs.Prelude.{Contains}
use Rattle.ec_base.specs.declared.ids.Hold.{Hold}
use Rattle.ec_volume.specs.declared.image.Image.{Image}
use Rattle.ec_wire.specs.Messages.{is_sound}
use Rattle.ec_wire.specs.declared.msg.Msg.{Msg}
use Rattle.ec_wire.specs.declared.msg.Msg.TheVariants.{Grant, Recall, Kept, Ids, Restarted}
use Rattle.ec_cache.specs.Cache as cache
use Rattle.ec_log.specs.Log as log
use Rattle.ec_protocol.specs.Clerk.{Doing, doing, epoch, has_session, hello, is_session, take_ids, take_recall, take_restarted, taken, with_cache, with_log}
use Rattle.ec_protocol.specs.declared.clerk.Clerk.{Clerk}
use Rattle.ec_coherence.specs.System.{System, Ghost}
use Rattle.ec_coherence.specs.Sessions as sessions
use Rattle.ec_coherence.specs.Steps.{doing_in}
use Rattle.ec_coherence.specs.Tokens.{Fits, view}
use Rattle.ec_coherence.proofs.ForCommits.Needs.{each-of}
use Rattle.ec_lawful.specs.OfClerkSteps.CallLaws.{is_calm}
use Rattle.ec_lawful.proofs.OfClerkSteps.ForCalls.Quiets.{quiet-taken}
use Rattle.ec_lawful.specs.OfClerkSteps.DoingLaws.{IsInHand}
use Rattle.ec_lawful.proofs.OfClerkSteps.ForDoings.Restarting.{takes-restarted}
use Rattle.ec_lawful.proofs.OfClerkSteps.ForDoings.Taking.{takes-grant, takes-kept, takes-recall}
use Rattle.ec_lawful.proofs.OfClerkSteps.ForDoings.TakingIds.{takes-ids}
use Rattle.ec_lawful.specs.OfClerkSteps.Cuts.{CutsAgree}
use Rattle.ec_lawful.specs.OfClerkSteps.Frames.{IsCalm}
use Rattle.ec_lawful.proofs.OfClerkSteps.ForJoins.Calm.{are-calm}
use Rattle.ec_lawful.proofs.OfClerkSteps.ForJoins.Going.{calm-keeps, kept-keeps}
use Rattle.ec_lawful.proofs.OfClerkSteps.ForJoins.Wholes as wholes
use Rattle.ec_lawful.specs.OfClerkSteps.Frees.{FreesAgree}
use Rattle.ec_lawful.specs.OfClerkSteps.Trying.{IsTrying}
use Rattle.ec_lawful.specs.OfClerkSteps.Zeros.{HasNoZero}
use Rattle.ec_lawful.specs.OfClerkSteps.ZeroLaws.{SameParts}
use Rattle.ec_lawful.proofs.OfClerkSteps.ForNames.Parts.{have-no-zero, ids-have-none}
use Rattle.ec_lawful.specs.OfClerkSteps.Moves.{IsStill}
use Rattle.ec_lawful.proofs.OfClerkSteps.ForNames.Stilling.{are-still, restarts-still}
use Rattle.ec_lawful.proofs.OfClerkSteps.ForDoings.FreesStored.{stills-keep}
use Rattle.ec_lawful.proofs.OfClerkSteps.ForDoings.StoredIds.{ids-keep-frees}
use Rattle.ec_coherence.specs.CommitLaws.{AllAgree}
use Rattle.ec_lawful.specs.Fresh.{FreshAgrees}
use Rattle.ec_lawful.proofs.ForBegins.Ids.{ids-fresh}
use Rattle.ec_lawful.specs.Whole.{Whole}
use Rattle.ec_lawful.specs.SettleLaws.{IsLined}
use Rattle.ec_lawful.proofs.ForBegins.Carrying.{goes-lined, in-hand, same-shows}
use Rattle.ec_lawful.proofs.Same.{first, no-zero}
use Rattle.ec_base.proofs.Numbers.{equal}

module _ (g : System) (whole : Whole g) (c b : ℕ) (k : Clerk) (runs : g.running c ≡ Some b) (at-start : g.clerks c b ≡ Some k) (s : ℕ) (within : k.session ≡ Some s) where
  abbrev d : Doing
  d = doing k

  abbrev γ : Ghost
  γ = g.ghost

  was : IsLined g c b d γ
  was = first g whole c b k runs at-start

  t : IsTrying g c b d γ
  t = was.trying

  hand : IsInHand g c b s d γ
  hand = in-hand g c b s d γ t within

  all-of : {e : Doing} → IsInHand g c b s e γ → AllAgree (doing_in c b e γ g)
  all-of h = let st = (h.under_way).stands in ((st.0).invariant, st.1, st.2, st.3)

  own : HasNoZero k
  own = no-zero g whole c b k runs at-start

  session-fits : (m : Msg) → Contains g.pool (c, m) → sessions.Fits (doing_in c b d γ g) c m
  session-fits = wholes.of-sessions g whole.all whole.cuts c b k runs at-start

  token-fits : (m : Msg) → Contains g.pool (c, m) → Fits (view (doing_in c b d γ g)) m
  token-fits = wholes.of-tokens g whole.all whole.cuts c b k runs at-start

  sound : (m : Msg) → Contains g.pool (c, m) → T (is_sound m)
  sound m p = each-of (λ m. T (is_sound m.1)) g.pool (c, m) (((whole.all).0).sessions.sound) p

  its : (n : ℕ) → is_session n k.session ≡ true → n ≡ s
  its n e = equal n s (sym (ap (is_session n) within) ∙ e)

  -- all together
  goes : (m : Msg) → T (is_calm m d) → IsInHand g c b s (taken m d) γ → HasNoZero (taken m d).clerk → FreesAgree (doing_in c b (taken m d) γ g) → CutsAgree (doing_in c b (taken m d) γ g) → FreshAgrees (doing_in c b (taken m d) γ g) → IsLined g c b (taken m d) γ
  goes m calm h zero frees cuts fresh = goes-lined g c b s d (taken m d) γ t h (quiet-taken m d calm) zero frees cuts was.lines was.shows fresh

  still-frees : (m : Msg) → IsStill k (taken m d).clerk → FreesAgree (doing_in c b (taken m d) γ g)
  still-frees m i = stills-keep g c b d γ t.frees (taken m d) γ refl refl refl refl refl (inl i)

  still-fresh : (m : Msg) → IsInHand g c b s (taken m d) γ → IsStill k (taken m d).clerk → FreshAgrees (doing_in c b (taken m d) γ g)
  still-fresh m h i = (same-shows g c b d (taken m d) γ t (all-of h) i was.shows).fresh

  calm-cuts : (m : Msg) → IsCalm d (taken m d) → CutsAgree (doing_in c b (taken m d) γ g)
  calm-cuts m i = calm-keeps g c b d (taken m d) γ i t.cuts

  pub takes-grant-so : (n e x m : ℕ) (h : Hold) (i : Image) → Contains g.pool (c, Grant n e x m h i) → IsLined g c b (taken (Grant n e x m h i) d) γ
  takes-grant-so n e x m h i p =
      let f = with_cache (cache.take x h m i) in
      let on = takes-grant g c b s d γ hand n e x m h i (token-fits (Grant n e x m h i) p) in
      goes (Grant n e x m h i) tt on
      (have-no-zero.same d (taken (Grant n e x m h i) d) (have-no-zero.within n e f d (have-no-zero.grants x h m i d)) own)
      (still-frees (Grant n e x m h i) (are-still.grants (Grant n e x m h i) tt d))
      (calm-cuts (Grant n e x m h i) (are-calm.within n e f d (are-calm.grants x h m i d))) (still-fresh (Grant n e x m h i) on (are-still.grants (Grant n e x m h i) tt d))

  pub takes-recall-so : (n e x m : ℕ) (h : Hold) → Contains g.pool (c, Recall n e x m h) → IsLined g c b (taken (Recall n e x m h) d) γ
  takes-recall-so n e x m h p =
      let on = takes-recall g c b s d γ hand n e x m h (sound (Recall n e x m h) p) (token-fits (Recall n e x m h) p) in
      goes (Recall n e x m h) tt on
      (have-no-zero.same d (taken (Recall n e x m h) d) (have-no-zero.within n e (take_recall x m h) d (have-no-zero.takes_recall x m h d)) own)
      (still-frees (Recall n e x m h) (are-still.takes_recall (Recall n e x m h) tt d))
      (calm-cuts (Recall n e x m h) (are-calm.within n e (take_recall x m h) d (are-calm.takes_recall x m h d))) (still-fresh (Recall n e x m h) on (are-still.takes_recall (Recall n e x m h) tt d))

  pub takes-kept-so : (n e m : ℕ) → Contains g.pool (c, Kept n e m) → IsLined g c b (taken (Kept n e m) d) γ
  takes-kept-so n e m p = goes (Kept n e m) tt on (zero (is_session n k.session)) (still-frees (Kept n e m) (are-still.kept (Kept n e m) tt d)) (cuts (is_session n k.session) refl) (still-fresh (Kept n e m) on (are-still.kept (Kept n e m) tt d))
    where
      on : IsInHand g c b s (taken (Kept n e m) d) γ
      on = takes-kept g c b s d γ hand n e m (session-fits (Kept n e m) p)

      zero : (z : Bool) → HasNoZero (elim z as (λ y. Doing) [ true ↦ with_log (log.kept m) d | false ↦ d ]).clerk
      zero true = have-no-zero.kept_batch m d own
      zero false = own

      cuts : (z : Bool) → is_session n k.session ≡ z → CutsAgree (doing_in c b (elim z as (λ y. Doing) [ true ↦ with_log (log.kept m) d | false ↦ d ]) γ g)
      cuts true q = kept-keeps g c b s d γ hand.under_way e m (subst (λ z. sessions.Fits (doing_in c b d γ g) c (Kept z e m)) (its n q) (session-fits (Kept n e m) p)) t.cuts
      cuts false q = t.cuts

  pub takes-ids-so : (n e got m x : ℕ) → Contains g.pool (c, Ids n e got m x) → IsLined g c b (taken (Ids n e got m x) d) γ
  takes-ids-so n e got m x p =
      goes (Ids n e got m x) tt on (zero (is_session n k.session && (e == epoch d)) refl) (ids-keep-frees g c b s d γ hand t.frees (Ids n e got m x) tt fits)
      (calm-cuts (Ids n e got m x) (are-calm.within n e (take_ids got m x) d (are-calm.takes_ids got m x d))) (ids-fresh g c b s d γ hand was.shows.fresh (Ids n e got m x) tt fits (all-of on))
    where
      fits : Fits (view (doing_in c b d γ g)) (Ids n e got m x)
      fits = token-fits (Ids n e got m x) p

      on : IsInHand g c b s (taken (Ids n e got m x) d) γ
      on = takes-ids g c b s d γ hand n e got m x fits

      zero : (z : Bool) → (is_session n k.session && (e == epoch d)) ≡ z → HasNoZero (elim z as (λ y. Doing) [ true ↦ take_ids got m x d | false ↦ d ]).clerk
      zero true q = ids-have-none g c b s d γ hand.under_way t.zeros e got m x (subst (λ z. Fits (view (doing_in c b d γ g)) (Ids z e got m x)) (its n ((Rattle.std.proofs.lemmas.Bool.and_parts (is_session n k.session) (e == epoch d) q).0)) fits)
      zero false q = own

  pub takes-restarted-so : (n e : ℕ) → Contains g.pool (c, Restarted n e) → IsLined g c b (taken (Restarted n e) d) γ
  takes-restarted-so n e p =
      goes (Restarted n e) tt on
      (have-no-zero.same d (taken (Restarted n e) d) (parts (has_session k) (is_session n k.session)) own)
      (still-frees (Restarted n e) (restarts-still d s within (Restarted n e) tt))
      (calm-cuts (Restarted n e) (calm (has_session k) (is_session n k.session))) (still-fresh (Restarted n e) on (restarts-still d s within (Restarted n e) tt))
    where
      on : IsInHand g c b s (taken (Restarted n e) d) γ
      on = takes-restarted g c b s γ d hand n e (token-fits (Restarted n e) p)

      parts : (z y : Bool) → SameParts d (elim z as (λ y. Doing) [ false ↦ hello d | true ↦ elim y as (λ y. Doing) [ true ↦ take_restarted e d | false ↦ d ] ])
      parts false y = have-no-zero.hellos d
      parts true true = have-no-zero.restarts e d
      parts true false = record { ids = refl; undurable = refl; owed = refl }

      calm : (z y : Bool) → IsCalm d (elim z as (λ y. Doing) [ false ↦ hello d | true ↦ elim y as (λ y. Doing) [ true ↦ take_restarted e d | false ↦ d ] ])
      calm false y = are-calm.rest d (hello d) refl refl
      calm true true = are-calm.restarts e d
      calm true false = are-calm.rest d d refl refl
