-- What comes before the tries of a step, and what comes after them.
use Rattle.std.proofs.Common.{◌≡◌, refl, sym, ap, subst, ◌∙◌, inl, arith, ℕ, true, false, length}
use Rattle.std.specs.Prelude.{Option, None, Some, is_some, nat_le}
use Rattle.ec_history.specs.History.{Each}
use Rattle.ec_protocol.specs.Clerk.{Doing, answer_recalls, ask_pushes, evict, evict_unpinned, on_objects}
use Rattle.ec_coherence.specs.System.{System, Ghost}
use Rattle.ec_coherence.specs.Sessions.{HasNone}
use Rattle.ec_coherence.specs.Steps.{doing_in}
use Rattle.ec_coherence.proofs.ForBatches.ClerkIn.{start-same}
use Rattle.ec_lawful.specs.OfClerkSteps.CallLaws.{IsQuiet, prepared}
use Rattle.ec_lawful.specs.OfClerkSteps.Waits.{AreInTurn, HasLine, NoneReady}
use Rattle.ec_lawful.proofs.OfClerkSteps.ForCalls.Quiets.{quiet-evict, quiet-prepared}
use Rattle.ec_lawful.proofs.OfClerkSteps.ForCalls.Still.{begins-still}
use Rattle.ec_lawful.proofs.OfClerkSteps.ForCalls.Turns.{still-turn}
use Rattle.ec_lawful.specs.OfClerkSteps.Cuts.{CutsAgree}
use Rattle.ec_lawful.proofs.OfClerkSteps.ForJoins.Calm.{are-calm}
use Rattle.ec_lawful.proofs.OfClerkSteps.ForJoins.Going.{calm-keeps}
use Rattle.ec_lawful.specs.OfClerkSteps.DoingLaws.{IsInHand}
use Rattle.ec_lawful.proofs.OfClerkSteps.ForDoings.Evicting.{evicts}
use Rattle.ec_lawful.proofs.OfClerkSteps.ForDoings.Pushes.{asks-pushes}
use Rattle.ec_lawful.proofs.OfClerkSteps.ForDoings.Recalls.{answers}
use Rattle.ec_lawful.specs.OfClerkSteps.Moves.{IsStill}
use Rattle.ec_lawful.proofs.OfClerkSteps.ForNames.Stilling.{are-still}
use Rattle.ec_lawful.proofs.OfClerkSteps.ForDoings.FreesStored.{stills-keep}
use Rattle.ec_lawful.specs.OfClerkSteps.Frees.{FreesAgree}
use Rattle.ec_lawful.specs.OfClerkSteps.Trying.{IsTrying}
use Rattle.ec_lawful.specs.OfClerkSteps.Zeros.{HasNoZero}
use Rattle.ec_lawful.proofs.OfClerkSteps.ForNames.Parts.{have-no-zero}
use Rattle.ec_lawful.specs.Whole.{ShowsAll}
use Rattle.ec_lawful.specs.SettleLaws.{IsLined}
use Rattle.ec_lawful.proofs.ForBegins.Carrying.{goes-on, in-hand, no-zero, same-shows, still-lined}

-- two steps that leave the session and the ids
still-then : (d e f : Doing) → IsStill d.clerk e.clerk → IsStill e.clerk f.clerk → IsStill d.clerk f.clerk
still-then d e f i j = (j.0 ∙ i.0, j.1 ∙ i.1, j.2 ∙ i.2)

-- where the clerk is, and has nothing in no session
module _ (g : System) (c b : ℕ) (d : Doing) (γ : Ghost) (t : IsTrying g c b d γ) where
  pub nothing : d.clerk.session ≡ None → HasNone d.clerk
  nothing none = (((t.stands).0).invariant).sessions.without c b d.clerk (start-same c b d.clerk g.clerks) none

  same-outside : d.clerk.session ≡ None → prepared d ≡ d
  same-outside none = ap (λ o. elim (is_some o) as (λ z. Doing) [ true ↦ ask_pushes (answer_recalls d) | false ↦ d ]) none

  same-inside : (s : ℕ) → d.clerk.session ≡ Some s → prepared d ≡ ask_pushes (answer_recalls d)
  same-inside s session = ap (λ o. elim (is_some o) as (λ z. Doing) [ true ↦ ask_pushes (answer_recalls d) | false ↦ d ]) session

  -- nothing is held, so none is too many
  none-evicted : d.clerk.session ≡ None → evict d ≡ d
  none-evicted none =
      ap (λ k. elim (nat_le (length k.held) k.capacity) as (λ z. Doing) [ true ↦ d | false ↦ evict_unpinned (on_objects d.clerk.log.undurable) d ]) (nothing none).cache
      ∙ ap (λ z. elim z as (λ z. Doing) [ true ↦ d | false ↦ evict_unpinned (on_objects d.clerk.log.undurable) d ]) (small d.clerk.cache.capacity)
    where
      small : (n : ℕ) → nat_le 0 n ≡ true
      small n = grind arith

  -- in a session
  module _ (s : ℕ) (session : d.clerk.session ≡ Some s) where
    hand : IsInHand g c b s d γ
    hand = in-hand g c b s d γ t session

    abbrev e : Doing
    e = ask_pushes (answer_recalls d)

    ready-hand : IsInHand g c b s e γ
    ready-hand = asks-pushes g c b s γ (answer_recalls d) (answers g c b s γ d hand)

    ready-quiet : IsQuiet d e
    ready-quiet = subst (IsQuiet d) (same-inside s session) (quiet-prepared d)

    ready-zero : HasNoZero e.clerk
    ready-zero = have-no-zero.same d e (have-no-zero.then d (answer_recalls d) e (have-no-zero.recalls d) (have-no-zero.pushes (answer_recalls d))) (no-zero g c b d γ t)

    ready-frees : FreesAgree (doing_in c b e γ g)
    ready-frees = stills-keep g c b d γ t.frees e γ refl refl refl refl refl (inl (still-then d (answer_recalls d) e (are-still.recalls d) (are-still.pushes (answer_recalls d))))

    ready-cuts : CutsAgree (doing_in c b e γ g)
    ready-cuts = calm-keeps g c b d e γ (are-calm.then d (answer_recalls d) e (are-calm.recalls d) (are-calm.pushes (answer_recalls d))) t.cuts

    ready-on : AreInTurn (doing_in c b e γ g) c e.clerk → IsTrying g c b e γ
    ready-on = goes-on g c b s d e γ t ready-hand ready-quiet ready-zero ready-frees ready-cuts

    ready-still : IsStill d.clerk e.clerk
    ready-still = still-then d (answer_recalls d) e (are-still.recalls d) (are-still.pushes (answer_recalls d))

    ready-lined : Each (HasLine (doing_in c b d γ g) c) d.clerk.waiting → ShowsAll (doing_in c b d γ g) → IsLined g c b e γ
    ready-lined lines shows = still-lined g c b s d e γ t ready-hand ready-quiet ready-zero ready-frees ready-cuts lines shows ready-still

    -- what lines show, where a call began
    ready-shows : ShowsAll (doing_in c b d γ g) → ShowsAll (doing_in c b e γ g)
    ready-shows shows = let st = (ready-hand.under_way).stands in same-shows g c b d e γ t ((st.0).invariant, st.1, st.2, st.3) ready-still shows

    evict-lined : Each (HasLine (doing_in c b d γ g) c) d.clerk.waiting → ShowsAll (doing_in c b d γ g) → IsLined g c b (evict d) γ
    evict-lined lines shows = still-lined g c b s d (evict d) γ t (evicts g c b s d γ hand) (quiet-evict d) (have-no-zero.same d (evict d) (have-no-zero.evicts d) (no-zero g c b d γ t))
        (stills-keep g c b d γ t.frees (evict d) γ refl refl refl refl refl (inl (are-still.evict d))) (calm-keeps g c b d (evict d) γ (are-calm.evicts d) t.cuts) lines shows (are-still.evict d)

module _ (g : System) (c b : ℕ) (d : Doing) (γ : Ghost) where
  pub prepares : IsLined g c b d γ → IsLined g c b (prepared d) γ
  prepares l = by d.clerk.session refl
    where
      by : (o : Option ℕ) → d.clerk.session ≡ o → IsLined g c b (prepared d) γ
      by None p = subst (λ e. IsLined g c b e γ) (sym (same-outside g c b d γ l.trying p)) l
      by (Some s) p = subst (λ e. IsLined g c b e γ) (sym (same-inside g c b d γ l.trying s p)) (ready-lined g c b d γ l.trying s p l.lines l.shows)

  pub evicts-lined : IsLined g c b d γ → IsLined g c b (evict d) γ
  evicts-lined l = by d.clerk.session refl
    where
      by : (o : Option ℕ) → d.clerk.session ≡ o → IsLined g c b (evict d) γ
      by None p = subst (λ e. IsLined g c b e γ) (sym (none-evicted g c b d γ l.trying p)) l
      by (Some s) p = evict-lined g c b d γ l.trying s p l.lines l.shows

  pub prepares-shows : IsTrying g c b d γ → ShowsAll (doing_in c b d γ g) → ShowsAll (doing_in c b (prepared d) γ g)
  prepares-shows t shows = by d.clerk.session refl
    where
      by : (o : Option ℕ) → d.clerk.session ≡ o → ShowsAll (doing_in c b (prepared d) γ g)
      by None p = subst (λ e. ShowsAll (doing_in c b e γ g)) (sym (same-outside g c b d γ t p)) shows
      by (Some s) p = subst (λ e. ShowsAll (doing_in c b e γ g)) (sym (same-inside g c b d γ t s p)) (ready-shows g c b d γ t s p shows)

  -- where a call began
  pub prepares-call : IsTrying g c b d γ → NoneReady d.clerk → IsTrying g c b (prepared d) γ × NoneReady (prepared d).clerk
  prepares-call t none = (by d.clerk.session refl, (begins-still d none).1)
    where
      by : (o : Option ℕ) → d.clerk.session ≡ o → IsTrying g c b (prepared d) γ
      by None p = subst (λ e. IsTrying g c b e γ) (sym (same-outside g c b d γ t p)) t
      by (Some s) p =
          let path = same-inside g c b d γ t s p in
          subst (λ e. IsTrying g c b e γ) (sym path) (ready-on g c b d γ t s p (subst (λ e. AreInTurn (doing_in c b e γ g) c e.clerk) path (still-turn g c b d (prepared d) γ (begins-still d none).0 t.turn)))
