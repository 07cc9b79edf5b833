-- The first line of a new start shows that its call waits; and before it all facts stand but that the lines show it.
use Rattle.std.proofs.Common.{◌≡◌, refl, sym, ap, subst, ◌∙◌, ◌<◌, ◌+◌, ℕ, Bool, true, false, ◌==◌, cond, [], ◌∷◌, ◌++◌, None, append-nil}
use Rattle.ec_plain.specs.declared.call.Call.{Call}
use Rattle.ec_history.specs.Placing.{MayFollow, begun, place, watch}
use Rattle.ec_history.specs.declared.watch.Watch.{Watch}
use Rattle.ec_history.specs.declared.shown.Shown.{Shown}
use Rattle.ec_history.specs.declared.shown.Shown.TheVariants.{Waits}
use Rattle.ec_history.proofs.OfLaws.ForPlacing.Cuts.{placeable-step}
use Rattle.ec_history.proofs.OfLaws.ForPlacing.Late.{place-no_call}
use Rattle.ec_history.proofs.OfLaws.ForPlacing.More.{watch-step}
use Rattle.ec_coherence.specs.System.{System}
use Rattle.ec_coherence.specs.ChangeLaws.{Calls}
use Rattle.ec_coherence.proofs.ForServer.Tables.{by-session}
use Rattle.ec_coherence.specs.CommitLaws.{AllAgree}
use Rattle.ec_coherence.specs.Watches.{WatchAgrees, WatchesAgree}
use Rattle.ec_coherence.specs.StandLaws.{lined}
use Rattle.ec_lawful.specs.OfClerkSteps.Counts.{CountsAgree}
use Rattle.ec_lawful.specs.OfClerkSteps.Cuts.{CutsAgree}
use Rattle.ec_lawful.specs.OfClerkSteps.JoinLaws.{IsFresh, started}
use Rattle.ec_lawful.proofs.OfClerkSteps.ForJoins.Start as start
use Rattle.ec_base.proofs.Numbers.{same-self as same}

abbrev beginning : Watch → Watch
beginning w = record w { starts = w.starts + 1; running = true }

-- a line that begins a start, of this clerk or not
begins-untold : (z : Bool) (w : Watch) → (cond z (begun w) w).untold ≡ w.untold
begins-untold false w = refl
begins-untold true w = go w.running
  where
    go : (y : Bool) → (cond y w (beginning w)).untold ≡ w.untold
    go true = refl
    go false = refl

begins-once : (z : Bool) (w : Watch) → (begun (cond z (begun w) w)).starts ≡ (begun w).starts
begins-once false w = refl
begins-once true w = go w.running refl
  where
    go : (y : Bool) → w.running ≡ y → (begun (cond w.running w (beginning w))).starts ≡ (begun w).starts
    go true e = ap (λ v. (begun (cond v w (beginning w))).starts) e
    go false e = ap (λ v. (begun (cond v w (beginning w))).starts) e ∙ ap (λ v. (cond v w (beginning w)).starts) (sym e)

module _ (g : System) (all : AllAgree g) (counts : CountsAgree g) (c : ℕ) (small : c < 16) (down : g.running c ≡ None) (calls : Calls) where
  pub fresh-stands : IsFresh g (started g c calls) c
  fresh-stands = record {
    invariant = start.invariant-now g all counts c small down calls g.ghost.shown (all.0).events.placeable refl (λ d. refl) (λ d. refl);
    others = λ d n. start.watch-other g all counts c small down calls g.ghost.shown (all.0).events.placeable refl (λ d. refl) (λ d. refl) d n refl;
    begins = start.watch-own g all counts c small down calls g.ghost.shown (all.0).events.placeable refl (λ d. refl) (λ d. refl);
    idle = start.idle g all counts c small down calls;
    untold = start.untold g all counts c small down calls;
    firsts = all.2;
    starts = start.starts-now g all counts c small down calls g.ghost.shown (all.0).events.placeable refl (λ d. refl) (λ d. refl);
    counts = start.counts-now g all counts c small down calls g.ghost.shown (all.0).events.placeable refl (λ d. refl) (λ d. refl) (λ d n. refl);
    cuts = start.cuts-now g all counts c small down calls g.ghost.shown (all.0).events.placeable refl (λ d. refl) (λ d. refl);
  }

  module _ (l : ℕ) (cl : Call) (may : MayFollow g.ghost.shown (Waits l c cl)) where
    abbrev line : Shown
    line = Waits l c cl

    abbrev h : System
    h = lined (started g c calls) line

    watched : (d : ℕ) → watch d (g.ghost.shown ++ line ∷ []) ≡ cond (d == c) (begun (watch d g.ghost.shown)) (watch d g.ghost.shown)
    watched d = watch-step d g.ghost.shown line

    watched-other : (d : ℕ) → (d == c) ≡ false → watch d (g.ghost.shown ++ line ∷ []) ≡ watch d g.ghost.shown
    watched-other d n = watched d ∙ ap (λ z. cond z (begun (watch d g.ghost.shown)) (watch d g.ghost.shown)) n

    watched-own : watch c (g.ghost.shown ++ line ∷ []) ≡ begun (watch c g.ghost.shown)
    watched-own = watched c ∙ ap (λ z. cond z (begun (watch c g.ghost.shown)) (watch c g.ghost.shown)) (same c)

    placed : place (g.ghost.shown ++ line ∷ []) ≡ place g.ghost.shown
    placed = place-no_call g.ghost.shown line (λ d. refl) ∙ append-nil (place g.ghost.shown)

    same_untold : (d : ℕ) → (watch d (g.ghost.shown ++ line ∷ [])).untold ≡ (watch d g.ghost.shown).untold
    same_untold d = ap (λ w. w.untold) (watched d) ∙ begins-untold (d == c) (watch d g.ghost.shown)

    same_starts : (d : ℕ) → (begun (watch d (g.ghost.shown ++ line ∷ []))).starts ≡ (begun (watch d g.ghost.shown)).starts
    same_starts d = ap (λ w. (begun w).starts) (watched d) ∙ begins-once (d == c) (watch d g.ghost.shown)

    watches-stay : WatchesAgree h
    watches-stay d = by-session c d (λ d. WatchAgrees h d (watch d (g.ghost.shown ++ line ∷ [])))
        (subst (WatchAgrees h c) (sym watched-own) (start.watch-own g all counts c small down calls (g.ghost.shown ++ line ∷ []) (placeable-step g.ghost.shown line (all.0).events.placeable may) placed same_untold same_starts))
        (λ n. start.watch-other g all counts c small down calls (g.ghost.shown ++ line ∷ []) (placeable-step g.ghost.shown line (all.0).events.placeable may) placed same_untold same_starts d n (watched-other d n))

    pub start-stands : AllAgree h × CountsAgree h × (CutsAgree g → CutsAgree h)
    start-stands = (
      (
        start.invariant-now g all counts c small down calls (g.ghost.shown ++ line ∷ []) (placeable-step g.ghost.shown line (all.0).events.placeable may) placed same_untold same_starts,
        watches-stay,
        all.2,
        start.starts-now g all counts c small down calls (g.ghost.shown ++ line ∷ []) (placeable-step g.ghost.shown line (all.0).events.placeable may) placed same_untold same_starts,
      ),
      start.counts-now g all counts c small down calls (g.ghost.shown ++ line ∷ []) (placeable-step g.ghost.shown line (all.0).events.placeable may) placed same_untold same_starts watched-other,
      start.cuts-now g all counts c small down calls (g.ghost.shown ++ line ∷ []) (placeable-step g.ghost.shown line (all.0).events.placeable may) placed same_untold same_starts,
    )
