-- Cut-off starts, and counted ones, behind whatever leaves what they read, behind a crash and behind a line.
use Rattle.std.proofs.Common.{◌≡◌, refl, sym, ap, ◌∙◌, arith, ◌≤◌, ◌-◌, ◌+◌, ℕ, Bool, true, false, ◌==◌, cond, [], ◌∷◌, ◌++◌, Option, Some, None}
use Rattle.ec_plain.specs.declared.call.Call.{Call}
use Rattle.ec_history.specs.Placing.{begun, watch, watch_next}
use Rattle.ec_history.specs.declared.watch.Watch.{Watch}
use Rattle.ec_history.specs.declared.shown.Shown.{Shown}
use Rattle.ec_history.specs.declared.shown.Shown.TheVariants as show
use Rattle.ec_history.proofs.OfLaws.ForPlacing.More.{watch-step}
use Rattle.ec_coherence.specs.System.{System}
use Rattle.ec_coherence.specs.Events.{shown_boot}
use Rattle.ec_coherence.proofs.ForServer.Tables.{by-session}
use Rattle.ec_coherence.specs.CommitLaws.{AllAgree}
use Rattle.ec_coherence.specs.StandLaws.{crashed, lined, stopped}
use Rattle.ec_lawful.specs.OfClerkSteps.Counts.{CountsAgree}
use Rattle.ec_lawful.specs.OfClerkSteps.Cuts.{CutsAgree}
use Rattle.ec_lawful.specs.OfClerkSteps.Frames.{SameCuts}
use Rattle.ec_lawful.proofs.OfClerkSteps.ForJoins.Keeping.{keeps-knowing}
use Rattle.ec_base.proofs.Numbers.{same-self as same, equal}
use Rattle.ec_base.proofs.Options.{none_some}

pub same-cuts : (g h : System) → SameCuts g h → CutsAgree g → CutsAgree h
same-cuts g h e f c b s k ks r p o z = keeps-knowing g h c s k k ks (λ sl p os dur kn. kn) (e.slots c) (ap (λ x. x s) e.owner) (λ j t. ap (λ x. x j) e.is_durable) (e.untold c)
    (f c b s k ks (ap (λ x. x c) (sym e.running) ∙ r) (ap (λ x. x c b) (sym e.clerks) ∙ p) (ap (λ x. x s) (sym e.owner) ∙ o) (ap (λ x. x s) (sym e.frozen) ∙ z))

-- A start crashes.
module _ (g : System) (all : AllAgree g) (c : ℕ) where
  abbrev h : System
  h = crashed g c

  abbrev line : Shown
  line = show.Crashed c

  abbrev down : Watch → Watch
  down w = record w { running = false; early = []; untold = None; crashed = true }

  watched : (f : ℕ) → watch f (g.ghost.shown ++ line ∷ []) ≡ cond (f == c) (down (watch f g.ghost.shown)) (watch f g.ghost.shown)
  watched f = watch-step f g.ghost.shown line

  watched-other : (f : ℕ) → (f == c) ≡ false → watch f (g.ghost.shown ++ line ∷ []) ≡ watch f g.ghost.shown
  watched-other f n = watched f ∙ ap (λ z. cond z (down (watch f g.ghost.shown)) (watch f g.ghost.shown)) n

  -- who runs then ran before, and is another one
  fewer : (f b : ℕ) → h.running f ≡ Some b → (g.running f ≡ Some b) × ((f == c) ≡ false)
  fewer f b q = go (f == c) refl q
    where
      go : (z : Bool) → (f == c) ≡ z → elim z as (λ y. Option ℕ) [ true ↦ None | false ↦ g.running f ] ≡ Some b → (g.running f ≡ Some b) × ((f == c) ≡ false)
      go true e q = absurd (none_some q)
      go false e q = (q, e)

  pub crash-cuts : CutsAgree g → CutsAgree h
  crash-cuts f d b s k ks r p o z = let q = fewer d b r in keeps-knowing g h d s k k ks (λ sl p os dur kn. kn) refl refl (λ j t. refl) (ap (λ w. w.untold) (watched-other d q.1)) (f d b s k ks q.0 p o z)

  -- the lines counted the start that ran
  starts-then : CountsAgree g → (watch c g.ghost.shown).starts ≡ shown_boot g c (g.boots c)
  starts-then a = go (g.running c) refl
    where
      go : (o : Option ℕ) → g.running c ≡ o → (watch c g.ghost.shown).starts ≡ shown_boot g c (g.boots c)
      go None e = a.counted c e
      go (Some b) e =
          let w : Watch = watch c g.ghost.shown in
          let run : w.running ≡ true = (all.1 c).running ∙ ap Rattle.std.specs.Prelude.is_some e in
          sym (ap (λ z. (cond z (watch c g.ghost.shown) (record (watch c g.ghost.shown) { starts = (watch c g.ghost.shown).starts + 1; running = true })).starts) run) ∙ (all.0).events.starts c b e ∙ ap (shown_boot g c) ((all.0).sessions.running c b e).0

  pub crash-counts : CountsAgree g → CountsAgree h
  crash-counts a = record {
    counted = λ f p. by-session c f (λ f. h.running f ≡ None → (watch f (g.ghost.shown ++ line ∷ [])).starts ≡ shown_boot g f (g.boots f))
        (λ p. ap (λ w. w.starts) (watched c ∙ ap (λ z. cond z (down (watch c g.ghost.shown)) (watch c g.ghost.shown)) (same c)) ∙ starts-then a)
        (λ n p. ap (λ w. w.starts) (watched-other f n) ∙ a.counted f (sym (ap (λ z. elim z as (λ y. Option ℕ) [ true ↦ None | false ↦ g.running f ]) n) ∙ p)) p;
    above = a.above;
  }

pub lines-keep-counts : (g : System) → CountsAgree g → (l : Shown) → ((c : ℕ) → g.running c ≡ None → (watch c (g.ghost.shown ++ l ∷ [])).starts ≡ (watch c g.ghost.shown).starts) → CountsAgree (lined g l)
lines-keep-counts g a l e = record { counted = λ c p. e c p ∙ a.counted c p; above = a.above }

pub opening-keeps : (g : System) → ((c : ℕ) → g.running c ≡ None) → g.ghost.shown ≡ [] → ((c : ℕ) → g.boots c ≡ g.first_boot c) → CutsAgree g × CountsAgree g
opening-keeps g idle silent boots = (
  (λ c b s k ks r p o z. absurd (none_some (sym (idle c) ∙ r))),
  record {
    counted = λ c p. ap (λ ss. (watch c ss).starts) silent ∙ zeros (g.boots c) (g.first_boot c) (boots c);
    above = λ c. same-le (g.boots c) (g.first_boot c) (boots c);
  },
)
  where
    zeros : (m n : ℕ) → m ≡ n → 0 ≡ m - n
    zeros m n e = omega (arith, e)

    same-le : (m n : ℕ) → m ≡ n → n ≤ m
    same-le m n e = omega (arith, e)

-- Lines that leave what is untold, and begin no start.
module _ (g : System) (l : Shown) (untold : (c : ℕ) → (watch c (g.ghost.shown ++ l ∷ [])).untold ≡ (watch c g.ghost.shown).untold) (starts : (c : ℕ) → g.running c ≡ None → (watch c (g.ghost.shown ++ l ∷ [])).starts ≡ (watch c g.ghost.shown).starts) where
  pub lined-keeps : CutsAgree g → CountsAgree g → CutsAgree (lined g l) × CountsAgree (lined g l)
  lined-keeps f a = (
    same-cuts g (lined g l) (record { slots = λ c. refl; running = refl; clerks = refl; owner = refl; frozen = refl; is_durable = refl; untold = untold }) f,
    lines-keep-counts g a l starts,
  )

pub silent-keeps : (g : System) → CutsAgree g → CountsAgree g → (l : Shown) → ((c : ℕ) (w : Watch) → watch_next c w l ≡ w) → CutsAgree (lined g l) × CountsAgree (lined g l)
silent-keeps g f a l e = lined-keeps g l (λ c. ap (λ w. w.untold) (watch-step c g.ghost.shown l ∙ e c (watch c g.ghost.shown))) (λ c n. ap (λ w. w.starts) (watch-step c g.ghost.shown l ∙ e c (watch c g.ghost.shown))) f a

pub stop-keeps : (g : System) → CutsAgree g → CountsAgree g → CutsAgree (stopped g) × CountsAgree (stopped g)
stop-keeps g f a = let q = silent-keeps g f a show.Stopped (λ c w. refl) in (
  same-cuts (lined g show.Stopped) (stopped g) (record { slots = λ c. refl; running = refl; clerks = refl; owner = refl; frozen = refl; is_durable = refl; untold = λ c. refl }) q.0,
  record { counted = q.1.counted; above = q.1.above },
)

-- a clerk that runs waits
module _ (g : System) (c b l : ℕ) (cl : Call) (r : g.running c ≡ Some b) where
  begins-untold : (z : Bool) (w : Watch) → (cond z (begun w) w).untold ≡ w.untold
  begins-untold false w = refl
  begins-untold true w = go w.running
    where
      go : (y : Bool) → (cond y w (record w { starts = w.starts + 1; running = true })).untold ≡ w.untold
      go true = refl
      go false = refl

  other : (d : ℕ) → g.running d ≡ None → (d == c) ≡ false
  other d n = go (d == c) refl
    where
      go : (z : Bool) → (d == c) ≡ z → z ≡ false
      go false e = refl
      go true e = absurd (none_some (sym n ∙ ap g.running (equal d c e) ∙ r))

  pub waits-keeps : CutsAgree g → CountsAgree g → CutsAgree (lined g (show.Waits l c cl)) × CountsAgree (lined g (show.Waits l c cl))
  waits-keeps = lined-keeps g (show.Waits l c cl) (λ d. ap (λ w. w.untold) (watch-step d g.ghost.shown (show.Waits l c cl)) ∙ begins-untold (d == c) (watch d g.ghost.shown))
      (λ d n. ap (λ w. w.starts) (watch-step d g.ghost.shown (show.Waits l c cl) ∙ ap (λ z. cond z (begun (watch d g.ghost.shown)) (watch d g.ghost.shown)) (other d n)))
