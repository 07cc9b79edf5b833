-- All facts behind a line that says nothing of clerks.
use Rattle.std.proofs.Common.{◌≡◌, refl, sym, ap, ◌∙◌, ℕ, false, List, [], ◌∷◌, ◌++◌, append-nil}
use Rattle.ec_history.specs.History.{Op}
use Rattle.ec_history.specs.Placing.{MayFollow, begun, is_call_of, line_entries, place, watch, watch_next}
use Rattle.ec_history.specs.declared.watch.Watch.{Watch}
use Rattle.ec_history.specs.declared.shown.Shown.{Shown}
use Rattle.ec_history.specs.declared.shown.Shown.TheVariants.{Nothing, Started, Stopped}
use Rattle.ec_history.proofs.OfLaws.ForPlacing.Cuts.{placeable-step}
use Rattle.ec_history.proofs.OfLaws.ForPlacing.Late.{place-no_call}
use Rattle.ec_history.proofs.OfLaws.ForPlacing.More.{watch-step}
use Rattle.ec_protocol.specs.declared.clerk.Clerk.{Clerk}
use Rattle.ec_coherence.specs.System.{System}
use Rattle.ec_coherence.specs.Events.{CutAgrees, EventsAgree}
use Rattle.ec_coherence.specs.BatchLaws.{BatchFacts}
use Rattle.ec_coherence.specs.CommitLaws.{AllAgree}
use Rattle.ec_coherence.specs.Starts.{StartsAgree}
use Rattle.ec_coherence.specs.Watches.{WatchesAgree}
use Rattle.ec_coherence.proofs.ForCommits.Shown.{lines-agree}
use Rattle.ec_coherence.specs.StandLaws.{lined}

module _ (g : System) (all : AllAgree g) (l : Shown) (plain : (d : ℕ) → is_call_of d l ≡ false) (none : (past rest : List Shown) → line_entries past l rest ≡ []) (same : (d : ℕ) (w : Watch) → watch_next d w l ≡ w) (may : (past : List Shown) → MayFollow past l) where
  abbrev h : System
  h = lined g l

  agrees : BatchFacts h
  agrees = lines-agree g (g.ghost.shown ++ l ∷ []) g.ghost.history g.ghost.fresh (let i = all.0 in record { sessions = i.sessions; tokens = i.tokens; logs = i.logs; images = i.images })

  watched : (d : ℕ) → watch d (g.ghost.shown ++ l ∷ []) ≡ watch d g.ghost.shown
  watched d = watch-step d g.ghost.shown l ∙ same d (watch d g.ghost.shown)

  events : EventsAgree h
  events = let a = (all.0).events in record {
    placeable = placeable-step g.ghost.shown l a.placeable (may g.ghost.shown);
    placed = place-no_call g.ghost.shown l plain ∙ ap (λ es. place g.ghost.shown ++ es) (none g.ghost.shown []) ∙ append-nil (place g.ghost.shown) ∙ a.placed;
    starts = λ d b r. ap (λ w. (begun w).starts) (watched d) ∙ a.starts d b r;
    untold = λ d b k r q n. ap (λ w. w.untold) (watched d) ∙ a.untold d b k r q n;
    keeps = a.keeps;
    legal = a.legal;
    owes = a.owes;
    counts = a.counts;
    covered = a.covered;
    untouched = a.untouched;
    cuts = λ d b s k ks r q m z. cut d b s k ks (a.cuts d b s k ks r q m z);
  }
    where
      cut : (d b s : ℕ) (k : Clerk) (ks : List Op) → CutAgrees g d b s k ks → CutAgrees h d b s k ks
      cut d b s k ks q = record { before = q.before; at = q.at; lost = q.lost; behind = q.behind; was = q.was; keeps = q.keeps; alone = q.alone; untold = ap (λ w. w.untold) (watched d) ∙ q.untold; owes = q.owes; frozen = q.frozen; later = q.later }

  watches : WatchesAgree h
  watches d = let w = all.1 d in let e = watched d in record {
    running = ap (λ z. z.running) e ∙ w.running;
    early = ap (λ z. z.early) e ∙ w.early;
    still = ap (λ z. z.undurable) e ∙ w.still;
    unseen = λ y. ap (λ z. z.undurable) e ∙ w.unseen (sym (ap (λ z. z.open_start) e) ∙ y);
    open_start = λ a y. w.open_start a (sym (ap (λ z. z.open_start) e) ∙ y);
    crashed = λ a y m r. ap (λ z. z.crashed) e ∙ w.crashed a y m r;
  }

  starts : StartsAgree h
  starts = let a = all.3 in record { owned = a.owned; started = a.started; greets = a.greets; above = a.above; alike = a.alike }

  pub lines-stand : AllAgree h
  lines-stand = (
    record { sessions = agrees.sessions; tokens = agrees.tokens; logs = agrees.logs; images = agrees.images; events = events; stops = (let a = (all.0).stops in record { runs = a.runs; doubt = a.doubt; open_sessions = a.open_sessions; ended = a.ended }) },
    watches,
    all.2,
    starts,
  )

pub started-stands : (g : System) → AllAgree g → AllAgree (lined g Started)
started-stands g all = lines-stand g all Started (λ d. refl) (λ past rest. refl) (λ d w. refl) (λ past. tt)

pub stopped-line-stands : (g : System) → AllAgree g → AllAgree (lined g Stopped)
stopped-line-stands g all = lines-stand g all Stopped (λ d. refl) (λ past rest. refl) (λ d w. refl) (λ past. tt)

pub nothing-stands : (g : System) → AllAgree g → AllAgree (lined g Nothing)
nothing-stands g all = lines-stand g all Nothing (λ d. refl) (λ past rest. refl) (λ d w. refl) (λ past. tt)
