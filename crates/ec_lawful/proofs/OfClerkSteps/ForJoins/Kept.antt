-- A clerk's start changes, and goes on at its age, owing what it owed: the facts on the history, on stops, on lines and on starts stay.
use Rattle.std.proofs.Common.{◌≡◌, refl, sym, ap, subst, ◌∙◌, ◌<◌, ◌≤◌, ◌+◌, ℕ, Bool, true, false, ◌==◌, ◌&&◌, T, List, ◌++◌, length, Option, Some, None}
use Rattle.std.specs.Prelude.{is_some}
use Rattle.std.specs.List.{filter}
use Rattle.std.proofs.lemmas.Bool.{and_parts}
use Rattle.ec_base.specs.declared.ids.Age.{Age}
use Rattle.ec_history.specs.History.{Each, Op, owed}
use Rattle.ec_history.specs.Legal.{is_op_of}
use Rattle.ec_history.specs.Placing.{watch}
use Rattle.ec_wire.specs.declared.msg.Msg.{Msg}
use Rattle.ec_wire.specs.declared.msg.Msg.TheVariants.{Hello}
use Rattle.ec_protocol.specs.declared.clerk.Clerk.{Clerk}
use Rattle.ec_coherence.specs.System.{System, base_of, is_of, with_start}
use Rattle.ec_coherence.specs.Sessions as sessions
use Rattle.ec_coherence.specs.Events.{CutAgrees, EventsAgree, IsUncut, shown_boot}
use Rattle.ec_coherence.specs.Log.{Knows}
use Rattle.ec_coherence.specs.Stops.{StopsAgree}
use Rattle.ec_coherence.specs.ChangeLaws.{Calls}
use Rattle.ec_coherence.proofs.ForServer.Lists.{each-more}
use Rattle.ec_coherence.proofs.ForServer.Tables.{same_some}
use Rattle.ec_coherence.specs.CommitLaws.{AllAgree}
use Rattle.ec_coherence.specs.Starts.{Greets, StartsAgree}
use Rattle.ec_coherence.specs.Watches.{WatchesAgree}
use Rattle.ec_lawful.specs.OfClerkSteps.Cuts.{CutKnows, CutsAgree}
use Rattle.ec_base.proofs.Numbers.{equal}

module _ (g : System) (all : AllAgree g) (c b : ℕ) (k now : Clerk) (at-start : g.clerks c b ≡ Some k) (same_age : now.age ≡ k.age) (same_owed : now.owed ≡ k.owed) (same_next : now.log.next ≡ k.log.next)
    (tk : ℕ → Bool) (calls : Calls) (ms : List (ℕ × Msg)) where
  abbrev pub h : System
  h = record g { clerks = with_start c b now g.clerks; calls = calls; pool = g.pool ++ ms; ghost = record (g.ghost) { taken = tk } }

  -- a fact of each start: of this one now, and of the others
  pub by-start : (P : ℕ → ℕ → Clerk → Type 0) → (P c b k → P c b now) → ((d a : ℕ) (m : Clerk) → g.clerks d a ≡ Some m → P d a m) → (d a : ℕ) (m : Clerk) → h.clerks d a ≡ Some m → P d a m
  by-start P own each d a m = go ((d == c) && (a == b)) refl
    where
      go : (z : Bool) → ((d == c) && (a == b)) ≡ z → elim z as (λ y. Option Clerk) [ true ↦ Some now | false ↦ g.clerks d a ] ≡ Some m → P d a m
      go true e q =
          let two = and_parts (d == c) (a == b) e in
          subst (λ z. P z a m) (sym (equal d c two.0)) (subst (λ z. P c z m) (sym (equal a b two.1)) (subst (P c b) (same_some q) (own (each c b k at-start))))
      go false e q = each d a m q

  its-round : (d : ℕ) (a : Age) → ((m : Clerk) → g.clerks d a.boot ≡ Some m → a.round ≤ m.age.round) → (m : Clerk) → h.clerks d a.boot ≡ Some m → a.round ≤ m.age.round
  its-round d a f m q = go ((d == c) && (a.boot == b)) refl q
    where
      go : (z : Bool) → ((d == c) && (a.boot == b)) ≡ z → elim z as (λ y. Option Clerk) [ true ↦ Some now | false ↦ g.clerks d a.boot ] ≡ Some m → a.round ≤ m.age.round
      go true e q =
          let two = and_parts (d == c) (a.boot == b) e in
          subst (λ z. a.round ≤ z.round) (sym same_age ∙ ap (λ z. z.age) (same_some q)) (f k (ap (λ z. g.clerks z a.boot) (equal d c two.0) ∙ ap (g.clerks c) (equal a.boot b two.1) ∙ at-start))
      go false e q = f m q

  pub message-kept : (d : ℕ) (m : Msg) → sessions.Fits g d m → sessions.Fits h d m
  message-kept d (Hello from a) f = (f.0, f.1, (f.2.0, its-round d a f.2.1))
  message-kept d _ f = f

  pub there : (d a : ℕ) → T (is_some (g.clerks d a)) → T (is_some (h.clerks d a))
  there d a t = go ((d == c) && (a == b))
    where
      go : (z : Bool) → T (is_some (elim z as (λ y. Option Clerk) [ true ↦ Some now | false ↦ g.clerks d a ]))
      go true = tt
      go false = t

  was-uncut : IsUncut g c now → IsUncut g c k
  was-uncut n r q = n r (q ∙ ap (λ a. Some (c, a)) (sym same_age))

  cut-stays : (d x r : ℕ) (m n : Clerk) (ks : List Op) → n.owed ≡ m.owed → CutAgrees g d x r m ks → CutAgrees h d x r n ks
  cut-stays d x r m n ks e q = record { before = q.before; at = q.at; lost = q.lost; behind = q.behind; was = q.was; keeps = q.keeps; alone = q.alone; untold = q.untold; owes = q.owes ∙ sym e; frozen = q.frozen; later = q.later }

  cut-again : {r : ℕ} {ks : List Op} → CutAgrees h c b r k ks → CutAgrees h c b r now ks
  cut-again q = record { before = q.before; at = q.at; lost = q.lost; behind = q.behind; was = q.was; keeps = q.keeps; alone = q.alone; untold = q.untold; owes = q.owes ∙ sym same_owed; frozen = q.frozen; later = q.later }

  pub events-stay : EventsAgree h
  events-stay = let a = (all.0).events in record {
    placeable = a.placeable;
    placed = a.placed;
    starts = a.starts;
    untold = λ d x m r q. by-start (λ d x m. g.running d ≡ Some x → IsUncut g d m → (watch d g.ghost.shown).untold ≡ None) (λ f r n. f r (was-uncut n)) (λ d x m q r. a.untold d x m r q) d x m q r;
    keeps = a.keeps;
    legal = a.legal;
    owes = λ d x m r q. by-start (λ d x m. g.running d ≡ Some x → IsUncut g d m → owed (base_of g) g.ghost.history d (shown_boot g d x) ≡ m.owed) (λ f r n. f r (was-uncut n) ∙ sym same_owed) (λ d x m q r. a.owes d x m r q) d x m q r;
    counts = λ d x m r q. by-start (λ d x m. g.running d ≡ Some x → length (filter (is_op_of d (shown_boot g d x)) g.ghost.history) + 1 ≡ m.log.next) (λ f r. f r ∙ sym same_next) (λ d x m q r. a.counts d x m r q) d x m q r;
    covered = a.covered;
    untouched = a.untouched;
    cuts = λ d x r m ks p q w z. by-start (λ d x m. g.running d ≡ Some x → g.ghost.owner r ≡ Some (d, m.age) → CutAgrees h d x r m ks)
        (λ f y e. cut-again (f y (e ∙ ap (λ a. Some (c, a)) same_age))) (λ d x m q p w. cut-stays d x r m m ks refl (a.cuts d x r m ks p q w z)) d x m q p w;
  }

  pub stops-stay : StopsAgree h
  stops-stay = let a = (all.0).stops in record { runs = a.runs; doubt = a.doubt; open_sessions = a.open_sessions; ended = a.ended }

  pub watches-stay : WatchesAgree h
  watches-stay d = let w = all.1 d in record { running = w.running; early = w.early; still = w.still; unseen = w.unseen; open_start = w.open_start; crashed = w.crashed }

  pub starts-stay : Each (λ m. Greets g m.0 m.1) ms → StartsAgree h
  starts-stay greets = let a = all.3 in record {
    owned = λ r d x p. let f = a.owned r d x p in (f.0, its-round d x f.1);
    started = by-start (λ d x m. g.first_boot d < x) (λ f. f) a.started;
    greets = each-more (λ m. Greets g m.0 m.1) g.pool ms a.greets greets;
    above = a.above;
    alike = a.alike;
  }

  -- and its log
  pub cuts-stay : now.log ≡ k.log → CutsAgree g → CutsAgree h
  cuts-stay same_log f d x s m ks r p = by-start (λ d x m. g.running d ≡ Some x → g.ghost.owner s ≡ Some (d, m.age) → g.ghost.frozen s ≡ Some ks → CutKnows h d s m ks)
      (λ y r o z. let q = y r (o ∙ ap (λ a. Some (c, a)) same_age) z in record { knows = λ sl i. subst (λ l. Knows l sl.window (filter (is_of (g.ghost.owner s)) ks) g.ghost.is_durable) (sym same_log) (q.knows sl i); untold = q.untold })
      (λ d x m p r o z. let q = f d x s m ks r p o z in record { knows = q.knows; untold = q.untold }) d x m p r
