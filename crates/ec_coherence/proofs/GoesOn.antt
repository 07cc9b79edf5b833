-- All facts behind a change of a clerk that is in a session: those on sessions, on the history, on stops, on lines and on starts read nothing else of it.
use Rattle.std.proofs.Common.{◌≡◌, refl, sym, ap, subst, ◌∙◌, ◌⊎◌, ◌<◌, ◌≤◌, ◌+◌, ℕ, Bool, true, false, not, ◌==◌, ◌&&◌, T, List, length, Option, Some, None}
use Rattle.std.specs.Prelude.{is_some}
use Rattle.std.specs.List.{filter}
use Rattle.std.proofs.lemmas.Bool.{and_parts}
use Rattle.ec_base.specs.Ages.{is_older}
use Rattle.ec_base.specs.declared.ids.Age.{Age}
use Rattle.ec_history.specs.History.{Op, owed}
use Rattle.ec_history.specs.Legal.{is_op_of}
use Rattle.ec_history.specs.Placing.{watch}
use Rattle.ec_sessions.specs.declared.slot.Slot.{Slot}
use Rattle.ec_wire.specs.Messages.{is_sound}
use Rattle.ec_wire.specs.declared.msg.Msg.{Msg}
use Rattle.ec_wire.specs.declared.msg.Msg.TheVariants.{Hello}
use Rattle.ec_durable.specs.Durable.{slot}
use Rattle.ec_protocol.specs.declared.clerk.Clerk.{Clerk}
use Rattle.ec_coherence.specs.System.{System, base_of}
use Rattle.ec_coherence.specs.Sessions as sessions
use Rattle.ec_coherence.specs.Sessions.{HasNone, SessionsAgree}
use Rattle.ec_coherence.specs.Tokens.{TokensAgree, view}
use Rattle.ec_coherence.specs.Events.{CutAgrees, EventsAgree, IsUncut, shown_boot}
use Rattle.ec_coherence.specs.Stops.{StopsAgree}
use Rattle.ec_coherence.specs.ChangeLaws.{Calls, IsInIt, LogsAndImages, with_clerk}
use Rattle.ec_coherence.proofs.ForServer.Lists.{each-more, each-turn}
use Rattle.ec_coherence.proofs.ForServer.Tables.{same_some}
use Rattle.ec_coherence.specs.CommitLaws.{AllAgree}
use Rattle.ec_coherence.specs.Starts.{Greets, StartsAgree}
use Rattle.ec_coherence.specs.Watches.{WatchesAgree}
use Rattle.ec_coherence.specs.StandLaws.{AreSent, SessionGoesOn}
use Rattle.ec_base.proofs.Options.{none_some}
use Rattle.ec_base.proofs.Numbers.{equal}

module _ (g : System) (all : AllAgree g) (c s : ℕ) (age : Age) (k now : Clerk) (in-it : IsInIt g c s age k) (on : SessionGoesOn k now) (calls : Calls) (ms : List (ℕ × Msg)) (sent : AreSent g ms) where
  abbrev b : ℕ
  b = age.boot

  abbrev h : System
  h = with_clerk g c b now calls ms

  at-start : g.clerks c b ≡ Some k
  at-start = (in-it.start).stands

  -- a fact of each start: of this one now, and of the others
  by-start : (P : ℕ → ℕ → Clerk → Type 0) → (P c b k → P c b now) → ((d a : ℕ) (m : Clerk) → g.clerks d a ≡ Some m → P d a m) → (d a : ℕ) (m : Clerk) → h.clerks d a ≡ Some m → P d a m
  by-start P own each d a m = go ((d == c) && (a == b)) refl
    where
      go : (z : Bool) → ((d == c) && (a == b)) ≡ z → elim z as (λ y. Option Clerk) [ true ↦ Some now | false ↦ g.clerks d a ] ≡ Some m → P d a m
      go true e q =
          let two = and_parts (d == c) (a == b) e in
          subst (λ z. P z a m) (sym (equal d c two.0)) (subst (λ z. P c z m) (sym (equal a b two.1)) (subst (P c b) (same_some q) (own (each c b k at-start))))
      go false e q = each d a m q

  abbrev Tells : ℕ → Age → Option ℕ → Age → Type 0
  Tells r a o x = (T (g.ghost.taken r) → (o ≡ Some r) ⊎ T (is_older a x)) × (T (not (g.ghost.taken r)) → (a ≡ x → o ≡ None) × T (not (is_older a x)))

  its-round : (d : ℕ) (a : Age) → ((m : Clerk) → g.clerks d a.boot ≡ Some m → a.round ≤ m.age.round) → (m : Clerk) → h.clerks d a.boot ≡ Some m → a.round ≤ m.age.round
  its-round d a f m q = go ((d == c) && (a.boot == b)) refl q
    where
      go : (z : Bool) → ((d == c) && (a.boot == b)) ≡ z → elim z as (λ y. Option Clerk) [ true ↦ Some now | false ↦ g.clerks d a.boot ] ≡ Some m → a.round ≤ m.age.round
      go true e q =
          let two = and_parts (d == c) (a.boot == b) e in
          subst (λ z. a.round ≤ z.round) (sym on.age ∙ ap (λ z. z.age) (same_some q)) (f k (ap (λ z. g.clerks z a.boot) (equal d c two.0) ∙ ap (g.clerks c) (equal a.boot b two.1) ∙ at-start))
      go false e q = f m q

  message-kept : (d : ℕ) (m : Msg) → sessions.Fits g d m → sessions.Fits h d m
  message-kept d (Hello from a) f = (f.0, f.1, (f.2.0, its-round d a f.2.1))
  message-kept d _ f = f

  there : (d a : ℕ) → T (is_some (g.clerks d a)) → T (is_some (h.clerks d a))
  there d a t = go ((d == c) && (a == b))
    where
      go : (z : Bool) → T (is_some (elim z as (λ y. Option Clerk) [ true ↦ Some now | false ↦ g.clerks d a ]))
      go true = tt
      go false = t

  sessions-stay : SessionsAgree h
  sessions-stay = let a = (all.0).sessions in record {
    sixteen = a.sixteen;
    next = a.next;
    slots = a.slots;
    owned = a.owned;
    once = a.once;
    taken = a.taken;
    told = λ r o m p q. by-start (λ d x m. (a : Age) → g.ghost.owner r ≡ Some (d, a) → a.boot ≡ x → Tells r a m.session m.age)
        (λ f x y z. subst (λ j. Tells r x j now.age) (sym on.session) (subst (λ j. Tells r x k.session j) (sym on.age) (f x y z)))
        (λ d x m q y p e. a.told r (d, y) m p (ap (g.clerks d) e ∙ q)) o.0 (o.1).boot m q o.1 p refl;
    starts = by-start (λ d x m. (m.id ≡ d) × (m.age.boot ≡ x) × (x ≤ g.boots d) × (d < 16)) (λ f. (on.id ∙ f.0, ap (λ z. z.boot) on.age ∙ f.1, f.2, f.3)) a.starts;
    rounds = λ d x n m q. by-start (λ d x m. n < m.age.round → (r : ℕ) × (g.ghost.owner r ≡ Some (d, record { boot = x; round = n }))) (λ f l. f (subst (λ z. n < z.round) on.age l)) (λ d x m q. a.rounds d x n m q) d x m q;
    running = λ d x q. let f = a.running d x q in (f.0, there d x f.1);
    in_session = λ d x r m q. by-start (λ d x m. m.session ≡ Some r → (g.ghost.owner r ≡ Some (d, m.age)) × T (g.ghost.taken r))
        (λ f e. let z = f (sym on.session ∙ e) in (z.0 ∙ ap (λ y. Some (c, y)) (sym on.age), z.1)) (λ d x m q. a.in_session d x r m q) d x m q;
    without = by-start (λ d x m. m.session ≡ None → HasNone m) (λ f e. absurd (none_some (sym e ∙ on.session ∙ in-it.session))) a.without;
    current = λ d x r m p q. by-start (λ d x m. g.running d ≡ Some x → m.session ≡ Some r → (sl : Slot) × (slot g.durable d ≡ Some sl) × (sl.session ≡ r)) (λ f y z. f y (sym on.session ∙ z)) (λ d x m q p. a.current d x r m p q) d x m q p;
    sound = each-more (λ m. T (is_sound m.1)) g.pool ms a.sound (each-turn (λ m. sessions.Fits g m.0 m.1 × T (is_sound m.1) × Greets g m.0 m.1) (λ m. T (is_sound m.1)) ms (λ m f. f.1) sent);
    messages = each-more (λ m. sessions.Fits h m.0 m.1) g.pool ms (each-turn (λ m. sessions.Fits g m.0 m.1) (λ m. sessions.Fits h m.0 m.1) g.pool (λ m f. message-kept m.0 m.1 f) a.messages)
        (each-turn (λ m. sessions.Fits g m.0 m.1 × T (is_sound m.1) × Greets g m.0 m.1) (λ m. sessions.Fits h m.0 m.1) ms (λ m f. message-kept m.0 m.1 f.0) sent);
  }

  -- The history.

  was-uncut : IsUncut g c now → IsUncut g c k
  was-uncut n r q = n r (q ∙ ap (λ a. Some (c, a)) (sym on.age))

  cut-stays : (d x r : ℕ) (m m' : Clerk) (ks : List Op) → m'.owed ≡ m.owed → CutAgrees g d x r m ks → CutAgrees h d x r m' ks
  cut-stays d x r m m' ks e q = record { before = q.before; at = q.at; lost = q.lost; behind = q.behind; was = q.was; keeps = q.keeps; alone = q.alone; untold = q.untold; owes = q.owes ∙ sym e; frozen = q.frozen; later = q.later }

  events-stay : EventsAgree h
  events-stay = let a = (all.0).events in record {
    placeable = a.placeable;
    placed = a.placed;
    starts = a.starts;
    untold = λ d x m r q. by-start (λ d x m. g.running d ≡ Some x → IsUncut g d m → (watch d g.ghost.shown).untold ≡ None) (λ f r n. f r (was-uncut n)) (λ d x m q r. a.untold d x m r q) d x m q r;
    keeps = a.keeps;
    legal = a.legal;
    owes = λ d x m r q. by-start (λ d x m. g.running d ≡ Some x → IsUncut g d m → owed (base_of g) g.ghost.history d (shown_boot g d x) ≡ m.owed) (λ f r n. f r (was-uncut n) ∙ sym on.owed) (λ d x m q r. a.owes d x m r q) d x m q r;
    counts = λ d x m r q. by-start (λ d x m. g.running d ≡ Some x → length (filter (is_op_of d (shown_boot g d x)) g.ghost.history) + 1 ≡ m.log.next) (λ f r. f r ∙ sym on.next) (λ d x m q r. a.counts d x m r q) d x m q r;
    covered = a.covered;
    untouched = a.untouched;
    cuts = λ d x r m ks p q w z. by-start (λ d x m. g.running d ≡ Some x → g.ghost.owner r ≡ Some (d, m.age) → CutAgrees h d x r m ks)
        (λ f y e. cut-again (f y (e ∙ ap (λ a. Some (c, a)) on.age))) (λ d x m q p w. cut-stays d x r m m ks refl (a.cuts d x r m ks p q w z)) d x m q p w;
  }
    where
      cut-again : {r : ℕ} {ks : List Op} → CutAgrees h c b r k ks → CutAgrees h c b r now ks
      cut-again q = record { before = q.before; at = q.at; lost = q.lost; behind = q.behind; was = q.was; keeps = q.keeps; alone = q.alone; untold = q.untold; owes = q.owes ∙ sym on.owed; frozen = q.frozen; later = q.later }

  stops-stay : StopsAgree h
  stops-stay = let a = (all.0).stops in record { runs = a.runs; doubt = a.doubt; open_sessions = a.open_sessions; ended = a.ended }

  watches-stay : WatchesAgree h
  watches-stay d = let w = all.1 d in record { running = w.running; early = w.early; still = w.still; unseen = w.unseen; open_start = w.open_start; crashed = w.crashed }

  starts-stay : StartsAgree h
  starts-stay = let a = all.3 in record {
    owned = λ r d x p. let f = a.owned r d x p in (f.0, its-round d x f.1);
    started = by-start (λ d x m. g.first_boot d < x) (λ f. f) a.started;
    greets = each-more (λ m. Greets g m.0 m.1) g.pool ms a.greets (each-turn (λ m. sessions.Fits g m.0 m.1 × T (is_sound m.1) × Greets g m.0 m.1) (λ m. Greets g m.0 m.1) ms (λ m f. f.2) sent);
    above = a.above;
    alike = a.alike;
  }

  pub changes-stand : TokensAgree (view h) → LogsAndImages h → AllAgree h
  changes-stand tokens both = (
    record { sessions = sessions-stay; tokens = tokens; logs = both.0; images = both.1; events = events-stay; stops = stops-stay },
    watches-stay,
    all.2,
    starts-stay,
  )
