-- All facts behind the crash of a start.
use Rattle.std.proofs.Common.{◌≡◌, refl, sym, ap, subst, ◌∙◌, ℕ, Bool, true, false, not, ◌==◌, ◌&&◌, cond, T, List, [], ◌∷◌, ◌++◌, Option, Some, None, append-nil}
use Rattle.std.specs.Prelude.{is_some}
use Rattle.ec_history.specs.History.{Op}
use Rattle.ec_history.specs.Placing.{begun, place, watch}
use Rattle.ec_history.specs.declared.watch.Watch.{Watch}
use Rattle.ec_history.specs.declared.shown.Shown.{Shown}
use Rattle.ec_history.specs.declared.shown.Shown.TheVariants as show
use Rattle.ec_history.proofs.OfLaws.ForPlacing.Cuts.{placeable-step}
use Rattle.ec_history.proofs.OfLaws.ForPlacing.Late.{place-no_call}
use Rattle.ec_history.proofs.OfLaws.ForPlacing.More.{watch-step}
use Rattle.ec_protocol.specs.declared.clerk.Clerk.{Clerk}
use Rattle.ec_coherence.specs.System.{System}
use Rattle.ec_coherence.specs.Sessions as sessions
use Rattle.ec_coherence.specs.Sessions.{SessionsAgree}
use Rattle.ec_coherence.specs.Log as log
use Rattle.ec_coherence.specs.Log.{LogsAgree}
use Rattle.ec_coherence.specs.Images.{ImagesAgree}
use Rattle.ec_coherence.specs.Events.{CutAgrees, EventsAgree}
use Rattle.ec_coherence.proofs.ForServer.Lists.{each-turn}
use Rattle.ec_coherence.proofs.ForServer.Tables.{by-session}
use Rattle.ec_coherence.specs.CommitLaws.{AllAgree}
use Rattle.ec_coherence.specs.Starts.{StartsAgree}
use Rattle.ec_coherence.specs.Watches.{WatchAgrees, WatchesAgree}
use Rattle.ec_coherence.specs.StandLaws.{crashed}
use Rattle.ec_base.proofs.Numbers.{same-self as same}
use Rattle.ec_base.proofs.Options.{none_some}

module _ (g : System) (all : AllAgree g) (c : ℕ) where
  abbrev h : System
  h = crashed g c

  abbrev line : Shown
  line = show.Crashed c

  abbrev down : Watch → Watch
  down w = record w { running = false; early = []; untold = None; crashed = true }

  -- who runs then ran before, and is another one
  fewer : (f b : ℕ) → h.running f ≡ Some b → (g.running f ≡ Some b) × ((f == c) ≡ false)
  fewer f b q = go (f == c) refl q
    where
      go : (z : Bool) → (f == c) ≡ z → elim z as (λ y. Option ℕ) [ true ↦ None | false ↦ g.running f ] ≡ Some b → (g.running f ≡ Some b) × ((f == c) ≡ false)
      go true e q = absurd (none_some q)
      go false e q = (q, e)

  watched : (f : ℕ) → watch f (g.ghost.shown ++ line ∷ []) ≡ cond (f == c) (down (watch f g.ghost.shown)) (watch f g.ghost.shown)
  watched f = watch-step f g.ghost.shown line

  watched-other : (f : ℕ) → (f == c) ≡ false → watch f (g.ghost.shown ++ line ∷ []) ≡ watch f g.ghost.shown
  watched-other f n = watched f ∙ ap (λ z. cond z (down (watch f g.ghost.shown)) (watch f g.ghost.shown)) n

  sessions-stay : SessionsAgree h
  sessions-stay = let a = (all.0).sessions in record {
    sixteen = a.sixteen;
    next = a.next;
    slots = a.slots;
    owned = a.owned;
    once = a.once;
    taken = a.taken;
    told = a.told;
    starts = a.starts;
    rounds = a.rounds;
    running = λ f b q. a.running f b (fewer f b q).0;
    in_session = a.in_session;
    without = a.without;
    current = λ f b s k q. a.current f b s k (fewer f b q).0;
    sound = a.sound;
    messages = each-turn (λ m. sessions.Fits g m.0 m.1) (λ m. sessions.Fits h m.0 m.1) g.pool (λ m q. q) a.messages;
  }

  logs-stay : LogsAgree h
  logs-stay = let a = (all.0).logs in record {
    writes = each-turn (λ o. T (not (g.ghost.is_durable o)) → log.HasWrites g o) (λ o. T (not (g.ghost.is_durable o)) → log.HasWrites h o) g.ghost.kept
        (λ o f d. let w = f d in record { session = w.session; clerk = w.clerk; in_place = w.in_place; is_open = w.is_open; own = w.own; writes = w.writes }) a.writes;
    logs = λ s d sl p q o k j. (let l = a.logs s d sl p q o k j in record { knows = l.knows; ids = l.ids });
    starts = λ d b. (let n = a.starts d b in record { from_one = n.from_one; sorted = n.sorted; numbers = n.numbers; none_later = n.none_later });
    closed = a.closed;
    unopened = a.unopened;
    untaken = a.untaken;
    messages = each-turn (λ m. log.Fits g m.1) (λ m. log.Fits h m.1) g.pool (λ m q. q) a.messages;
    unspent = a.unspent;
    once = a.once;
    apart = a.apart;
    whole = a.whole;
  }

  images-stay : ImagesAgree h
  images-stay = let a = (all.0).images in record { server = a.server; fits = a.fits; sound = a.sound; origin = a.origin; origin_held = a.origin_held; licences = a.licences; unfrozen = a.unfrozen; unopened = a.unopened; cut_off = a.cut_off; known = a.known; operands = a.operands }

  cut : (f b s : ℕ) (k : Clerk) (ks : List Op) → (f == c) ≡ false → CutAgrees g f b s k ks → CutAgrees h f b s k ks
  cut f b s k ks n q = record { before = q.before; at = q.at; lost = q.lost; behind = q.behind; was = q.was; keeps = q.keeps; alone = q.alone; untold = ap (λ w. w.untold) (watched-other f n) ∙ q.untold; owes = q.owes; frozen = q.frozen; later = q.later }

  events-stay : EventsAgree h
  events-stay = let a = (all.0).events in record {
    placeable = placeable-step g.ghost.shown line a.placeable tt;
    placed = place-no_call g.ghost.shown line (λ d. refl) ∙ append-nil (place g.ghost.shown) ∙ a.placed;
    starts = λ f b q. let r = fewer f b q in ap (λ w. (begun w).starts) (watched-other f r.1) ∙ a.starts f b r.0;
    untold = λ f b k q p n. let r = fewer f b q in ap (λ w. w.untold) (watched-other f r.1) ∙ a.untold f b k r.0 p n;
    keeps = a.keeps;
    legal = a.legal;
    owes = λ f b k q p n. a.owes f b k (fewer f b q).0 p n;
    counts = λ f b k q p. a.counts f b k (fewer f b q).0 p;
    covered = a.covered;
    untouched = a.untouched;
    cuts = λ f b s k ks q p m z. let r = fewer f b q in cut f b s k ks r.1 (a.cuts f b s k ks r.0 p m z);
  }

  watches-stay : WatchesAgree h
  watches-stay f = by-session c f (λ z. WatchAgrees h z (watch z (g.ghost.shown ++ line ∷ []))) own other
    where
      own : WatchAgrees h c (watch c (g.ghost.shown ++ line ∷ []))
      own = subst (WatchAgrees h c) (sym (watched c ∙ ap (λ z. cond z (down (watch c g.ghost.shown)) (watch c g.ghost.shown)) (same c))) (record {
        running = sym (ap (λ z. is_some (elim z as (λ y. Option ℕ) [ true ↦ None | false ↦ g.running c ])) (same c));
        early = refl;
        still = (all.1 c).still;
        unseen = (all.1 c).unseen;
        open_start = (all.1 c).open_start;
        crashed = λ a y m r. refl;
      })

      other : (f == c) ≡ false → WatchAgrees h f (watch f (g.ghost.shown ++ line ∷ []))
      other n = subst (WatchAgrees h f) (sym (watched-other f n)) (let x = all.1 f in record {
        running = x.running ∙ sym (ap (λ z. is_some (elim z as (λ y. Option ℕ) [ true ↦ None | false ↦ g.running f ])) n);
        early = x.early;
        still = x.still;
        unseen = x.unseen;
        open_start = x.open_start;
        crashed = λ a y m r. x.crashed a y m (sym (ap (λ z. is_some (elim z as (λ q. Option ℕ) [ true ↦ None | false ↦ g.running f ]) && (a == g.boots f)) n) ∙ r);
      })

  starts-stay : StartsAgree h
  starts-stay = let a = all.3 in record { owned = a.owned; started = a.started; greets = a.greets; above = a.above; alike = a.alike }

  pub crashes-stand : AllAgree h
  crashes-stand = (
    record { sessions = sessions-stay; tokens = (all.0).tokens; logs = logs-stay; images = images-stay; events = events-stay; stops = (let a = (all.0).stops in record { runs = a.runs; doubt = a.doubt; open_sessions = a.open_sessions; ended = a.ended }) },
    watches-stay,
    all.2,
    starts-stay,
  )
