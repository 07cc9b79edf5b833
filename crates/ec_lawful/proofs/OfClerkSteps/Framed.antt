-- What a clerk's answer leaves: of sessions, stops and starts all facts, and of what is shown logs and images read nothing.
use Rattle.std.proofs.Common.{◌≡◌, refl, sym, ap, subst, ◌∙◌, ◌⊎◌, ◌<◌, ◌≤◌, ℕ, Bool, true, false, not, ◌==◌, ◌&&◌, T, List, [], ◌++◌, Option, Some, None}
use Rattle.std.specs.Prelude.{is_some}
use Rattle.std.proofs.lemmas.Bool.{and_parts}
use Rattle.ec_base.specs.Ages.{is_older}
use Rattle.ec_base.specs.Tables.{Table}
use Rattle.ec_base.specs.declared.ids.Age.{Age}
use Rattle.ec_history.specs.History.{Each, History, Op}
use Rattle.ec_history.specs.declared.shown.Shown.{Shown}
use Rattle.ec_sessions.specs.declared.slot.Slot.{Slot}
use Rattle.ec_wire.specs.Messages.{is_sound}
use Rattle.ec_wire.specs.declared.msg.Msg.{Msg}
use Rattle.ec_wire.specs.declared.msg.Msg.TheVariants.{Hello}
use Rattle.ec_durable.specs.Durable.{slot}
use Rattle.ec_protocol.specs.declared.clerk.Clerk.{Clerk}
use Rattle.ec_coherence.specs.System.{System, is_open, with_start}
use Rattle.ec_coherence.specs.Sessions as sessions
use Rattle.ec_coherence.specs.Sessions.{HasNone, SessionsAgree}
use Rattle.ec_coherence.specs.Log as log
use Rattle.ec_coherence.specs.Log.{LogsAgree}
use Rattle.ec_coherence.specs.Images.{ImagesAgree}
use Rattle.ec_coherence.specs.Stops.{StopsAgree}
use Rattle.ec_coherence.specs.ChangeLaws.{Calls}
use Rattle.ec_coherence.proofs.ForServer.Lists.{each-more, each-turn}
use Rattle.ec_coherence.proofs.ForServer.Tables.{same_some}
use Rattle.ec_coherence.specs.Starts.{Greets, StartsAgree}
use Rattle.ec_lawful.specs.OfClerkSteps.Zeros.{HasNoZero, LeaveOut, ZerosAgree}
use Rattle.ec_base.proofs.Numbers.{equal}

-- Logs and images read none of what is shown.
module _ (g : System) (sh : List Shown) (hi : History) (fr : Table ℕ) where
  abbrev pub telling : System
  telling = record g { ghost = record (g.ghost) { shown = sh; history = hi; fresh = fr } }

  pub logs-told : LogsAgree g → LogsAgree telling
  logs-told a = record {
    writes = each-turn (λ o. T (not (g.ghost.is_durable o)) → log.HasWrites g o) (λ o. T (not (g.ghost.is_durable o)) → log.HasWrites telling o) g.ghost.kept
        (λ o f d. let w = f d in record { session = w.session; clerk = w.clerk; in_place = w.in_place; is_open = w.is_open; own = w.own; writes = w.writes }) a.writes;
    logs = λ s d sl p q o k j. (let l = a.logs s d sl p q o k j in record { knows = l.knows; ids = l.ids });
    starts = λ d b. (let n = a.starts d b in record { from_one = n.from_one; sorted = n.sorted; numbers = n.numbers; none_later = n.none_later });
    closed = a.closed;
    unopened = a.unopened;
    untaken = a.untaken;
    messages = each-turn (λ m. log.Fits g m.1) (λ m. log.Fits telling m.1) g.pool (λ m q. q) a.messages;
    unspent = a.unspent;
    once = a.once;
    apart = a.apart;
    whole = a.whole;
  }

  pub images-told : ImagesAgree g → ImagesAgree telling
  images-told a = record { server = a.server; fits = a.fits; sound = a.sound; origin = a.origin; origin_held = a.origin_held; licences = a.licences; unfrozen = a.unfrozen; unopened = a.unopened; cut_off = a.cut_off; known = a.known; operands = a.operands }

-- The start is this clerk now, and these operations are kept.
module _ (g : System) (c b : ℕ) (k now : Clerk) (at-start : g.clerks c b ≡ Some k) (id : now.id ≡ k.id) (age : now.age ≡ k.age) (session : now.session ≡ k.session) (calls : Calls)
    (ks : List Op) (fz : ℕ → Option (List Op)) (sh : List Shown) (hi : History) (fr : Table ℕ) where
  abbrev pub h : System
  h = record g { clerks = with_start c b now g.clerks; calls = calls; pool = g.pool ++ []; ghost = record (g.ghost) { kept = ks; frozen = fz; shown = sh; history = hi; fresh = fr } }

  -- a fact of each start: of this one now, and of the others
  pub by-start : (P : ℕ → ℕ → Clerk → Type 0) → (P c b k → P c b now) → ((d a : ℕ) (m : Clerk) → g.clerks d a ≡ Some m → P d a m) → (d a : ℕ) (m : Clerk) → h.clerks d a ≡ Some m → P d a m
  by-start P own each d a m = go ((d == c) && (a == b)) refl
    where
      go : (z : Bool) → ((d == c) && (a == b)) ≡ z → elim z as (λ y. Option Clerk) [ true ↦ Some now | false ↦ g.clerks d a ] ≡ Some m → P d a m
      go true e q =
          let two = and_parts (d == c) (a == b) e in
          subst (λ z. P z a m) (sym (equal d c two.0)) (subst (λ z. P c z m) (sym (equal a b two.1)) (subst (P c b) (same_some q) (own (each c b k at-start))))
      go false e q = each d a m q

  there : (d a : ℕ) → T (is_some (g.clerks d a)) → T (is_some (h.clerks d a))
  there d a t = go ((d == c) && (a == b))
    where
      go : (z : Bool) → T (is_some (elim z as (λ y. Option Clerk) [ true ↦ Some now | false ↦ g.clerks d a ]))
      go true = tt
      go false = t

  its-round : (d : ℕ) (a : Age) → ((m : Clerk) → g.clerks d a.boot ≡ Some m → a.round ≤ m.age.round) → (m : Clerk) → h.clerks d a.boot ≡ Some m → a.round ≤ m.age.round
  its-round d a f m q = go ((d == c) && (a.boot == b)) refl q
    where
      go : (z : Bool) → ((d == c) && (a.boot == b)) ≡ z → elim z as (λ y. Option Clerk) [ true ↦ Some now | false ↦ g.clerks d a.boot ] ≡ Some m → a.round ≤ m.age.round
      go true e q =
          let two = and_parts (d == c) (a.boot == b) e in
          subst (λ z. a.round ≤ z.round) (sym age ∙ ap (λ z. z.age) (same_some q)) (f k (ap (λ z. g.clerks z a.boot) (equal d c two.0) ∙ ap (g.clerks c) (equal a.boot b two.1) ∙ at-start))
      go false e q = f m q

  abbrev Tells : ℕ → Age → Option ℕ → Age → Type 0
  Tells r a o x = (T (g.ghost.taken r) → (o ≡ Some r) ⊎ T (is_older a x)) × (T (not (g.ghost.taken r)) → (a ≡ x → o ≡ None) × T (not (is_older a x)))

  message-kept : (d : ℕ) (m : Msg) → sessions.Fits g d m → sessions.Fits h d m
  message-kept d (Hello from a) f = (f.0, f.1, (f.2.0, its-round d a f.2.1))
  message-kept d _ f = f

  pub sessions-stay : (k.session ≡ None → HasNone k → HasNone now) → SessionsAgree g → SessionsAgree h
  sessions-stay none a = record {
    sixteen = a.sixteen;
    next = a.next;
    slots = a.slots;
    owned = a.owned;
    once = a.once;
    taken = a.taken;
    told = λ r o m p q. by-start (λ d x m. (a : Age) → g.ghost.owner r ≡ Some (d, a) → a.boot ≡ x → Tells r a m.session m.age)
        (λ f x y z. subst (λ j. Tells r x j now.age) (sym session) (subst (λ j. Tells r x k.session j) (sym age) (f x y z)))
        (λ d x m q y p e. a.told r (d, y) m p (ap (g.clerks d) e ∙ q)) o.0 (o.1).boot m q o.1 p refl;
    starts = by-start (λ d x m. (m.id ≡ d) × (m.age.boot ≡ x) × (x ≤ g.boots d) × (d < 16)) (λ f. (id ∙ f.0, ap (λ z. z.boot) age ∙ f.1, f.2, f.3)) a.starts;
    rounds = λ d x n m q. by-start (λ d x m. n < m.age.round → (r : ℕ) × (g.ghost.owner r ≡ Some (d, record { boot = x; round = n }))) (λ f l. f (subst (λ z. n < z.round) age l)) (λ d x m q. a.rounds d x n m q) d x m q;
    running = λ d x q. let f = a.running d x q in (f.0, there d x f.1);
    in_session = λ d x r m q. by-start (λ d x m. m.session ≡ Some r → (g.ghost.owner r ≡ Some (d, m.age)) × T (g.ghost.taken r))
        (λ f e. let z = f (sym session ∙ e) in (z.0 ∙ ap (λ y. Some (c, y)) (sym age), z.1)) (λ d x m q. a.in_session d x r m q) d x m q;
    without = by-start (λ d x m. m.session ≡ None → HasNone m) (λ f e. none (sym session ∙ e) (f (sym session ∙ e))) a.without;
    current = λ d x r m p q. by-start (λ d x m. g.running d ≡ Some x → m.session ≡ Some r → (sl : Slot) × (slot g.durable d ≡ Some sl) × (sl.session ≡ r)) (λ f y z. f y (sym session ∙ z)) (λ d x m q p. a.current d x r m p q) d x m q p;
    sound = each-more (λ m. T (is_sound m.1)) g.pool [] a.sound tt;
    messages = each-more (λ m. sessions.Fits h m.0 m.1) g.pool [] (each-turn (λ m. sessions.Fits g m.0 m.1) (λ m. sessions.Fits h m.0 m.1) g.pool (λ m f. message-kept m.0 m.1 f) a.messages) tt;
  }

  pub stops-stay : ((s : ℕ) → T (is_open g s) → fz s ≡ None) → ((s : ℕ) → T (is_some (g.ghost.frozen s)) → T (is_some (fz s))) → StopsAgree g → StopsAgree h
  stops-stay none some a = record { runs = a.runs; doubt = a.doubt; open_sessions = none; ended = λ s o n. some s (a.ended s o n) }

  pub starts-stay : Each (λ o. g.first_boot o.clerk < o.boot) ks → ((s : ℕ) → fz s ≡ None → g.ghost.frozen s ≡ None) → StartsAgree g → StartsAgree h
  starts-stay above back a = record {
    owned = λ r d x p. let f = a.owned r d x p in ((λ z. f.0 (back r z)), its-round d x f.1);
    started = by-start (λ d x m. g.first_boot d < x) (λ f. f) a.started;
    greets = each-more (λ m. Greets g m.0 m.1) g.pool [] a.greets tt;
    above = above;
    alike = a.alike;
  }

  pub zeros-stay : LeaveOut 0 ks → ((s : ℕ) (os : List Op) → fz s ≡ Some os → LeaveOut 0 os) → (HasNoZero k → HasNoZero now) → ZerosAgree g → ZerosAgree h
  zeros-stay kept frozen its a = record {
    origin = a.origin;
    kept = kept;
    frozen = frozen;
    next = a.next;
    first = a.first;
    clerks = by-start (λ d x m. HasNoZero m) its a.clerks;
  }
