-- A clerk without a session changes in what no fact reads of it.
use Rattle.std.proofs.Common.{◌≡◌, refl, sym, ap, subst, ◌∙◌, ◌⊎◌, ◌<◌, ◌≤◌, ℕ, Bool, true, false, not, ◌==◌, ◌&&◌, T, List, Option, Some, None}
use Rattle.std.proofs.lemmas.Bool.{and_parts}
use Rattle.ec_base.specs.Ages.{is_older}
use Rattle.ec_base.specs.declared.ids.Age.{Age}
use Rattle.ec_history.specs.History.{Each}
use Rattle.ec_sessions.specs.declared.slot.Slot.{Slot}
use Rattle.ec_wire.specs.Messages.{is_sound}
use Rattle.ec_wire.specs.declared.msg.Msg.{Msg}
use Rattle.ec_durable.specs.Durable.{slot}
use Rattle.ec_protocol.specs.declared.clerk.Clerk.{Clerk}
use Rattle.ec_coherence.specs.System.{System, clerk_of, if_in, with_start}
use Rattle.ec_coherence.specs.Sessions as sessions
use Rattle.ec_coherence.specs.Sessions.{HasNone, SessionsAgree}
use Rattle.ec_coherence.specs.Tokens.{Fits, side, view}
use Rattle.ec_coherence.specs.Log as log
use Rattle.ec_coherence.specs.Log.{next_of}
use Rattle.ec_coherence.specs.ChangeLaws.{Calls, with_clerk}
use Rattle.ec_coherence.proofs.ForServer.Lists.{each-more, each-turn}
use Rattle.ec_coherence.specs.CommitLaws.{AllAgree}
use Rattle.ec_coherence.specs.Starts.{Greets}
use Rattle.ec_coherence.specs.StandLaws.{AreSent, SessionGoesOn}
use Rattle.ec_lawful.specs.OfClerkSteps.Cuts.{CutsAgree}
use Rattle.ec_lawful.proofs.OfClerkSteps.ForJoins.Kept as kept
use Rattle.ec_lawful.proofs.OfClerkSteps.ForJoins.SameIn as still
use Rattle.ec_protocol.specs.Clerk.{is_session}
use Rattle.ec_base.proofs.Numbers.{equal}

module _ (g : System) (all : AllAgree g) (c b : ℕ) (k now : Clerk) (at-start : g.clerks c b ≡ Some k) (without : k.session ≡ None) (on : SessionGoesOn k now) (same_side : side now ≡ side k) (same_ids : now.ids ≡ k.ids) (same_log : now.log ≡ k.log) (same_asking : now.asking ≡ k.asking)
    (calls : Calls) (ms : List (ℕ × Msg)) (sent : AreSent g ms) (fits : Each (λ m. Fits (view g) m.1) ms) (logs : Each (λ m. log.Fits g m.1) ms) where
  abbrev h : System
  h = with_clerk g c b now calls ms

  in-none : (t : ℕ) (m : Clerk) → m.session ≡ None → if_in t (Some m) ≡ None
  in-none t m e = ap (λ z. elim (is_session t z) as (λ z. Option Clerk) [ true ↦ Some m | false ↦ None ]) e

  same-in : (t : ℕ) → clerk_of t (g.ghost.owner t) (with_start c b now g.clerks) ≡ clerk_of t (g.ghost.owner t) g.clerks
  same-in t = go (g.ghost.owner t)
    where
      go : (o : Option (ℕ × Age)) → clerk_of t o (with_start c b now g.clerks) ≡ clerk_of t o g.clerks
      go None = refl
      go (Some o) = by ((o.0 == c) && ((o.1).boot == b)) refl
        where
          by : (z : Bool) → ((o.0 == c) && ((o.1).boot == b)) ≡ z → if_in t (elim z as (λ y. Option Clerk) [ true ↦ Some now | false ↦ g.clerks o.0 (o.1).boot ]) ≡ if_in t (g.clerks o.0 (o.1).boot)
          by false e = refl
          by true e =
              let two = and_parts (o.0 == c) ((o.1).boot == b) e in
              in-none t now (on.session ∙ without) ∙ sym (ap (if_in t) (ap (λ z. g.clerks z (o.1).boot) (equal o.0 c two.0) ∙ ap (g.clerks c) (equal (o.1).boot b two.1) ∙ at-start) ∙ in-none t k without)

  same-next : (d a : ℕ) → next_of (with_start c b now g.clerks d a) ≡ next_of (g.clerks d a)
  same-next d a = by ((d == c) && (a == b)) refl
    where
      by : (z : Bool) → ((d == c) && (a == b)) ≡ z → next_of (elim z as (λ y. Option Clerk) [ true ↦ Some now | false ↦ g.clerks d a ]) ≡ next_of (g.clerks d a)
      by false e = refl
      by true e =
          let two = and_parts (d == c) (a == b) e in
          ap (λ l. l.next) same_log ∙ sym (ap next_of (ap (λ z. g.clerks z a) (equal d c two.0) ∙ ap (g.clerks c) (equal a b two.1) ∙ at-start))

  by-start : (P : ℕ → ℕ → Clerk → Type 0) → (P c b k → P c b now) → ((d a : ℕ) (m : Clerk) → g.clerks d a ≡ Some m → P d a m) → (d a : ℕ) (m : Clerk) → h.clerks d a ≡ Some m → P d a m
  by-start = kept.by-start g all c b k now at-start on.age on.owed on.next g.ghost.taken calls ms

  none-now : HasNone k → HasNone now
  none-now n = record {
    epoch = ap (λ z. z.epoch) same_side ∙ n.epoch;
    cache = ap (λ z. z.cache) same_side ∙ n.cache ∙ ap (λ z. Rattle.ec_cache.specs.Cache.empty (z.cache).capacity) (sym same_side);
    undurable = ap (λ l. l.undurable) same_log ∙ n.undurable;
    batches = ap (λ l. l.batches) same_log ∙ n.batches;
    next_batch = ap (λ l. l.next_batch) same_log ∙ n.next_batch;
    first = ap (λ l. l.first) same_log ∙ n.first ∙ ap (λ l. l.next) (sym same_log);
    recalls = ap (λ z. z.recalls) same_side ∙ n.recalls;
    ids = same_ids ∙ n.ids;
    got = ap (λ z. z.got) same_side ∙ n.got;
    asking = same_asking ∙ n.asking;
  }

  abbrev Tells : ℕ → Age → Option ℕ → Age → Type 0
  Tells r a o x = (T (g.ghost.taken r) → (o ≡ Some r) ⊎ T (is_older a x)) × (T (not (g.ghost.taken r)) → (a ≡ x → o ≡ None) × T (not (is_older a x)))

  sessions-stay : SessionsAgree h
  sessions-stay = let a = (all.0).sessions in record {
    sixteen = a.sixteen;
    next = a.next;
    slots = a.slots;
    owned = a.owned;
    once = a.once;
    taken = a.taken;
    told = λ r o m p q. by-start (λ d x m. (a : Age) → g.ghost.owner r ≡ Some (d, a) → a.boot ≡ x → Tells r a m.session m.age)
        (λ f x y z. subst (λ j. Tells r x j now.age) (sym on.session) (subst (λ j. Tells r x k.session j) (sym on.age) (f x y z)))
        (λ d x m q y p e. a.told r (d, y) m p (ap (g.clerks d) e ∙ q)) o.0 (o.1).boot m q o.1 p refl;
    starts = by-start (λ d x m. (m.id ≡ d) × (m.age.boot ≡ x) × (x ≤ g.boots d) × (d < 16)) (λ f. (on.id ∙ f.0, ap (λ z. z.boot) on.age ∙ f.1, f.2, f.3)) a.starts;
    rounds = λ d x n m q. by-start (λ d x m. n < m.age.round → (r : ℕ) × (g.ghost.owner r ≡ Some (d, record { boot = x; round = n }))) (λ f l. f (subst (λ z. n < z.round) on.age l)) (λ d x m q. a.rounds d x n m q) d x m q;
    running = λ d x q. let f = a.running d x q in (f.0, kept.there g all c b k now at-start on.age on.owed on.next g.ghost.taken calls ms d x f.1);
    in_session = λ d x r m q. by-start (λ d x m. m.session ≡ Some r → (g.ghost.owner r ≡ Some (d, m.age)) × T (g.ghost.taken r))
        (λ f e. let z = f (sym on.session ∙ e) in (z.0 ∙ ap (λ y. Some (c, y)) (sym on.age), z.1)) (λ d x m q. a.in_session d x r m q) d x m q;
    without = by-start (λ d x m. m.session ≡ None → HasNone m) (λ f e. none-now (f without)) a.without;
    current = λ d x r m p q. by-start (λ d x m. g.running d ≡ Some x → m.session ≡ Some r → (sl : Slot) × (slot g.durable d ≡ Some sl) × (sl.session ≡ r)) (λ f y z. f y (sym on.session ∙ z)) (λ d x m q p. a.current d x r m p q) d x m q p;
    sound = each-more (λ m. T (is_sound m.1)) g.pool ms a.sound (each-turn (λ m. sessions.Fits g m.0 m.1 × T (is_sound m.1) × Greets g m.0 m.1) (λ m. T (is_sound m.1)) ms (λ m f. f.1) sent);
    messages = each-more (λ m. sessions.Fits h m.0 m.1) g.pool ms (each-turn (λ m. sessions.Fits g m.0 m.1) (λ m. sessions.Fits h m.0 m.1) g.pool (λ m f. kept.message-kept g all c b k now at-start on.age on.owed on.next g.ghost.taken calls ms m.0 m.1 f) a.messages)
        (each-turn (λ m. sessions.Fits g m.0 m.1 × T (is_sound m.1) × Greets g m.0 m.1) (λ m. sessions.Fits h m.0 m.1) ms (λ m f. kept.message-kept g all c b k now at-start on.age on.owed on.next g.ghost.taken calls ms m.0 m.1 f.0) sent);
  }

  pub outside-all : AllAgree h
  outside-all = (
    record {
      sessions = sessions-stay;
      tokens = still.tokens-stay g all (with_start c b now g.clerks) same-in same-next g.running g.boots calls ms fits logs;
      logs = still.logs-stay g all (with_start c b now g.clerks) same-in same-next g.running g.boots calls ms fits logs;
      images = still.images-stay g all (with_start c b now g.clerks) same-in same-next g.running g.boots calls ms fits logs;
      events = kept.events-stay g all c b k now at-start on.age on.owed on.next g.ghost.taken calls ms;
      stops = kept.stops-stay g all c b k now at-start on.age on.owed on.next g.ghost.taken calls ms;
    },
    kept.watches-stay g all c b k now at-start on.age on.owed on.next g.ghost.taken calls ms,
    all.2,
    kept.starts-stay g all c b k now at-start on.age on.owed on.next g.ghost.taken calls ms (each-turn (λ m. sessions.Fits g m.0 m.1 × T (is_sound m.1) × Greets g m.0 m.1) (λ m. Greets g m.0 m.1) ms (λ m f. f.2) sent),
  )

  pub outside-cuts : CutsAgree g → CutsAgree h
  outside-cuts = kept.cuts-stay g all c b k now at-start on.age on.owed on.next g.ghost.taken calls ms same_log
