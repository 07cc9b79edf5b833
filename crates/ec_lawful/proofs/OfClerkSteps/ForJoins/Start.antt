-- A clerk that doesn't run starts: all facts stand, and the lines still count it out.
use Rattle.std.proofs.Common.{◌≡◌, refl, sym, ap, subst, ◌∙◌, ◌⊎◌, arith, ◌<◌, ◌≤◌, ◌+◌, ◌-◌, ℕ, Bool, true, false, not, ◌==◌, ◌&&◌, cond, T, List, [], ◌∷◌, length, Option, Some, None}
use Rattle.std.specs.Prelude.{is_some}
use Rattle.std.specs.List.{filter}
use Rattle.std.proofs.lemmas.Bool.{and_parts, true≢false}
use Rattle.ec_base.specs.Ages.{is_older}
use Rattle.ec_base.specs.declared.ids.Age.{Age}
use Rattle.ec_history.specs.History.{Op, owed}
use Rattle.ec_history.specs.Legal.{is_op_of}
use Rattle.ec_history.specs.Placing.{ArePlaceable, begun, place, watch}
use Rattle.ec_history.specs.declared.watch.Watch.{Watch}
use Rattle.ec_history.specs.declared.shown.Shown.{Shown}
use Rattle.ec_history.proofs.OfLaws.ForPlacing.More.{owed-others}
use Rattle.ec_history.proofs.OfLaws.ForPlacing.Watching.{sound}
use Rattle.ec_sessions.specs.declared.slot.Slot.{Slot}
use Rattle.ec_wire.specs.Messages.{is_sound}
use Rattle.ec_wire.specs.declared.msg.Msg.{Msg}
use Rattle.ec_wire.specs.declared.msg.Msg.TheVariants.{Hello}
use Rattle.ec_durable.specs.Durable.{slot}
use Rattle.ec_protocol.specs.Clerk.{new_clerk}
use Rattle.ec_protocol.specs.declared.clerk.Clerk.{Clerk}
use Rattle.ec_coherence.specs.System.{System, base_of, clerk_of, if_in}
use Rattle.ec_coherence.specs.Sessions as sessions
use Rattle.ec_coherence.specs.Sessions.{HasNone, SessionsAgree}
use Rattle.ec_coherence.specs.Log.{next_of}
use Rattle.ec_coherence.specs.BatchLaws.{BatchFacts}
use Rattle.ec_coherence.specs.Events.{CutAgrees, EventsAgree, IsUncut, shown_boot}
use Rattle.ec_coherence.specs.Invariant.{Invariant}
use Rattle.ec_coherence.specs.Steps.{runs}
use Rattle.ec_coherence.specs.ChangeLaws.{Calls}
use Rattle.ec_coherence.proofs.ForBatches.ClerkIn.{start-same}
use Rattle.ec_coherence.proofs.ForServer.Lists.{each-more, each-turn}
use Rattle.ec_coherence.proofs.ForServer.Tables.{by-session, same_some}
use Rattle.ec_coherence.specs.CommitLaws.{AllAgree}
use Rattle.ec_coherence.specs.Starts.{Greets, StartsAgree}
use Rattle.ec_coherence.specs.Watches.{WatchAgrees}
use Rattle.ec_coherence.proofs.ForCommits.Shown.{lines-agree}
use Rattle.ec_lawful.specs.OfClerkSteps.Counts.{CountsAgree}
use Rattle.ec_lawful.specs.OfClerkSteps.Cuts.{CutKnows, CutsAgree}
use Rattle.ec_lawful.specs.OfClerkSteps.JoinLaws.{started}
use Rattle.ec_lawful.proofs.OfClerkSteps.ForJoins.Counted.{counted, no-entry, no-op}
use Rattle.ec_lawful.proofs.OfClerkSteps.ForJoins.SameIn as still
use Rattle.ec_base.proofs.Numbers.{same-self as same, equal}
use Rattle.ec_base.proofs.Options.{none_some}

module _ (g : System) (all : AllAgree g) (counts : CountsAgree g) (c : ℕ) (small : c < 16) (down : g.running c ≡ None) (calls : Calls) where
  abbrev pub b : ℕ
  b = g.boots c + 1

  abbrev pub k : Clerk
  k = new_clerk c b

  abbrev hello : List (ℕ × Msg)
  hello = (c, Hello c (record { boot = b; round = 0 })) ∷ []

  abbrev pub h : System
  h = started g c calls

  above : g.first_boot c < b
  above = let q = counts.above c in omega arith

  not-there : (m : Clerk) → g.clerks c b ≡ Some m → ⊥
  not-there m p = absurd (let q = ((all.0).sessions.starts c b m p).2 in omega arith)

  none-there : g.clerks c b ≡ None
  none-there = go (g.clerks c b) refl
    where
      go : (o : Option Clerk) → g.clerks c b ≡ o → o ≡ None
      go None e = refl
      go (Some m) e = absurd (not-there m e)

  -- no session is of this start
  not-owned : (s : ℕ) (a : Age) → g.ghost.owner s ≡ Some (c, a) → a.boot ≡ b → ⊥
  not-owned s a o e = absurd (let q = ((all.0).sessions.owned s (c, a) o).1 in omega arith)

  -- a fact of each start: of this one now, and of the others
  by-start : (P : ℕ → ℕ → Clerk → Type 0) → P c b k → ((d a : ℕ) (m : Clerk) → g.clerks d a ≡ Some m → P d a m) → (d a : ℕ) (m : Clerk) → h.clerks d a ≡ Some m → P d a m
  by-start P own each d a m = go ((d == c) && (a == b)) refl
    where
      go : (z : Bool) → ((d == c) && (a == b)) ≡ z → elim z as (λ y. Option Clerk) [ true ↦ Some k | false ↦ g.clerks d a ] ≡ Some m → P d a m
      go true e q = let two = and_parts (d == c) (a == b) e in subst (λ z. P z a m) (sym (equal d c two.0)) (subst (λ z. P c z m) (sym (equal a b two.1)) (subst (P c b) (same_some q) own))
      go false e q = each d a m q

  -- and of each one that runs
  by-running : (Q : ℕ → ℕ → Type 0) → Q c b → ((d a : ℕ) → (d == c) ≡ false → g.running d ≡ Some a → Q d a) → (d a : ℕ) → h.running d ≡ Some a → Q d a
  by-running Q own each d a = go (d == c) refl
    where
      go : (z : Bool) → (d == c) ≡ z → elim z as (λ y. Option ℕ) [ true ↦ Some b | false ↦ g.running d ] ≡ Some a → Q d a
      go true e q = subst (λ z. Q z a) (sym (equal d c e)) (subst (Q c) (same_some q) own)
      go false e q = each d a e q

  of-other : (d a : ℕ) (m : Clerk) → (d == c) ≡ false → h.clerks d a ≡ Some m → g.clerks d a ≡ Some m
  of-other d a m n q = sym (ap (λ z. elim (z && (a == b)) as (λ y. Option Clerk) [ true ↦ Some k | false ↦ g.clerks d a ]) n) ∙ q

  own-is : (m : Clerk) → h.clerks c b ≡ Some m → k ≡ m
  own-is m q = same_some (sym (start-same c b k g.clerks) ∙ q)

  boots-own : h.boots c ≡ b
  boots-own = ap (λ z. elim z as (λ y. ℕ) [ true ↦ b | false ↦ g.boots c ]) (same c)

  boots-other : (d : ℕ) → (d == c) ≡ false → h.boots d ≡ g.boots d
  boots-other d n = ap (λ z. elim z as (λ y. ℕ) [ true ↦ b | false ↦ g.boots d ]) n

  boots-more : (d : ℕ) → g.boots d ≤ h.boots d
  boots-more d = by-session c d (λ d. g.boots d ≤ h.boots d) (subst (λ n. g.boots c ≤ n) (sym boots-own) (omega arith)) (λ n. subst (λ m. g.boots d ≤ m) (sym (boots-other d n)) (omega arith))

  running-own : h.running c ≡ Some b
  running-own = ap (λ z. elim z as (λ y. Option ℕ) [ true ↦ Some b | false ↦ g.running c ]) (same c)

  running-other : (d : ℕ) → (d == c) ≡ false → h.running d ≡ g.running d
  running-other d n = ap (λ z. elim z as (λ y. Option ℕ) [ true ↦ Some b | false ↦ g.running d ]) n

  -- no round of another start changes
  its-round : (d : ℕ) (a : Age) → (a.boot ≤ g.boots d) → ((m : Clerk) → g.clerks d a.boot ≡ Some m → a.round ≤ m.age.round) → (m : Clerk) → h.clerks d a.boot ≡ Some m → a.round ≤ m.age.round
  its-round d a l f m q = go ((d == c) && (a.boot == b)) refl q
    where
      go : (z : Bool) → ((d == c) && (a.boot == b)) ≡ z → elim z as (λ y. Option Clerk) [ true ↦ Some k | false ↦ g.clerks d a.boot ] ≡ Some m → a.round ≤ m.age.round
      go true e q = let two = and_parts (d == c) (a.boot == b) e in absurd (let x = ap g.boots (equal d c two.0) in let y = equal a.boot b two.1 in omega arith)
      go false e q = f m q

  message-kept : (d : ℕ) (m : Msg) → sessions.Fits g d m → sessions.Fits h d m
  message-kept d (Hello from a) f = (f.0, f.1, (le (f.2).0 (boots-more d), its-round d a (f.2).0 (f.2).1))
    where
      le : {x y z : ℕ} → x ≤ y → y ≤ z → x ≤ z
      le p q = omega arith
  message-kept d _ f = f

  there : (d a : ℕ) → T (is_some (g.clerks d a)) → T (is_some (h.clerks d a))
  there d a t = go ((d == c) && (a == b))
    where
      go : (z : Bool) → T (is_some (elim z as (λ y. Option Clerk) [ true ↦ Some k | false ↦ g.clerks d a ]))
      go true = tt
      go false = t

  le : (x y z : ℕ) → x ≤ y → y ≤ z → x ≤ z
  le x y z p q = omega arith

  sessions-stay : SessionsAgree h
  sessions-stay = let a = (all.0).sessions in record {
    sixteen = a.sixteen;
    next = a.next;
    slots = a.slots;
    owned = λ s o p. let f = a.owned s o p in (f.0, le (o.1).boot (g.boots o.0) (h.boots o.0) f.1 (boots-more o.0), f.2, f.3, f.4);
    once = a.once;
    taken = a.taken;
    told = λ s o m p q. told s o m p ((o.0 == c) && ((o.1).boot == b)) refl q;
    starts = by-start (λ d x m. (m.id ≡ d) × (m.age.boot ≡ x) × (x ≤ h.boots d) × (d < 16)) (refl, refl, subst (λ n. b ≤ n) (sym boots-own) (omega arith), small)
        (λ d x m q. let f = a.starts d x m q in (f.0, f.1, le x (g.boots d) (h.boots d) f.2 (boots-more d), f.3));
    rounds = λ d x n m q. by-start (λ d x m. n < m.age.round → (r : ℕ) × (g.ghost.owner r ≡ Some (d, record { boot = x; round = n }))) (λ l. absurd (nothing n l)) (λ d x m q. a.rounds d x n m q) d x m q;
    running = by-running (λ d x. (x ≡ h.boots d) × T (is_some (h.clerks d x))) (sym boots-own, subst (λ o. T (is_some o)) (sym (start-same c b k g.clerks)) tt)
        (λ d x n q. let f = a.running d x q in (f.0 ∙ sym (boots-other d n), there d x f.1));
    in_session = λ d x s m q. by-start (λ d x m. m.session ≡ Some s → (g.ghost.owner s ≡ Some (d, m.age)) × T (g.ghost.taken s)) (λ y. absurd (none_some y)) (λ d x m q. a.in_session d x s m q) d x m q;
    without = by-start (λ d x m. m.session ≡ None → HasNone m) (λ y. record { epoch = refl; cache = refl; undurable = refl; batches = refl; next_batch = refl; first = refl; recalls = refl; ids = refl; got = refl; asking = refl }) a.without;
    current = λ d x s m p q z. by-running (λ d x. h.clerks d x ≡ Some m → (sl : Slot) × (slot g.durable d ≡ Some sl) × (sl.session ≡ s))
        (λ q. absurd (none_some (ap (λ w. w.session) (own-is m q) ∙ z))) (λ d x n p q. a.current d x s m p (of-other d x m n q) z) d x p q;
    sound = each-more (λ m. T (is_sound m.1)) g.pool hello a.sound (tt, tt);
    messages = each-more (λ m. sessions.Fits h m.0 m.1) g.pool hello (each-turn (λ m. sessions.Fits g m.0 m.1) (λ m. sessions.Fits h m.0 m.1) g.pool (λ m f. message-kept m.0 m.1 f) a.messages)
        ((refl, small, (subst (λ n. b ≤ n) (sym boots-own) (omega arith), λ m q. omega arith)), tt);
  }
    where
      nothing : (n : ℕ) → n < 0 → ⊥
      nothing n l = absurd (omega (arith, l))

      told : (s : ℕ) (o : ℕ × Age) (m : Clerk) → g.ghost.owner s ≡ Some o → (z : Bool) → ((o.0 == c) && ((o.1).boot == b)) ≡ z → elim z as (λ y. Option Clerk) [ true ↦ Some k | false ↦ g.clerks o.0 (o.1).boot ] ≡ Some m
          → (T (g.ghost.taken s) → (m.session ≡ Some s) ⊎ T (is_older o.1 m.age)) × (T (not (g.ghost.taken s)) → (o.1 ≡ m.age → m.session ≡ None) × T (not (is_older o.1 m.age)))
      told s o m p true e q = let two = and_parts (o.0 == c) ((o.1).boot == b) e in absurd (not-owned s o.1 (p ∙ ap (λ z. Some (z, o.1)) (equal o.0 c two.0)) (equal (o.1).boot b two.1))
      told s o m p false e q = (all.0).sessions.told s o m p q

  same-in : (t : ℕ) → clerk_of t (g.ghost.owner t) h.clerks ≡ clerk_of t (g.ghost.owner t) g.clerks
  same-in t = go (g.ghost.owner t) refl
    where
      go : (o : Option (ℕ × Age)) → g.ghost.owner t ≡ o → clerk_of t o h.clerks ≡ clerk_of t o g.clerks
      go None p = refl
      go (Some o) p = by ((o.0 == c) && ((o.1).boot == b)) refl
        where
          by : (z : Bool) → ((o.0 == c) && ((o.1).boot == b)) ≡ z → if_in t (elim z as (λ y. Option Clerk) [ true ↦ Some k | false ↦ g.clerks o.0 (o.1).boot ]) ≡ if_in t (g.clerks o.0 (o.1).boot)
          by false e = refl
          by true e = let two = and_parts (o.0 == c) ((o.1).boot == b) e in absurd (not-owned t o.1 (p ∙ ap (λ z. Some (z, o.1)) (equal o.0 c two.0)) (equal (o.1).boot b two.1))

  same-next : (d a : ℕ) → next_of (h.clerks d a) ≡ next_of (g.clerks d a)
  same-next d a = by ((d == c) && (a == b)) refl
    where
      by : (z : Bool) → ((d == c) && (a == b)) ≡ z → next_of (elim z as (λ y. Option Clerk) [ true ↦ Some k | false ↦ g.clerks d a ]) ≡ next_of (g.clerks d a)
      by false e = refl
      by true e = let two = and_parts (d == c) (a == b) e in sym (ap next_of (ap (λ z. g.clerks z a) (equal d c two.0) ∙ ap (g.clerks c) (equal a b two.1) ∙ none-there))

  agrees : BatchFacts h
  agrees = record {
    sessions = sessions-stay;
    tokens = still.tokens-stay g all h.clerks same-in same-next h.running h.boots calls hello (tt, tt) (tt, tt);
    logs = still.logs-stay g all h.clerks same-in same-next h.running h.boots calls hello (tt, tt) (tt, tt);
    images = still.images-stay g all h.clerks same-in same-next h.running h.boots calls hello (tt, tt) (tt, tt);
  }

  -- What the lines showed of it before.

  abbrev w : Watch
  w = watch c g.ghost.shown

  pub idle : w.running ≡ false
  idle = (all.1 c).running ∙ ap is_some down

  pub untold : w.untold ≡ None
  untold = go w.untold refl
    where
      go : (o : Option (List ℕ)) → w.untold ≡ o → o ≡ None
      go None e = refl
      go (Some ns) e = absurd (true≢false (sym ((sound c g.ghost.shown).ended_runs (ap is_some e)).1 ∙ idle))

  pub counted-now : w.starts + 1 ≡ shown_boot g c b
  counted-now = more (g.boots c) (g.first_boot c) w.starts (counts.above c) (counts.counted c down)
    where
      more : (m n x : ℕ) → n ≤ m → x ≡ m - n → x + 1 ≡ (m + 1) - n
      more m n x l e = omega (arith, l, e)

  begins : (begun w).starts ≡ shown_boot g c b
  begins = ap (λ z. (cond z w (record w { starts = w.starts + 1; running = true })).starts) idle ∙ counted-now

  later : w.starts < shown_boot g c b
  later = less w.starts (shown_boot g c b) counted-now
    where
      less : (m n : ℕ) → m + 1 ≡ n → m < n
      less m n e = omega (arith, e)

  -- The history, with these lines, which give no entry.
  module _ (now : List Shown) (placeable : ArePlaceable [] now) (placed : place now ≡ place g.ghost.shown) (same_untold : (d : ℕ) → (watch d now).untold ≡ (watch d g.ghost.shown).untold)
      (same_starts : (d : ℕ) → (begun (watch d now)).starts ≡ (begun (watch d g.ghost.shown)).starts) where
    abbrev pub hn : System
    hn = record h { ghost = record (g.ghost) { shown = now } }

    cut : (d x s : ℕ) (m : Clerk) (ks : List Op) → CutAgrees g d x s m ks → CutAgrees hn d x s m ks
    cut d x s m ks q = record { before = q.before; at = q.at; lost = q.lost; behind = q.behind; was = q.was; keeps = q.keeps; alone = q.alone; untold = same_untold d ∙ q.untold; owes = q.owes; frozen = q.frozen; later = q.later }

    abbrev Owes : ℕ → ℕ → Type 0
    Owes d x = (m : Clerk) → h.clerks d x ≡ Some m → IsUncut g d m → owed (base_of g) g.ghost.history d (shown_boot g d x) ≡ m.owed

    entered : Rattle.ec_lawful.proofs.OfClerkSteps.ForJoins.Counted.AreCounted c w.starts g.ghost.history
    entered = subst (Rattle.ec_lawful.proofs.OfClerkSteps.ForJoins.Counted.AreCounted c w.starts) (all.0).events.placed (counted c g.ghost.shown)

    owes-nothing : owed (base_of g) g.ghost.history c (shown_boot g c b) ≡ []
    owes-nothing = owed-others (base_of g) [] g.ghost.history c (shown_boot g c b) (no-entry c w.starts (shown_boot g c b) later g.ghost.history entered)

    pub events-stay : EventsAgree hn
    events-stay = let a = (all.0).events in record {
      placeable = placeable;
      placed = placed ∙ a.placed;
      starts = by-running (λ d x. (begun (watch d now)).starts ≡ shown_boot g d x) (same_starts c ∙ begins) (λ d x n q. same_starts d ∙ a.starts d x q);
      untold = λ d x m q p n. by-running (λ d x. h.clerks d x ≡ Some m → IsUncut g d m → (watch d now).untold ≡ None) (λ p n. same_untold c ∙ untold) (λ d x z q p n. same_untold d ∙ a.untold d x m q (of-other d x m z p) n) d x q p n;
      keeps = a.keeps;
      legal = a.legal;
      owes = λ d x m q p n. by-running (λ d x. h.clerks d x ≡ Some m → IsUncut g d m → owed (base_of g) g.ghost.history d (shown_boot g d x) ≡ m.owed)
          (λ p n. owes-nothing ∙ ap (λ y. y.owed) (own-is m p)) (λ d x z q p n. a.owes d x m q (of-other d x m z p) n) d x q p n;
      counts = λ d x m q p. by-running (λ d x. h.clerks d x ≡ Some m → length (filter (is_op_of d (shown_boot g d x)) g.ghost.history) + 1 ≡ m.log.next)
          (λ p. ap (λ xs. length xs + 1) (no-op c w.starts (shown_boot g c b) later g.ghost.history entered) ∙ ap (λ y. y.log.next) (own-is m p)) (λ d x z q p. a.counts d x m q (of-other d x m z p)) d x q p;
      covered = a.covered;
      untouched = a.untouched;
      cuts = λ d x s m ks q p o z. by-running (λ d x. h.clerks d x ≡ Some m → g.ghost.owner s ≡ Some (d, m.age) → CutAgrees hn d x s m ks)
          (λ p o. absurd (not-owned s m.age o (ap (λ y. y.age.boot) (sym (own-is m p))))) (λ d x n q p o. cut d x s m ks (a.cuts d x s m ks q (of-other d x m n p) o z)) d x q p o;
    }

    lined : BatchFacts hn
    lined = lines-agree h now g.ghost.history g.ghost.fresh agrees

    pub invariant-now : Invariant hn
    invariant-now = record {
      sessions = lined.sessions;
      tokens = lined.tokens;
      logs = lined.logs;
      images = lined.images;
      events = events-stay;
      stops = (let a = (all.0).stops in record { runs = a.runs; doubt = a.doubt; open_sessions = a.open_sessions; ended = a.ended });
    }

    pub starts-now : StartsAgree hn
    starts-now = let a = all.3 in record {
      owned = λ s d x p. let f = a.owned s d x p in (f.0, its-round d x ((all.0).sessions.owned s (d, x) p).1 f.1);
      started = by-start (λ d x m. g.first_boot d < x) above a.started;
      greets = each-more (λ m. Greets g m.0 m.1) g.pool hello a.greets (above, tt);
      above = a.above;
      alike = a.alike;
    }

    -- of the others the lines show what they showed
    pub watch-other : (d : ℕ) → (d == c) ≡ false → watch d now ≡ watch d g.ghost.shown → WatchAgrees hn d (watch d now)
    watch-other d n e = subst (WatchAgrees hn d) (sym e) (let x = all.1 d in record {
      running = x.running ∙ sym (ap is_some (running-other d n));
      early = x.early;
      still = x.still;
      unseen = x.unseen;
      open_start = x.open_start;
      crashed = λ a y m r. x.crashed a y (subst (λ z. a ≤ z) (boots-other d n) m) (ap (λ z. is_some z && (a == g.boots d)) (sym (running-other d n)) ∙ ap (λ z. is_some (h.running d) && (a == z)) (sym (boots-other d n)) ∙ r);
    })

    -- and of this one that it runs, once they begin it
    pub watch-own : WatchAgrees hn c (begun w)
    watch-own = subst (WatchAgrees hn c) (sym (ap (λ z. cond z w (record w { starts = w.starts + 1; running = true })) idle)) (let x = all.1 c in record {
      running = sym (ap is_some running-own);
      early = x.early;
      still = x.still;
      unseen = x.unseen;
      open_start = x.open_start;
      crashed = λ a y m r. x.crashed a y (before a m r) (ap (λ z. is_some z && (a == g.boots c)) down);
    })
      where
        apart : (a m : ℕ) → (a == m) ≡ false → a ≤ m → a < m
        apart a m e l = grind arith

        before : (a : ℕ) → a ≤ h.boots c → runs h c a ≡ false → a ≤ g.boots c
        before a m r =
            let e : (a == b) ≡ false = ap (λ z. a == z) (sym boots-own) ∙ sym (ap (λ z. is_some z && (a == h.boots c)) running-own) ∙ r in
            let l = apart a b e (subst (λ z. a ≤ z) boots-own m) in omega arith

    pub counts-now : ((d : ℕ) → (d == c) ≡ false → watch d now ≡ watch d g.ghost.shown) → CountsAgree hn
    counts-now e = record {
      counted = λ d p. by-session c d (λ d. h.running d ≡ None → (watch d now).starts ≡ shown_boot g d (h.boots d)) (λ p. absurd (none_some (sym p ∙ running-own)))
          (λ n p. ap (λ z. z.starts) (e d n) ∙ counts.counted d (sym (running-other d n) ∙ p) ∙ ap (shown_boot g d) (sym (boots-other d n))) p;
      above = λ d. le (g.first_boot d) (g.boots d) (h.boots d) (counts.above d) (boots-more d);
    }

    pub cuts-now : CutsAgree g → CutsAgree hn
    cuts-now f d x s m ks q p o z = by-running (λ d x. h.clerks d x ≡ Some m → g.ghost.owner s ≡ Some (d, m.age) → CutKnows hn d s m ks)
        (λ p o. absurd (not-owned s m.age o (ap (λ y. y.age.boot) (sym (own-is m p))))) (λ d x n q p o. let y = f d x s m ks q (of-other d x m n p) o z in record { knows = y.knows; untold = same_untold d ∙ y.untold }) d x q p o
