-- All facts hold behind the opening over any well-formed state: sessions of earlier runs have ended, and nothing happened yet.
use Rattle.std.proofs.Common.{◌≡◌, refl, sym, ap, subst, ◌∙◌, inl, inr, arith, ℕ, zero, suc, Bool, true, false, not, ◌&&◌, ◌+◌, ◌≤◌, ◌<◌, T, List, [], length, Option, None, Some}
use Rattle.std.specs.Prelude.{is_some, nat_le, nat_lt}
use Rattle.ec_base.specs.declared.ids.Age.{Age}
use Rattle.ec_history.specs.History.{numbers}
use Rattle.ec_sessions.specs.declared.slot.Slot.{Slot}
use Rattle.ec_durable.specs.Durable.{slot}
use Rattle.ec_durable.specs.WellFormed.{WellFormed}
use Rattle.ec_durable.specs.declared.state.Durable.{Durable}
use Rattle.ec_protocol.specs.World.{session_boot}
use Rattle.ec_protocol.specs.declared.clerk.Clerk.{Clerk}
use Rattle.ec_coherence.specs.System.{System, clerk_in, clerk_of, undurable}
use Rattle.ec_coherence.specs.Sessions.{SessionsAgree}
use Rattle.ec_coherence.specs.Tokens.{Side, TokensAgree, View, is_untaken, side_in, view}
use Rattle.ec_coherence.specs.Log.{LogsAgree}
use Rattle.ec_coherence.specs.Images.{ImagesAgree}
use Rattle.ec_coherence.specs.Events.{EventsAgree}
use Rattle.ec_coherence.specs.Stops.{StopsAgree}
use Rattle.ec_coherence.proofs.ForServer.Restart.{down, started-agrees}
use Rattle.ec_coherence.proofs.ForServer.Tables.{same_some}
use Rattle.ec_coherence.specs.CommitLaws.{AllAgree}
use Rattle.ec_coherence.specs.Starts.{StartsAgree}
use Rattle.ec_coherence.specs.Watches.{FirstsAgree, WatchesAgree, still_in}
use Rattle.ec_lawful.specs.Olds.{frozen_if, opened_in, opened_state}
use Rattle.ec_lawful.proofs.ForWhole.EndedSlots as slots
use Rattle.ec_lawful.proofs.ForWhole.EndedSlots.{none-open, of-sessions, owner-at, owner-of}
use Rattle.ec_lawful.proofs.ForWhole.Volumes.{each-held, known-id}
use Rattle.ec_base.proofs.Bools.{left as and_first, not-both as no_both, right as and_next}
use Rattle.ec_base.proofs.Options.{none_some}

module _ (d : Durable) (wf : WellFormed d) (sixteen : length d.sessions ≡ 16) where
  abbrev g : System
  g = opened_in d

  -- The sessions of the slots.

  numbered : (c : ℕ) (sl : Slot) → slot d c ≡ Some sl → (suc zero ≤ sl.session) × (sl.session < d.next_session)
  numbered c sl p = let q = of-sessions (λ s. nat_le 1 s && nat_lt s d.next_session) d.sessions wf.order.numbered c sl p in
      (least sl.session (and_first (nat_le 1 sl.session) _ q), less sl.session d.next_session (and_next (nat_le 1 sl.session) _ q))
    where
      least : (s : ℕ) → T (nat_le 1 s) → suc zero ≤ s
      least s q = grind arith

      less : (s n : ℕ) → T (nat_lt s n) → s < n
      less s n q = grind arith

  plus-none : (c : ℕ) → 0 + c ≡ c
  plus-none c = omega arith

  owner-now : (c : ℕ) (sl : Slot) → slot d c ≡ Some sl → g.ghost.owner sl.session ≡ Some (c, sl.age)
  owner-now c sl p = owner-at d.sessions 0 c sl wf.order.numbers p ∙ ap (λ n. Some (n, sl.age)) (plus-none c)

  its-slot : (s : ℕ) (o : ℕ × Age) → g.ghost.owner s ≡ Some o → (sl : Slot) × (slot d o.0 ≡ Some sl) × (sl.session ≡ s) × (o.1 ≡ sl.age)
  its-slot s o p = let q = owner-of d.sessions 0 s o p in (q.slot, ap (slot d) (q.clerk ∙ plus-none q.place) ∙ q.there, q.session, q.age)

  some-frozen : (o : Option (ℕ × Age)) → T (is_some o) → T (is_some (frozen_if o))
  some-frozen None t = absurd t
  some-frozen (Some o) t = tt

  shut : {A : Type 0} (c : ℕ) (sl : Slot) → slot (opened_state d) c ≡ Some sl → T sl.is_open → A
  shut c sl p o = absurd (no_both sl.is_open o ((slots.was d.sessions c sl p).shut))

  -- No clerk is in one.

  nobody : (s : ℕ) (o : Option (ℕ × Age)) → clerk_of s o (λ c b. None) ≡ None
  nobody s None = refl
  nobody s (Some o) = refl

  no-clerk : {A : Type 0} (s : ℕ) (k : Clerk) → clerk_in g s ≡ Some k → A
  no-clerk s k p = absurd (none_some (sym (nobody s (g.ghost.owner s)) ∙ p))

  no-side : {A : Type 0} (s : ℕ) (k : Side) → (view g).clerk s ≡ Some k → A
  no-side s k p = absurd (none_some (sym (ap side_in (nobody s (g.ghost.owner s))) ∙ p))

  unhidden : {A : Type 0} (s x : ℕ) → T (is_untaken 0 0 ((view g).clerk s) x) → A
  unhidden s x h = absurd (subst (λ z. T (is_untaken 0 0 z x)) (ap side_in (nobody s (g.ghost.owner s))) h)

  old-sessions : SessionsAgree g
  old-sessions = record {
    sixteen = slots.length-ended d.sessions ∙ sixteen;
    next = first d.next_session wf.order.next;
    slots = λ c so p. (let w = slots.was d.sessions c so p in let q = numbered c w.old w.there in
        (subst (λ n. suc zero ≤ n) w.session q.0, subst (λ n. n < d.next_session) w.session q.1, ap g.ghost.owner (sym w.session) ∙ owner-now c w.old w.there ∙ ap (λ a. Some (c, a)) w.age));
    owned = λ s o p. (let w = its-slot s o p in let i = slots.is-now d.sessions o.0 w.0 w.1 in (
      subst (λ n. n < d.next_session) w.2 (numbered o.0 w.0 w.1).1,
      no-less (o.1).boot (session_boot (slot d o.0)) (ap (λ a. a.boot) w.3 ∙ sym (ap session_boot w.1)),
      i.now,
      i.there,
      inl (i.session ∙ w.2),
    ));
    once = λ s t o p q. (let w = its-slot s o p in let v = its-slot t o q in sym w.2 ∙ ap (λ z. z.session) (same_some (sym w.1 ∙ v.1)) ∙ v.2);
    taken = λ s t. absurd t;
    told = λ s o k p q. absurd (none_some q);
    starts = λ c b k p. absurd (none_some p);
    rounds = λ c b n k p. absurd (none_some p);
    running = λ c b p. absurd (none_some p);
    in_session = λ c b s k p. absurd (none_some p);
    without = λ c b k p. absurd (none_some p);
    current = λ c b s k p. absurd (none_some p);
    sound = tt;
    messages = tt;
  }
    where
      first : (n : ℕ) → T (nat_le 1 n) → suc zero ≤ n
      first n q = grind arith

      no-less : (a b : ℕ) → a ≡ b → a ≤ b
      no-less a b e = omega (arith, e)

  -- before the server started
  abbrev before : View
  before = record (view g) { epoch = d.epoch }

  stopped-tokens : TokensAgree (down before)
  stopped-tokens = record {
    held = λ s x f p. absurd (none_some p);
    holds = λ s x k p. no-side s k p;
    known = λ s x f p. absurd (none_some p);
    next = omega arith;
    exclusive = λ s t x n o p. tt;
    below = λ s x k p. no-side s k p;
    got = λ s k p. no-side s k p;
    given = λ s l. absurd (omega arith);
    alone = λ s x h. unhidden s x h;
    lasts = λ s x k p. no-side s k p;
    recalled = λ s k p. no-side s k p;
    present = λ s o t. absurd t;
    messages = tt;
    tables = tt;
  }

  old-tokens : TokensAgree (view g)
  old-tokens = started-agrees before (d.epoch + 1) stopped-tokens (omega arith)

  old-logs : LogsAgree g
  old-logs = record {
    writes = tt;
    logs = λ s c sl p q o. shut c sl p o;
    starts = λ c b. record { from_one = omega arith; sorted = tt; numbers = tt; none_later = λ o t l. refl };
    closed = tt;
    unopened = λ s p. refl;
    untaken = λ s c sl p q o. shut c sl p o;
    messages = tt;
    unspent = λ s x c sl p q o. shut c sl p o;
    once = λ s c sl p q o. shut c sl p o;
    apart = λ s t x n c sl p q o. shut c sl p o;
    whole = λ s x c sl p q o. shut c sl p o;
  }

  old-images : ImagesAgree g
  old-images = record {
    server = λ x. refl;
    fits = λ o. tt;
    sound = tt;
    origin = wf.volume;
    origin_held = each-held d.volume wf.order.images.held;
    licences = λ s x k p. no-clerk s k p;
    unfrozen = λ s o. absurd (none-open d.sessions s o);
    unopened = λ s p. ap frozen_if p;
    cut_off = λ s t. inr (some-frozen (g.ghost.owner s) t);
    known = λ x t. known-id d wf x t;
    operands = tt;
  }

  old-events : EventsAgree g
  old-events = record {
    placeable = tt;
    placed = refl;
    starts = λ c b p. absurd (none_some p);
    untold = λ c b k p. absurd (none_some p);
    keeps = refl;
    legal = tt;
    owes = λ c b k p. absurd (none_some p);
    counts = λ c b k p. absurd (none_some p);
    covered = tt;
    untouched = λ s o p i. tt;
    cuts = λ c b s k ks p. absurd (none_some p);
  }

  old-stops : StopsAgree g
  old-stops = record { runs = (refl, refl); doubt = tt; open_sessions = λ s o. absurd (none-open d.sessions s o); ended = λ s t n. some-frozen (g.ghost.owner s) t }

  none-still : (o : Option Slot) → ((sl : Slot) → o ≡ Some sl → T (not sl.is_open)) → still_in g.ghost o ≡ []
  none-still None f = refl
  none-still (Some sl) f = go sl.is_open (f sl refl)
    where
      go : (b : Bool) → T (not b) → elim b as (λ z. List ℕ) [ true ↦ numbers (undurable g.ghost sl.session) | false ↦ [] ] ≡ []
      go true n = absurd n
      go false n = refl

  old-watches : WatchesAgree g
  old-watches c = record {
    running = refl;
    early = refl;
    still = sym (none-still (slot (opened_state d) c) (λ sl p. (slots.was d.sessions c sl p).shut));
    unseen = λ q. refl;
    open_start = λ b q. absurd (none_some q);
    crashed = λ b l m r. absurd (omega (arith, l, m));
  }

  old-firsts : FirstsAgree g.ghost
  old-firsts s l = absurd (omega (arith, l))

  old-starts : StartsAgree g
  old-starts = record {
    owned = λ s c a p. ((λ f. absurd (none_some (sym f ∙ ap frozen_if p))), (λ k q. absurd (none_some q)));
    started = λ c b k p. absurd (none_some p);
    greets = tt;
    above = tt;
    alike = λ i j e f n. refl;
  }

  pub opened-all : AllAgree g
  opened-all = (record { sessions = old-sessions; tokens = old-tokens; logs = old-logs; images = old-images; events = old-events; stops = old-stops }, old-watches, old-firsts, old-starts)
