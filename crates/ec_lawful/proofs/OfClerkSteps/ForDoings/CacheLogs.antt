-- What a clerk in a session holds changes, and neither its log nor its ids: logs and images agree, where Write tokens stay on what is kept of an open session and isn't durable.
use Rattle.std.proofs.Common.{◌≡◌, ◌≢◌, refl, sym, ap, subst, ◌∙◌, inl, inr, ◌⊎◌, ℕ, Bool, true, false, not, ◌&&◌, T, ◌+◌, ◌≤◌, ◌<◌, List, [], ◌++◌}
use Rattle.std.specs.Prelude.{◌==◌, Option, Some, is_some}
use Rattle.std.proofs.lemmas.Bool.{cases_eq}
use Rattle.ec_base.specs.Tables.{at}
use Rattle.ec_base.specs.declared.ids.Age.{Age}
use Rattle.ec_volume.specs.Update.{distinct, member, operands}
use Rattle.ec_history.specs.History.{Each, Op, updates}
use Rattle.ec_sessions.specs.declared.slot.Slot.{Slot}
use Rattle.ec_wire.specs.declared.msg.Msg.{Msg}
use Rattle.ec_wire.specs.declared.msg.Msg.TheVariants.{Flush, Room}
use Rattle.ec_durable.specs.Durable.{slot}
use Rattle.ec_log.specs.Log.{batch}
use Rattle.ec_cache.specs.declared.state.Held.{Held}
use Rattle.ec_protocol.specs.declared.clerk.Clerk.{Clerk}
use Rattle.ec_coherence.specs.System.{System, clerk_in, is_of, is_open, seen, undurable}
use Rattle.ec_coherence.specs.Tokens.{IsWrite}
use Rattle.ec_coherence.specs.Log as log
use Rattle.ec_coherence.specs.Log.{HasWrites, IdsAgree, InSession, IsNumbered, Knows, LogAgrees, LogsAgree, OfOpen, made_by, mine, next_of}
use Rattle.ec_coherence.specs.Images.{ImagesAgree}
use Rattle.ec_coherence.specs.ChangeLaws.{Calls, IsInIt, LogsAndImages, with_clerk}
use Rattle.ec_coherence.proofs.ForBatches.ClerkIn.{now-in, other-in, was-in}
use Rattle.ec_coherence.proofs.ForServer.Lists.{each-both, each-more, each-turn}
use Rattle.ec_coherence.proofs.ForServer.Tables.{same_some}
use Rattle.ec_base.proofs.Bools.{left as and_first, right as and_next, is-true, holds-true as holds}
use Rattle.ec_base.proofs.Numbers.{equal}

module _ (g : System) (lo : LogsAgree g) (im : ImagesAgree g) (c s : ℕ) (age : Age) (k now : Clerk) (in-it : IsInIt g c s age k) (same_session : now.session ≡ k.session) (same_log : now.log ≡ k.log) (same_ids : now.ids ≡ k.ids) (same_got : now.got ≡ k.got) (calls : Calls) (ms : List (ℕ × Msg)) where
  abbrev pub h : System
  h = with_clerk g c age.boot now calls ms

  owns : g.ghost.owner s ≡ Some (c, age)
  owns = (in-it.start).owns

  stands : g.clerks c age.boot ≡ Some k
  stands = (in-it.start).stands

  still : now.session ≡ Some s
  still = same_session ∙ in-it.session

  in-g : clerk_in g s ≡ Some k
  in-g = was-in g.ghost.owner g.clerks c s age k now owns stands in-it.session still

  in-h : clerk_in h s ≡ Some now
  in-h = now-in g.ghost.owner g.clerks c s age k now owns stands in-it.session still

  in-other : (t : ℕ) → t ≢ s → clerk_in h t ≡ clerk_in g t
  in-other t d = other-in g.ghost.owner g.clerks c s age k now owns stands in-it.session still t d

  -- Write tokens stay on the operands of this operation
  abbrev pub Stays : Op → Type 0
  Stays o = T (not (g.ghost.is_durable o)) → T (is_of (g.ghost.owner s) o) → T (is_open g s) → Each (λ x. IsWrite (at x k.cache.held)) (operands o.update) → Each (λ x. IsWrite (at x now.cache.held)) (operands o.update)

  own-writes : (o : Op) → Stays o → (T (not (g.ghost.is_durable o)) → HasWrites g o) → T (not (g.ghost.is_durable o)) → HasWrites h o
  own-writes o stays f n = go (f n)
    where
      go : HasWrites g o → HasWrites h o
      go w = elim (cases_eq w.session s) [
        | inl e ↦ record {
          session = w.session;
          clerk = now;
          in_place = ap (clerk_in h) e ∙ in-h;
          is_open = w.is_open;
          own = w.own;
          writes = stays n (subst (λ z. T (is_of (g.ghost.owner z) o)) e w.own) (subst (λ z. T (is_open g z)) e w.is_open)
              (subst (λ m. Each (λ x. IsWrite (at x (m.cache).held)) (operands o.update)) (same_some (sym w.in_place ∙ ap (clerk_in g) e ∙ in-g)) w.writes);
        }
        | inr d ↦ record { session = w.session; clerk = w.clerk; in_place = in-other w.session d ∙ w.in_place; is_open = w.is_open; own = w.own; writes = w.writes }
      ]

  ids-stay : (sl : Slot) (grants first : ℕ) (os : List Op) → IdsAgree k sl grants first os → IdsAgree now sl grants first os
  ids-stay sl grants first os f = record {
    granted = f.granted;
    last = f.last;
    distinct_ids = subst (λ z. T (distinct (z ++ made_by (updates os)))) (sym same_ids) f.distinct_ids;
    free = subst (λ z. Each (λ x. T (member x sl.unspent)) (z ++ made_by (updates os))) (sym same_ids) f.free;
    earlier = λ q. subst (λ z. Each (λ x. x < first) (z ++ made_by (updates os))) (sym same_ids) (f.earlier (ap (λ z. z + 1) (sym same_got) ∙ q));
    all = subst (λ z. Each (λ x. T (member x (z ++ made_by (updates os))) ⊎ ((now.got + 1 ≡ grants) × (first ≤ x) × (x < first + 16))) sl.unspent) (sym same_ids)
        (subst (λ z. Each (λ x. T (member x (k.ids ++ made_by (updates os))) ⊎ ((z + 1 ≡ grants) × (first ≤ x) × (x < first + 16))) sl.unspent) (sym same_got) f.all);
  }

  own-agrees : (j : ℕ) (sl : Slot) → slot g.durable j ≡ Some sl → sl.session ≡ s → T sl.is_open → LogAgrees h s sl now
  own-agrees j sl p q r = let old : LogAgrees g s sl k = lo.logs s j sl p q r k in-g in record {
    knows = subst (λ l. Knows l sl.window (mine g.ghost s) g.ghost.is_durable) (sym same_log) old.knows;
    ids = ids-stay sl (g.ghost.grants s) (g.ghost.first s) (undurable g.ghost s) old.ids;
  }

  logs' : (t : ℕ) → OfOpen h t (λ sm. InSession h t (LogAgrees h t sm))
  logs' t j sm p q r m i = elim (cases_eq t s) [
    | inl e ↦ subst (λ w. LogAgrees h t sm w) (same_some (sym in-h ∙ ap (clerk_in h) (sym e) ∙ i)) (subst (λ w. LogAgrees h w sm now) (sym e) (own-agrees j sm p (q ∙ e) r))
    | inr d ↦ let old : LogAgrees g t sm m = lo.logs t j sm p q r m (sym (in-other t d) ∙ i) in record { knows = old.knows; ids = old.ids }
  ]

  fit-kept : (m : Msg) → log.Fits g m → log.Fits h m
  fit-kept (Flush t a b os) f = λ j sm p q r u m i. elim (cases_eq t s) [
    | inl e ↦ subst (λ w. (os ≡ batch b w.log) × T (is_some (at b (w.log).batches))) (same_some (sym in-h ∙ ap (clerk_in h) (sym e) ∙ i))
        (subst (λ l. (os ≡ batch b l) × T (is_some (at b l.batches))) (sym same_log) (f j sm p q r u k (ap (clerk_in g) e ∙ in-g)))
    | inr d ↦ f j sm p q r u m (sym (in-other t d) ∙ i)
  ]
  fit-kept (Room t a got ask) f = λ j sm p q r u m i. elim (cases_eq t s) [
    | inl e ↦ subst (λ w. w.ids ≡ []) (same_some (sym in-h ∙ ap (clerk_in h) (sym e) ∙ i)) (same_ids ∙ f j sm p q r u k (ap (clerk_in g) e ∙ in-g))
    | inr d ↦ f j sm p q r u m (sym (in-other t d) ∙ i)
  ]
  fit-kept _ f = f

  starts' : (d a : ℕ) → IsNumbered g.ghost d a (next_of (h.clerks d a))
  starts' d a = subst (IsNumbered g.ghost d a) (sym (next-is ((d == c) && (a == age.boot)) refl)) (lo.starts d a)
    where
      next-is : (b : Bool) → ((d == c) && (a == age.boot)) ≡ b → next_of (elim b as (λ z. Option Clerk) [ true ↦ Some now | false ↦ g.clerks d a ]) ≡ next_of (g.clerks d a)
      next-is false q = refl
      next-is true q = ap (λ l. l.next) same_log
          ∙ sym (ap next_of (ap (λ z. g.clerks z a) (equal d c (is-true (d == c) (and_first (d == c) _ (holds _ q)))) ∙ ap (g.clerks c) (equal a age.boot (is-true (a == age.boot) (and_next (d == c) _ (holds _ q)))) ∙ stands))

  module _ (writes : Each Stays g.ghost.kept) (images : (x : ℕ) (o : Held) → at x now.cache.held ≡ Some o → o.image ≡ seen g s x) (sent : Each (λ m. log.Fits h m.1) ms) where
    held-logs : LogsAgree h
    held-logs = record {
      writes = each-turn (λ o. Stays o × (T (not (g.ghost.is_durable o)) → HasWrites g o)) (λ o. T (not (g.ghost.is_durable o)) → HasWrites h o) g.ghost.kept (λ o f. own-writes o f.0 f.1) (each-both Stays (λ o. T (not (g.ghost.is_durable o)) → HasWrites g o) g.ghost.kept writes lo.writes);
      logs = logs';
      starts = starts';
      closed = lo.closed;
      unopened = lo.unopened;
      untaken = lo.untaken;
      messages = each-more (λ m. log.Fits h m.1) g.pool ms (each-turn (λ m. log.Fits g m.1) (λ m. log.Fits h m.1) g.pool (λ m f. fit-kept m.1 f) lo.messages) sent;
      unspent = lo.unspent;
      once = lo.once;
      apart = lo.apart;
      whole = λ t x j sm p q r m i a. elim (cases_eq t s) [
        | inl e ↦ lo.whole t x j sm p q r k (ap (clerk_in g) e ∙ in-g) (ap (λ z. z + 1) (sym same_got) ∙ ap (λ w. w.got + 1) (same_some (sym in-h ∙ ap (clerk_in h) (sym e) ∙ i)) ∙ a)
        | inr d ↦ lo.whole t x j sm p q r m (sym (in-other t d) ∙ i) a
      ];
    }

    held-images : ImagesAgree h
    held-images = record {
      server = im.server;
      fits = im.fits;
      sound = im.sound;
      origin = im.origin;
      origin_held = im.origin_held;
      licences = λ t x m i o p. elim (cases_eq t s) [
        | inl e ↦ images x o (ap (λ w. at x (w.cache).held) (same_some (sym in-h ∙ ap (clerk_in h) (sym e) ∙ i)) ∙ p) ∙ ap (λ z. seen g z x) (sym e)
        | inr d ↦ im.licences t x m (sym (in-other t d) ∙ i) o p
      ];
      unfrozen = im.unfrozen;
      unopened = im.unopened;
      cut_off = im.cut_off;
      known = im.known;
      operands = im.operands;
    }

    pub held-both : LogsAndImages h
    held-both = (held-logs, held-images)

  -- where each Write token stays
  pub all-stay : ((x : ℕ) → IsWrite (at x k.cache.held) → IsWrite (at x now.cache.held)) → Each Stays g.ghost.kept
  all-stay f = Rattle.ec_coherence.proofs.ForServer.Lists.each-always Stays g.ghost.kept (λ o n i p w. each-turn (λ x. IsWrite (at x k.cache.held)) (λ x. IsWrite (at x now.cache.held)) (operands o.update) f w)
