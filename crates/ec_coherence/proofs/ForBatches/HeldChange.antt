-- What a clerk in a session holds changes, or its ids; its log doesn't.
use Rattle.std.proofs.Common.{◌≡◌, ◌≢◌, refl, sym, ap, subst, ◌∙◌, inl, inr, ℕ, Bool, true, false, not, ◌&&◌, T, ◌+◌, List, [], ◌++◌}
use Rattle.std.specs.Prelude.{◌==◌, Option, Some, is_some}
use Rattle.std.proofs.lemmas.Bool.{cases_eq}
use Rattle.ec_base.specs.Tables.{Table, at}
use Rattle.ec_base.specs.declared.ids.Age.{Age}
use Rattle.ec_volume.specs.Update.{operands}
use Rattle.ec_plain.specs.declared.call.Call.{Call}
use Rattle.ec_history.specs.History.{Each, Op}
use Rattle.ec_sessions.specs.declared.slot.Slot.{Slot}
use Rattle.ec_wire.specs.declared.msg.Msg.{Msg}
use Rattle.ec_wire.specs.declared.msg.Msg.TheVariants.{Flush, Room}
use Rattle.ec_durable.specs.Durable.{slot}
use Rattle.ec_log.specs.Log.{batch}
use Rattle.ec_cache.specs.declared.state.Held.{Held}
use Rattle.ec_protocol.specs.declared.clerk.Clerk.{Clerk}
use Rattle.ec_coherence.specs.System.{System, clerk_in, with_start, is_of, seen, undurable}
use Rattle.ec_coherence.specs.Tokens.{TokensAgree, view, side, side_in, IsWrite, RoomFits}
use Rattle.ec_coherence.specs.Tokens as tokens
use Rattle.ec_coherence.specs.Log as log
use Rattle.ec_coherence.specs.Log.{Knows, LogAgrees, LogsAgree, HasWrites, IdsAgree, IsNumbered, OfOpen, InSession, mine, next_of}
use Rattle.ec_coherence.specs.Images.{ImagesAgree}
use Rattle.ec_coherence.proofs.ForBatches.ClerkIn.{was-in, now-in, other-in}
use Rattle.ec_coherence.proofs.ForServer.Lists.{each-turn, each-both, each-more}
use Rattle.ec_coherence.proofs.ForServer.Tables.{same_some}
use Rattle.ec_base.proofs.Bools.{left as and_first, right as and_next, is-true, holds-true as holds}
use Rattle.ec_base.proofs.Numbers.{equal}

module _ (g : System) (ta : TokensAgree (view g)) (lo : LogsAgree g) (im : ImagesAgree g) (c s : ℕ) (age : Age) (k new : Clerk) (is-owner : g.ghost.owner s ≡ Some (c, age)) (at-start : g.clerks c age.boot ≡ Some k) (sk : k.session ≡ Some s)
    (sn : new.session ≡ Some s) (same-log : new.log ≡ k.log) (calls : Table (Table (ℕ × Call))) (ms : List (ℕ × Msg)) where
  abbrev pub h : System
  h = record g { clerks = with_start c age.boot new g.clerks; calls = calls; pool = g.pool ++ ms }

  -- what is asked of the change
  pub record Holds : Type 0 where
    -- Write tokens on what isn't durable stay
    pub writes : (o : Op) → T (not (g.ghost.is_durable o)) → T (is_of (g.ghost.owner s) o) → Each (λ x. IsWrite (at x k.cache.held)) (operands o.update) → Each (λ x. IsWrite (at x new.cache.held)) (operands o.update)
    -- ids stay reserved
    pub ids : OfOpen g s (λ sl. IdsAgree k sl (g.ghost.grants s) (g.ghost.first s) (undurable g.ghost s) → IdsAgree new sl (g.ghost.grants s) (g.ghost.first s) (undurable g.ghost s))
    pub rooms : (e got : ℕ) → OfOpen g s (λ sl. got ≡ sl.grants → RoomFits (view g) s e got (side k) → k.ids ≡ [] → new.ids ≡ [])
    pub got : OfOpen g s (λ sl. new.got + 1 ≡ sl.grants → k.got + 1 ≡ sl.grants)
    -- each image held is the one to be seen
    pub images : (x : ℕ) (o : Held) → at x new.cache.held ≡ Some o → o.image ≡ seen g s x
    pub messages : Each (λ m. log.Fits h m.1) ms

  in-g : clerk_in g s ≡ Some k
  in-g = was-in g.ghost.owner g.clerks c s age k new is-owner at-start sk sn

  in-h : clerk_in h s ≡ Some new
  in-h = now-in g.ghost.owner g.clerks c s age k new is-owner at-start sk sn

  in-other : (t : ℕ) → t ≢ s → clerk_in h t ≡ clerk_in g t
  in-other t d = other-in g.ghost.owner g.clerks c s age k new is-owner at-start sk sn t d

  module _ (ch : Holds) where
    writes' : Each (λ o. T (not (g.ghost.is_durable o)) → HasWrites h o) g.ghost.kept
    writes' = each-turn (λ o. T (not (g.ghost.is_durable o)) → HasWrites g o) (λ o. T (not (g.ghost.is_durable o)) → HasWrites h o) g.ghost.kept (λ o f n. go o n (f n)) lo.writes
      where
        go : (o : Op) → T (not (g.ghost.is_durable o)) → HasWrites g o → HasWrites h o
        go o n w = elim (cases_eq w.session s) [
          | inl e ↦ record {
            session = w.session;
            clerk = new;
            in_place = ap (clerk_in h) e ∙ in-h;
            is_open = w.is_open;
            own = w.own;
            writes = ch.writes o n (subst (λ z. T (is_of (g.ghost.owner z) o)) e w.own) (subst (λ m. Each (λ x. IsWrite (at x (m.cache).held)) (operands o.update)) (same_some (sym w.in_place ∙ ap (clerk_in g) e ∙ in-g)) w.writes);
          }
          | inr d ↦ record { session = w.session; clerk = w.clerk; in_place = in-other w.session d ∙ w.in_place; is_open = w.is_open; own = w.own; writes = w.writes }
        ]

    own-agrees : (j : ℕ) (sl : Slot) → slot g.durable j ≡ Some sl → sl.session ≡ s → T sl.is_open → LogAgrees h s sl new
    own-agrees j sl p q r = let old : LogAgrees g s sl k = lo.logs s j sl p q r k in-g in record {
      knows = subst (λ l. Knows l sl.window (mine g.ghost s) g.ghost.is_durable) (sym same-log) old.knows;
      ids = ch.ids j sl p q r old.ids;
    }

    logs' : (t : ℕ) → OfOpen h t (λ sm. InSession h t (LogAgrees h t sm))
    logs' t j sm p q r m i = elim (cases_eq t s) [
      | inl e ↦ subst (λ w. LogAgrees h t sm w) (same_some (sym in-h ∙ ap (clerk_in h) (sym e) ∙ i)) (subst (λ w. LogAgrees h w sm new) (sym e) (own-agrees j sm p (q ∙ e) r))
      | inr d ↦ let old : LogAgrees g t sm m = lo.logs t j sm p q r m (sym (in-other t d) ∙ i) in record { knows = old.knows; ids = old.ids }
    ]

    fit-kept : (m : Msg) → log.Fits g m → tokens.Fits (view g) m → log.Fits h m
    fit-kept (Flush t a b os) f z = λ j sm p q r u m i. elim (cases_eq t s) [
      | inl e ↦ subst (λ w. (os ≡ batch b w.log) × T (is_some (at b (w.log).batches))) (same_some (sym in-h ∙ ap (clerk_in h) (sym e) ∙ i))
          (subst (λ l. (os ≡ batch b l) × T (is_some (at b l.batches))) (sym same-log) (f j sm p q r u k (ap (clerk_in g) e ∙ in-g)))
      | inr d ↦ f j sm p q r u m (sym (in-other t d) ∙ i)
    ]
    fit-kept (Room t a got ask) f z = λ j sm p q r u m i. elim (cases_eq t s) [
      | inl e ↦ subst (λ w. w.ids ≡ []) (same_some (sym in-h ∙ ap (clerk_in h) (sym e) ∙ i))
          (ch.rooms a got j sm p (q ∙ e) r u (subst (λ y. RoomFits (view g) y a got (side k)) e (z.1 (side k) (ap side_in (ap (clerk_in g) e ∙ in-g)))) (f j sm p q r u k (ap (clerk_in g) e ∙ in-g)))
      | inr d ↦ f j sm p q r u m (sym (in-other t d) ∙ i)
    ]
    fit-kept _ f z = f

    starts' : (d a : ℕ) → IsNumbered g.ghost d a (next_of (h.clerks d a))
    starts' d a = subst (IsNumbered g.ghost d a) (sym (next-is ((d == c) && (a == age.boot)) refl)) (lo.starts d a)
      where
        next-is : (b : Bool) → ((d == c) && (a == age.boot)) ≡ b → next_of (elim b as (λ z. Option Clerk) [ true ↦ Some new | false ↦ g.clerks d a ]) ≡ next_of (g.clerks d a)
        next-is false q = refl
        next-is true q = ap (λ l. l.next) same-log ∙ sym (ap next_of (ap (λ z. g.clerks z a) (equal d c (is-true (d == c) (and_first (d == c) _ (holds _ q)))) ∙ ap (g.clerks c) (equal a age.boot (is-true (a == age.boot) (and_next (d == c) _ (holds _ q)))) ∙ at-start))

    pub held-logs : LogsAgree h
    held-logs = record {
      writes = writes';
      logs = logs';
      starts = starts';
      closed = lo.closed;
      unopened = lo.unopened;
      untaken = lo.untaken;
      messages = each-more (λ m. log.Fits h m.1) g.pool ms (each-turn (λ m. log.Fits g m.1 × tokens.Fits (view g) m.1) (λ m. log.Fits h m.1) g.pool (λ m f. fit-kept m.1 f.0 f.1) (each-both (λ m. log.Fits g m.1) (λ m. tokens.Fits (view g) m.1) g.pool lo.messages ta.messages)) ch.messages;
      unspent = lo.unspent;
      once = lo.once;
      apart = lo.apart;
      whole = λ t x j sm p q r m i a. elim (cases_eq t s) [
        | inl e ↦ lo.whole t x j sm p q r k (ap (clerk_in g) e ∙ in-g) (ch.got j sm p (q ∙ e) r (ap (λ w. w.got + 1) (same_some (sym in-h ∙ ap (clerk_in h) (sym e) ∙ i)) ∙ a))
        | inr d ↦ lo.whole t x j sm p q r m (sym (in-other t d) ∙ i) a
      ];
    }

    pub held-images : ImagesAgree h
    held-images = record {
      server = im.server;
      fits = im.fits;
      sound = im.sound;
      origin = im.origin;
      origin_held = im.origin_held;
      licences = λ t x m i o p. elim (cases_eq t s) [
        | inl e ↦ ch.images x o (ap (λ w. at x (w.cache).held) (same_some (sym in-h ∙ ap (clerk_in h) (sym e) ∙ i)) ∙ p) ∙ ap (λ z. seen g z x) (sym e)
        | inr d ↦ im.licences t x m (sym (in-other t d) ∙ i) o p
      ];
      unfrozen = im.unfrozen;
      unopened = im.unopened;
      cut_off = im.cut_off;
      known = im.known;
      operands = im.operands;
    }
