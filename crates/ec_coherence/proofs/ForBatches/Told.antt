-- A clerk learns that its session has ended, and leaves it.
use Rattle.std.proofs.Common.{◌≡◌, ◌≢◌, refl, sym, ap, subst, ◌∙◌, inl, inr, ℕ, Bool, true, false, not, ◌&&◌, T, List, ◌++◌}
use Rattle.std.specs.Prelude.{◌==◌, Option, None, Some}
use Rattle.std.proofs.lemmas.Bool.{cases_eq}
use Rattle.ec_base.specs.Tables.{Table}
use Rattle.ec_base.specs.declared.ids.Age.{Age}
use Rattle.ec_plain.specs.declared.call.Call.{Call}
use Rattle.ec_history.specs.History.{Each}
use Rattle.ec_sessions.specs.declared.slot.Slot.{Slot}
use Rattle.ec_wire.specs.declared.msg.Msg.{Msg}
use Rattle.ec_wire.specs.declared.msg.Msg.TheVariants.{Flush, Room}
use Rattle.ec_durable.specs.Durable.{slot}
use Rattle.ec_protocol.specs.declared.clerk.Clerk.{Clerk}
use Rattle.ec_coherence.specs.System.{System, clerk_in, clerk_of, if_in, with_start, is_open}
use Rattle.ec_coherence.specs.Log as log
use Rattle.ec_coherence.specs.Log.{LogAgrees, LogsAgree, HasWrites, IsNumbered, OfOpen, InSession, next_of}
use Rattle.ec_coherence.specs.Images.{ImagesAgree}
use Rattle.ec_coherence.proofs.ForBatches.ClerkIn.{start-same, not-in-it}
use Rattle.ec_coherence.proofs.ForServer.Lists.{each-turn, each-more}
use Rattle.ec_coherence.proofs.ForBatches.OpenSlots.{at-open}
use Rattle.ec_protocol.specs.Clerk.{is_session}
use Rattle.ec_base.proofs.Bools.{left as and_first, right as and_next, is-true, holds-true as holds}
use Rattle.ec_base.proofs.Options.{none_some}
use Rattle.ec_base.proofs.Numbers.{equal}

module _ (g : System) (lo : LogsAgree g) (im : ImagesAgree g) (c s : ℕ) (age : Age) (k new : Clerk) (is-owner : g.ghost.owner s ≡ Some (c, age)) (at-start : g.clerks c age.boot ≡ Some k) (sk : k.session ≡ Some s)
    (over : T (is_open g s) → ⊥) (without : new.session ≡ None) (same-next : new.log.next ≡ k.log.next) (calls : Table (Table (ℕ × Call))) (ms : List (ℕ × Msg)) where
  abbrev pub h : System
  h = record g { clerks = with_start c age.boot new g.clerks; calls = calls; pool = g.pool ++ ms }

  in-none : (t : ℕ) → if_in t (Some new) ≡ None
  in-none t = ap (λ z. elim (is_session t z) as (λ z. Option Clerk) [ true ↦ Some new | false ↦ None ]) without

  not-in-h : clerk_in h s ≡ None
  not-in-h = ap (λ o. clerk_of s o (with_start c age.boot new g.clerks)) is-owner ∙ ap (if_in s) (start-same c age.boot new g.clerks) ∙ in-none s

  in-other : (t : ℕ) → t ≢ s → clerk_in h t ≡ clerk_in g t
  in-other t d = go (g.ghost.owner t)
    where
      go : (o : Option (ℕ × Age)) → clerk_of t o (with_start c age.boot new g.clerks) ≡ clerk_of t o g.clerks
      go None = refl
      go (Some o) = inner ((o.0 == c) && ((o.1).boot == age.boot)) refl
        where
          inner : (b : Bool) → ((o.0 == c) && ((o.1).boot == age.boot)) ≡ b → if_in t (elim b as (λ z. Option Clerk) [ true ↦ Some new | false ↦ g.clerks o.0 (o.1).boot ]) ≡ if_in t (g.clerks o.0 (o.1).boot)
          inner false q = refl
          inner true q =
              let ec : o.0 ≡ c = equal o.0 c (is-true (o.0 == c) (and_first (o.0 == c) _ (holds _ q))) in
              let eb : (o.1).boot ≡ age.boot = equal (o.1).boot age.boot (is-true ((o.1).boot == age.boot) (and_next (o.0 == c) _ (holds _ q))) in
              in-none t ∙ sym (ap (if_in t) (ap (λ z. g.clerks z (o.1).boot) ec ∙ ap (g.clerks c) eb ∙ at-start) ∙ not-in-it c age.boot s k sk t d)

  not-s : (t : ℕ) → T (is_open g t) → t ≢ s
  not-s t o e = absurd (over (subst (λ z. T (is_open g z)) e o))

  in-open : (t j : ℕ) (sm : Slot) (m : Clerk) → slot g.durable j ≡ Some sm → sm.session ≡ t → T sm.is_open → clerk_in h t ≡ Some m → clerk_in g t ≡ Some m
  in-open t j sm m p q r i = sym (in-other t (not-s t (at-open t (g.durable).sessions j sm (p, q, r)))) ∙ i

  fit-kept : (m : Msg) → log.Fits g m → log.Fits h m
  fit-kept (Flush t a b os) f = λ j sm p q r w m i. f j sm p q r w m (in-open t j sm m p q r i)
  fit-kept (Room t a got ask) f = λ j sm p q r w m i. f j sm p q r w m (in-open t j sm m p q r i)
  fit-kept _ f = f

  starts' : (d a : ℕ) → IsNumbered g.ghost d a (next_of (h.clerks d a))
  starts' d a = subst (IsNumbered g.ghost d a) (sym (next-is ((d == c) && (a == age.boot)) refl)) (lo.starts d a)
    where
      next-is : (b : Bool) → ((d == c) && (a == age.boot)) ≡ b → next_of (elim b as (λ z. Option Clerk) [ true ↦ Some new | false ↦ g.clerks d a ]) ≡ next_of (g.clerks d a)
      next-is false q = refl
      next-is true q = same-next ∙ sym (ap next_of (ap (λ z. g.clerks z a) (equal d c (is-true (d == c) (and_first (d == c) _ (holds _ q)))) ∙ ap (g.clerks c) (equal a age.boot (is-true (a == age.boot) (and_next (d == c) _ (holds _ q)))) ∙ at-start))

  pub told-logs : Each (λ m. log.Fits h m.1) ms → LogsAgree h
  told-logs sent = record {
    writes = each-turn (λ o. T (not (g.ghost.is_durable o)) → HasWrites g o) (λ o. T (not (g.ghost.is_durable o)) → HasWrites h o) g.ghost.kept
        (λ o f n. let w = f n in record { session = w.session; clerk = w.clerk; in_place = in-other w.session (not-s w.session w.is_open) ∙ w.in_place; is_open = w.is_open; own = w.own; writes = w.writes }) lo.writes;
    logs = λ t j sm p q r m i. let f : LogAgrees g t sm m = lo.logs t j sm p q r m (in-open t j sm m p q r i) in record { knows = f.knows; ids = f.ids };
    starts = starts';
    closed = lo.closed;
    unopened = lo.unopened;
    untaken = lo.untaken;
    messages = each-more (λ m. log.Fits h m.1) g.pool ms (each-turn (λ m. log.Fits g m.1) (λ m. log.Fits h m.1) g.pool (λ m f. fit-kept m.1 f) lo.messages) sent;
    unspent = lo.unspent;
    once = lo.once;
    apart = lo.apart;
    whole = λ t x j sm p q r m i. lo.whole t x j sm p q r m (in-open t j sm m p q r i);
  }

  pub told-images : ImagesAgree h
  told-images = record {
    server = im.server;
    fits = im.fits;
    sound = im.sound;
    origin = im.origin;
    origin_held = im.origin_held;
    licences = λ t x m i o p. elim (cases_eq t s) [
      | inl d ↦ absurd (none_some (sym not-in-h ∙ ap (clerk_in h) (sym d) ∙ i))
      | inr d ↦ im.licences t x m (sym (in-other t d) ∙ i) o p
    ];
    unfrozen = im.unfrozen;
    unopened = im.unopened;
    cut_off = im.cut_off;
    known = im.known;
    operands = im.operands;
  }
