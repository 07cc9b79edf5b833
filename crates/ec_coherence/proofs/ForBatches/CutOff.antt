-- A call is answered by an update in a session that has ended, which its clerk doesn't know yet: only its own view changes.
use Rattle.std.proofs.Common.{◌≡◌, ◌≢◌, refl, sym, ap, subst, ◌∙◌, inl, inr, arith, ℕ, suc, zero, Bool, true, false, not, ◌&&◌, T, ◌≤◌, ◌<◌, ◌+◌, List, [], ◌∷◌, ◌++◌}
use Rattle.std.specs.Prelude.{◌==◌, Option, Some, is_some}
use Rattle.std.proofs.lemmas.Bool.{cases_eq}
use Rattle.ec_base.specs.Tables.{Table, at}
use Rattle.ec_base.specs.declared.ids.Age.{Age}
use Rattle.ec_volume.specs.Volume.{image_next, after}
use Rattle.ec_volume.specs.declared.update.Update.{Update}
use Rattle.ec_plain.specs.declared.call.Call.{Call}
use Rattle.ec_history.specs.History.{Op, updates, of_start}
use Rattle.ec_sessions.specs.declared.slot.Slot.{Slot}
use Rattle.ec_wire.specs.declared.msg.Msg.{Msg}
use Rattle.ec_wire.specs.declared.msg.Msg.TheVariants.{Flush, Room}
use Rattle.ec_durable.specs.Durable.{slot}
use Rattle.ec_cache.specs.declared.state.CacheState.{CacheState}
use Rattle.ec_cache.specs.declared.state.Held.{Held}
use Rattle.ec_log.specs.Log.{issue}
use Rattle.ec_protocol.specs.declared.clerk.Clerk.{Clerk}
use Rattle.ec_coherence.specs.System.{System, Ghost, clerk_in, with_start, is_open, seen, seen_ops, at_session}
use Rattle.ec_coherence.specs.Log as log
use Rattle.ec_coherence.specs.Log.{LogAgrees, LogsAgree, HasWrites, IsNumbered, OfOpen, InSession, next_of}
use Rattle.ec_coherence.specs.Images.{ImagesAgree}
use Rattle.ec_coherence.proofs.ForBatches.ClerkIn.{was-in, now-in, other-in}
use Rattle.ec_coherence.proofs.ForBatches.Issued.{image-one}
use Rattle.ec_coherence.proofs.ForServer.Lists.{each-turn}
use Rattle.ec_coherence.proofs.ForBatches.OpenSlots.{at-open}
use Rattle.ec_coherence.proofs.ForServer.Tables.{same_some, differ}
use Rattle.ec_base.proofs.Bools.{left as and_first, right as and_next, is-true, holds-true as holds}
use Rattle.ec_base.proofs.Numbers.{same-self as same, equal}
use Rattle.ec_base.proofs.Options.{none_some}
use Rattle.ec_base.proofs.Lists.{map-more}

module _ (g : System) (lo : LogsAgree g) (im : ImagesAgree g) (c s : ℕ) (age : Age) (k : Clerk) (is-owner : g.ghost.owner s ≡ Some (c, age)) (at-start : g.clerks c age.boot ≡ Some k) (sk : k.session ≡ Some s)
    -- what it sees, the update, the cache behind it, and the ids that are left
    (fs : List Op) (cut : g.ghost.frozen s ≡ Some fs) (u : Update) (ch : CacheState) (ids : List ℕ) (place : ℕ) (calls : Table (Table (ℕ × Call)))
    (changed : (x : ℕ) (o : Held) → at x ch.held ≡ Some o → (p : Held) × (at x k.cache.held ≡ Some p) × (o.image ≡ image_next x p.image u)) where
  abbrev pub op : Op
  op = record { clerk = c; boot = age.boot; number = k.log.next; place = place; update = u }

  abbrev pub new : Clerk
  new = record k { log = issue u k.log; cache = ch; ids = ids }

  abbrev pub ghost : Ghost
  ghost = record (g.ghost) { frozen = at_session s (Some (fs ++ op ∷ [])) g.ghost.frozen }

  abbrev pub h : System
  h = record g { clerks = with_start c age.boot new g.clerks; calls = calls; ghost = ghost }

  in-g : clerk_in g s ≡ Some k
  in-g = was-in g.ghost.owner g.clerks c s age k new is-owner at-start sk sk

  in-h : clerk_in h s ≡ Some new
  in-h = now-in g.ghost.owner g.clerks c s age k new is-owner at-start sk sk

  in-other : (t : ℕ) → t ≢ s → clerk_in h t ≡ clerk_in g t
  in-other t d = other-in g.ghost.owner g.clerks c s age k new is-owner at-start sk sk t d

  not-open : (t : ℕ) → T (is_open g t) → t ≢ s
  not-open t o e = absurd (none_some (sym (im.unfrozen s (subst (λ z. T (is_open g z)) e o)) ∙ cut))

  not-slot : (t j : ℕ) (sm : Slot) → slot g.durable j ≡ Some sm → sm.session ≡ t → T sm.is_open → t ≢ s
  not-slot t j sm p q r = not-open t (at-open t (g.durable).sessions j sm (p, q, r))

  in-open : (t j : ℕ) (sm : Slot) (m : Clerk) → slot g.durable j ≡ Some sm → sm.session ≡ t → T sm.is_open → clerk_in h t ≡ Some m → clerk_in g t ≡ Some m
  in-open t j sm m p q r i = sym (in-other t (not-slot t j sm p q r)) ∙ i

  starts' : (d a : ℕ) → IsNumbered ghost d a (next_of (h.clerks d a))
  starts' d a = go ((d == c) && (a == age.boot)) refl (lo.starts d a)
    where
      go : (b : Bool) → ((d == c) && (a == age.boot)) ≡ b → IsNumbered g.ghost d a (next_of (g.clerks d a)) → IsNumbered ghost d a (next_of (elim b as (λ z. Option Clerk) [ true ↦ Some new | false ↦ g.clerks d a ]))
      go false e f = record { from_one = f.from_one; sorted = f.sorted; numbers = f.numbers; none_later = f.none_later }
      go true e f =
          let next-is : next_of (g.clerks d a) ≡ k.log.next = ap next_of (ap (λ z. g.clerks z a) (equal d c (is-true (d == c) (and_first (d == c) _ (holds _ e)))) ∙ ap (g.clerks c) (equal a age.boot (is-true (a == age.boot) (and_next (d == c) _ (holds _ e)))) ∙ at-start) in
          record {
            from_one = omega arith;
            sorted = f.sorted;
            numbers = each-turn (λ o. T (of_start d a o) → (suc zero ≤ o.number) × (o.number < next_of (g.clerks d a))) (λ o. T (of_start d a o) → (suc zero ≤ o.number) × (o.number < k.log.next + 1)) g.ghost.kept
                (λ o r t. let q = r t in (q.0, (let z = q.1 in omega arith))) f.numbers;
            none_later = λ o t l. f.none_later o t (omega arith);
          }

  fit-kept : (m : Msg) → log.Fits g m → log.Fits h m
  fit-kept (Flush t a b os) f = λ j sm p q r w m i. f j sm p q r w m (in-open t j sm m p q r i)
  fit-kept (Room t a got ask) f = λ j sm p q r w m i. f j sm p q r w m (in-open t j sm m p q r i)
  fit-kept _ f = f

  pub cut-logs : LogsAgree h
  cut-logs = record {
    writes = each-turn (λ o. T (not (g.ghost.is_durable o)) → HasWrites g o) (λ o. T (not (g.ghost.is_durable o)) → HasWrites h o) g.ghost.kept
        (λ o f n. let w = f n in record { session = w.session; clerk = w.clerk; in_place = in-other w.session (not-open w.session w.is_open) ∙ w.in_place; is_open = w.is_open; own = w.own; writes = w.writes }) lo.writes;
    logs = λ t j sm p q r m i. let f : LogAgrees g t sm m = lo.logs t j sm p q r m (in-open t j sm m p q r i) in record { knows = f.knows; ids = f.ids };
    starts = starts';
    closed = lo.closed;
    unopened = lo.unopened;
    untaken = lo.untaken;
    messages = each-turn (λ m. log.Fits g m.1) (λ m. log.Fits h m.1) g.pool (λ m f. fit-kept m.1 f) lo.messages;
    unspent = lo.unspent;
    once = lo.once;
    apart = lo.apart;
    whole = λ t x j sm p q r m i. lo.whole t x j sm p q r m (in-open t j sm m p q r i);
  }

  frozen-other : (t : ℕ) → t ≢ s → ghost.frozen t ≡ g.ghost.frozen t
  frozen-other t n = ap (λ b. elim b as (λ z. Option (List Op)) [ true ↦ Some (fs ++ op ∷ []) | false ↦ g.ghost.frozen t ]) (differ t s n)

  frozen-own : ghost.frozen s ≡ Some (fs ++ op ∷ [])
  frozen-own = ap (λ b. elim b as (λ z. Option (List Op)) [ true ↦ Some (fs ++ op ∷ []) | false ↦ g.ghost.frozen s ]) (same s)

  seen-own : (x : ℕ) → image_next x (seen g s x) u ≡ seen h s x
  seen-own x = ap (λ z. image_next x (after g.origin (updates (seen_ops z g.ghost.kept)) x) u) cut ∙ sym (image-one x (g.origin x) (updates fs) u) ∙ ap (λ us. after g.origin us x) (sym (map-more (λ o. o.update) fs (op ∷ [])))
      ∙ ap (λ z. after g.origin (updates (seen_ops z g.ghost.kept)) x) (sym frozen-own)

  pub cut-images : ImagesAgree h
  cut-images = record {
    server = im.server;
    fits = im.fits;
    sound = im.sound;
    origin = im.origin;
    origin_held = im.origin_held;
    licences = λ t x m i o p. elim (cases_eq t s) [
      | inl e ↦
          let em : new ≡ m = same_some (sym in-h ∙ ap (clerk_in h) (sym e) ∙ i) in
          let q = changed x o (ap (λ w. at x (w.cache).held) em ∙ p) in
          q.2 ∙ ap (λ z. image_next x z u) (im.licences s x k in-g q.0 q.1) ∙ seen-own x ∙ ap (λ w. seen h w x) (sym e)
      | inr n ↦ im.licences t x m (sym (in-other t n) ∙ i) o p ∙ ap (λ z. after g.origin (updates (seen_ops z g.ghost.kept)) x) (sym (frozen-other t n))
    ];
    unfrozen = λ t o. frozen-other t (not-open t o) ∙ im.unfrozen t o;
    unopened = λ t e. frozen-other t (λ q. absurd (none_some (sym e ∙ ap g.ghost.owner q ∙ is-owner))) ∙ im.unopened t e;
    cut_off = λ t i. elim (cases_eq t s) [
      | inl e ↦ inr (subst (λ z. T (is_some z)) (sym (ap ghost.frozen e ∙ frozen-own)) tt)
      | inr n ↦ elim (im.cut_off t i) [ inl o ↦ inl o | inr f ↦ inr (subst (λ z. T (is_some z)) (sym (frozen-other t n)) f) ]
    ];
    known = im.known;
    operands = im.operands;
  }
