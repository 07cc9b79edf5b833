-- The server starts, with no record in doubt: the next epoch, and each clerk is told. The whole invariant stands.
use Rattle.std.proofs.Common.{◌≡◌, refl, sym, ap, subst, arith, ℕ, Bool, true, false, not, ◌+◌, ◌^◌, T, List, [], append-nil, inl, inr}
use Rattle.std.specs.Prelude.{◌==◌, None, Some, nat_le, Ok, Err, Result}
use Rattle.std.specs.List.{list_any, filter}
use Rattle.ec_base.specs.declared.counter.Counter.TheVariants as counter
use Rattle.ec_volume.specs.Update.{operands}
use Rattle.ec_history.specs.History.{Op, Each, kept, is_one_of}
use Rattle.ec_history.specs.declared.entry.Entry.TheVariants as entry
use Rattle.ec_base.specs.Holds.{is_free}
use Rattle.ec_durable.specs.declared.state.Durable.{Durable}
use Rattle.ec_durable.specs.declared.record.Record.TheVariants as record_of
use Rattle.ec_durable.specs.declared.record.RecordFault.{RecordFault}
use Rattle.ec_durable.specs.declared.record.RecordFault.TheVariants.{BadNumber}
use Rattle.ec_protocol.specs.Server.{Serving, new_server, serving, start, tell_all}
use Rattle.ec_protocol.specs.declared.clerk.Clerk.{Clerk}
use Rattle.ec_coherence.specs.System.{System, undurable, base_of}
use Rattle.ec_coherence.specs.Sessions as sessions
use Rattle.ec_coherence.specs.Tokens as facts
use Rattle.ec_coherence.specs.Log as log
use Rattle.ec_coherence.specs.Events.{CutAgrees, Frees, same_op}
use Rattle.ec_sessions.specs.Slots.{slot_at}
use Rattle.ec_coherence.specs.Stops.{MayStep}
use Rattle.ec_coherence.specs.Invariant.{Invariant}
use Rattle.ec_coherence.specs.Steps.{Under, Stood}
use Rattle.ec_coherence.proofs.ForServer.Replies.{tell-all-stands}
use Rattle.ec_coherence.proofs.ForServer.Restart.{started-agrees}
use Rattle.ec_coherence.proofs.ForServer.Tables.{each-map}
use Rattle.ec_base.proofs.Numbers.{same-self as same}

module _ (g : System) (i : Invariant g) (down : g.server ≡ None) (sure : g.unshown ≡ None) where
  abbrev next : ℕ
  next = g.durable.epoch + 1

  abbrev begun : Serving
  begun = record { server = new_server (record (g.durable) { epoch = next }); sent = []; rec = Some (record_of.Epoch next); spent = None }

  -- the same with the pool as it was
  abbrev up : System
  up = record g { durable = record (g.durable) { epoch = next }; server = Some (new_server (record (g.durable) { epoch = next })) }

  was-down : facts.TokensAgree (record (facts.view g) { tables = None })
  was-down = subst (λ z. facts.TokensAgree (record (facts.view g) { tables = facts.tables_in z })) down i.tokens

  eff-was : (s x : ℕ) → facts.eff (facts.view g) s x ≡ g.ghost.old s x
  eff-was s x = ap (λ z. facts.eff_of (facts.tables_in z) g.durable.epoch g.ghost.old s x) down

  frees-stay : (s : ℕ) (op : Op) → Frees g s op → Frees up s op
  frees-stay s op r = each-map (λ x. T (is_free (facts.eff_hold (facts.eff (facts.view g) s x)))) (λ x. T (is_free (facts.eff_hold (facts.eff (facts.view up) s x)))) (operands op.update)
      (λ x y. subst (λ e. T (is_free (facts.eff_hold e))) (eff-was s x) y) r

  cut-stays : (c b s : ℕ) (k : Clerk) (ks : List Op) → CutAgrees g c b s k ks → CutAgrees up c b s k ks
  cut-stays c b s k ks q = record {
    before = q.before;
    at = q.at;
    lost = q.lost;
    behind = q.behind;
    was = q.was;
    keeps = q.keeps;
    alone = q.alone;
    untold = q.untold;
    owes = q.owes;
    frozen = λ r p. each-map (λ op. T (list_any (λ k. same_op k op) ks) → Frees g s op) (λ op. T (list_any (λ k. same_op k op) ks) → Frees up s op) (undurable g.ghost r) (λ op f z. frees-stay s op (f z)) (q.frozen r p);
    later = each-map (λ e. (r d f : ℕ) (ms : List ℕ) → e ≡ (r, entry.Loss d f ms) → Each (Frees g s) (filter (is_one_of d f ms) (kept (base_of g) q.before)))
        (λ e. (r d f : ℕ) (ms : List ℕ) → e ≡ (r, entry.Loss d f ms) → Each (Frees up s) (filter (is_one_of d f ms) (kept (base_of g) q.before))) q.behind
        (λ e h r d f ms z. each-map (Frees g s) (Frees up s) (filter (is_one_of d f ms) (kept (base_of g) q.before)) (λ op w. frees-stay s op w) (h r d f ms z)) q.later;
  }

  up-keeps : Invariant up
  up-keeps = record {
    sessions = (let a = i.sessions in record {
      sixteen = a.sixteen;
      next = a.next;
      slots = a.slots;
      owned = a.owned;
      once = a.once;
      taken = a.taken;
      told = a.told;
      starts = a.starts;
      rounds = a.rounds;
      running = a.running;
      in_session = a.in_session;
      without = a.without;
      current = a.current;
      sound = a.sound;
      messages = each-map (λ m. sessions.Fits g m.0 m.1) (λ m. sessions.Fits up m.0 m.1) g.pool (λ m q. q) a.messages;
    });
    tokens = started-agrees (facts.view g) next was-down (omega arith);
    logs = (let a = i.logs in record {
      writes = each-map (λ o. T (not (g.ghost.is_durable o)) → log.HasWrites g o) (λ o. T (not (g.ghost.is_durable o)) → log.HasWrites up o) g.ghost.kept
          (λ o f d. let h = f d in record { session = h.session; clerk = h.clerk; in_place = h.in_place; is_open = h.is_open; own = h.own; writes = h.writes }) a.writes;
      logs = λ s c sl p q o k j. (let l = a.logs s c sl p q o k j in record { knows = l.knows; ids = l.ids });
      starts = a.starts;
      closed = a.closed;
      unopened = a.unopened;
      untaken = a.untaken;
      messages = each-map (λ m. log.Fits g m.1) (λ m. log.Fits up m.1) g.pool (λ m q. q) a.messages;
      unspent = a.unspent;
      once = a.once;
      apart = a.apart;
      whole = a.whole;
    });
    images = (let a = i.images in record { server = a.server; fits = a.fits; sound = a.sound; origin = a.origin; origin_held = a.origin_held; licences = a.licences; unfrozen = a.unfrozen; unopened = a.unopened; cut_off = a.cut_off; known = a.known; operands = a.operands });
    events = (let a = i.events in record {
      placeable = a.placeable;
      starts = a.starts;
      untold = a.untold;
      placed = a.placed;
      keeps = a.keeps;
      legal = a.legal;
      owes = a.owes;
      counts = a.counts;
      covered = a.covered;
      untouched = a.untouched;
      cuts = λ c b s k ks r p q f. cut-stays c b s k ks (a.cuts c b s k ks r p q f);
    });
    stops = (let a = i.stops in record { runs = (refl, sure); doubt = subst (λ r. MayStep up r) (sym sure) tt; open_sessions = a.open_sessions; ended = a.ended });
  }

  begun-stands : Under g begun g.ghost
  begun-stands = record {
    committed = ap (λ b. elim b as (λ z. Result Durable RecordFault) [ false ↦ Err BadNumber | true ↦ Ok (record (g.durable) { epoch = next }) ]) (same next);
    shown = sym (append-nil g.ghost.shown);
    invariant = subst (λ p. Invariant (record up { pool = p })) (sym (append-nil g.pool)) up-keeps;
  }

  pub start-stands : Stood g (start g.durable)
  start-stands = go (nat_le (2 ^ 62) g.durable.epoch)
    where
      told : Under g (tell_all 0 g.durable.sessions begun) g.ghost
      told = tell-all-stands g g.ghost g.durable.sessions 0 begun begun-stands (λ k. ap (λ z. slot_at g.durable.sessions z) (none k))
        where
          none : (k : ℕ) → 0 + k ≡ k
          none k = omega arith

      committed : (elim (next == next) as (λ z. Result Durable RecordFault) [ false ↦ Err BadNumber | true ↦ Ok (record (g.durable) { epoch = next }) ]) ≡ Ok (record (g.durable) { epoch = next })
      committed = ap (λ b. elim b as (λ z. Result Durable RecordFault) [ false ↦ Err BadNumber | true ↦ Ok (record (g.durable) { epoch = next }) ]) (same next)

      go : (b : Bool) → Stood g (elim b as (λ z. Serving) [
        | true ↦ record (serving (new_server g.durable)) { spent = Some counter.Epoch }
        | false ↦ elim (elim (next == next) as (λ z. Result Durable RecordFault) [ false ↦ Err BadNumber | true ↦ Ok (record (g.durable) { epoch = next }) ]) as (λ z. Serving) [
          | Ok d ↦ tell_all 0 d.sessions (record (serving (new_server g.durable)) { server = record (new_server g.durable) { durable = d }; rec = Some (record_of.Epoch next) })
          | Err f ↦ serving (new_server g.durable)
        ]
      ])
      go true = inl tt
      go false = subst (λ r. Stood g (elim r as (λ z. Serving) [
        | Ok d ↦ tell_all 0 d.sessions (record (serving (new_server g.durable)) { server = record (new_server g.durable) { durable = d }; rec = Some (record_of.Epoch next) })
        | Err f ↦ serving (new_server g.durable)
      ])) (sym committed) (inr (g.ghost, told))
