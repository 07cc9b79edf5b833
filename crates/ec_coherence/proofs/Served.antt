-- All facts where the server stops or starts: the epoch, its tables and the tokens before them change, and what is effective stays.
use Rattle.std.proofs.Common.{◌≡◌, sym, subst, ℕ, T, not, List, Option}
use Rattle.std.specs.List.{filter, list_any}
use Rattle.ec_base.specs.Holds.{is_free}
use Rattle.ec_volume.specs.Update.{operands}
use Rattle.ec_history.specs.History.{Each, Op, is_one_of, kept}
use Rattle.ec_history.specs.declared.entry.Entry.TheVariants as entry
use Rattle.ec_protocol.specs.declared.clerk.Clerk.{Clerk}
use Rattle.ec_protocol.specs.declared.server.Server.{Server}
use Rattle.ec_coherence.specs.System.{System, Eff, base_of, undurable}
use Rattle.ec_coherence.specs.Sessions as sessions
use Rattle.ec_coherence.specs.Sessions.{SessionsAgree}
use Rattle.ec_coherence.specs.Tokens.{TokensAgree, eff, eff_hold, view}
use Rattle.ec_coherence.specs.Log as log
use Rattle.ec_coherence.specs.Log.{LogsAgree}
use Rattle.ec_coherence.specs.Images.{ImagesAgree}
use Rattle.ec_coherence.specs.Events.{CutAgrees, EventsAgree, Frees, same_op}
use Rattle.ec_coherence.specs.Stops.{MayStep, RunsOn}
use Rattle.ec_coherence.proofs.ForServer.Lists.{each-turn}
use Rattle.ec_coherence.specs.CommitLaws.{AllAgree}

module _ (g : System) (all : AllAgree g) (e : ℕ) (v : Option Server) (o : ℕ → ℕ → Option Eff) where
  abbrev pub served : System
  served = record g { durable = record (g.durable) { epoch = e }; server = v; ghost = record (g.ghost) { old = o } }

  module _ (tokens : TokensAgree (view served)) (same : (s x : ℕ) → eff (view served) s x ≡ eff (view g) s x) (runs : RunsOn served v) (doubt : MayStep served g.unshown) where
    sessions-stay : SessionsAgree served
    sessions-stay = let a = (all.0).sessions in record {
      sixteen = a.sixteen;
      next = a.next;
      slots = a.slots;
      owned = a.owned;
      once = a.once;
      taken = a.taken;
      told = a.told;
      starts = a.starts;
      rounds = a.rounds;
      running = a.running;
      in_session = a.in_session;
      without = a.without;
      current = a.current;
      sound = a.sound;
      messages = each-turn (λ m. sessions.Fits g m.0 m.1) (λ m. sessions.Fits served m.0 m.1) g.pool (λ m q. q) a.messages;
    }

    logs-stay : LogsAgree served
    logs-stay = let a = (all.0).logs in record {
      writes = each-turn (λ k. T (not (g.ghost.is_durable k)) → log.HasWrites g k) (λ k. T (not (g.ghost.is_durable k)) → log.HasWrites served k) g.ghost.kept
          (λ k f d. let w = f d in record { session = w.session; clerk = w.clerk; in_place = w.in_place; is_open = w.is_open; own = w.own; writes = w.writes }) a.writes;
      logs = λ s d sl p q u k j. (let l = a.logs s d sl p q u k j in record { knows = l.knows; ids = l.ids });
      starts = λ d b. (let n = a.starts d b in record { from_one = n.from_one; sorted = n.sorted; numbers = n.numbers; none_later = n.none_later });
      closed = a.closed;
      unopened = a.unopened;
      untaken = a.untaken;
      messages = each-turn (λ m. log.Fits g m.1) (λ m. log.Fits served m.1) g.pool (λ m q. q) a.messages;
      unspent = a.unspent;
      once = a.once;
      apart = a.apart;
      whole = a.whole;
    }

    images-stay : ImagesAgree served
    images-stay = let a = (all.0).images in record { server = a.server; fits = a.fits; sound = a.sound; origin = a.origin; origin_held = a.origin_held; licences = a.licences; unfrozen = a.unfrozen; unopened = a.unopened; cut_off = a.cut_off; known = a.known; operands = a.operands }

    frees-stay : (s : ℕ) (k : Op) → Frees g s k → Frees served s k
    frees-stay s k r = each-turn (λ x. T (is_free (eff_hold (eff (view g) s x)))) (λ x. T (is_free (eff_hold (eff (view served) s x)))) (operands k.update) (λ x z. subst (λ f. T (is_free (eff_hold f))) (sym (same s x)) z) r

    cut : (f b s : ℕ) (k : Clerk) (ks : List Op) → CutAgrees g f b s k ks → CutAgrees served f b s k ks
    cut f b s k ks q = record {
      before = q.before;
      at = q.at;
      lost = q.lost;
      behind = q.behind;
      was = q.was;
      keeps = q.keeps;
      alone = q.alone;
      untold = q.untold;
      owes = q.owes;
      frozen = λ r p. each-turn (λ x. T (list_any (λ j. same_op j x) ks) → Frees g s x) (λ x. T (list_any (λ j. same_op j x) ks) → Frees served s x) (undurable g.ghost r) (λ x h z. frees-stay s x (h z)) (q.frozen r p);
      later = each-turn (λ y. (r d a : ℕ) (ms : List ℕ) → y ≡ (r, entry.Loss d a ms) → Each (Frees g s) (filter (is_one_of d a ms) (kept (base_of g) q.before)))
          (λ y. (r d a : ℕ) (ms : List ℕ) → y ≡ (r, entry.Loss d a ms) → Each (Frees served s) (filter (is_one_of d a ms) (kept (base_of g) q.before))) q.behind
          (λ y h r d a ms z. each-turn (Frees g s) (Frees served s) (filter (is_one_of d a ms) (kept (base_of g) q.before)) (λ x w. frees-stay s x w) (h r d a ms z)) q.later;
    }

    events-stay : EventsAgree served
    events-stay = let a = (all.0).events in record {
      placeable = a.placeable;
      placed = a.placed;
      starts = a.starts;
      untold = a.untold;
      keeps = a.keeps;
      legal = a.legal;
      owes = a.owes;
      counts = a.counts;
      covered = a.covered;
      untouched = a.untouched;
      cuts = λ f b s k ks r p m z. cut f b s k ks (a.cuts f b s k ks r p m z);
    }

    pub served-all : AllAgree served
    served-all = (
      record { sessions = sessions-stay; tokens = tokens; logs = logs-stay; images = images-stay; events = events-stay; stops = (let a = (all.0).stops in record { runs = runs; doubt = doubt; open_sessions = a.open_sessions; ended = a.ended }) },
      (λ d. let w = all.1 d in record { running = w.running; early = w.early; still = w.still; unseen = w.unseen; open_start = w.open_start; crashed = w.crashed }),
      all.2,
      (let a = all.3 in record { owned = a.owned; started = a.started; greets = a.greets; above = a.above; alike = a.alike }),
    )
