-- Sessions, tokens, logs and images don't read the lines.
use Rattle.std.proofs.Common.{List, T, not, ℕ}
use Rattle.ec_history.specs.History.{History}
use Rattle.ec_history.specs.declared.shown.Shown.{Shown}
use Rattle.ec_base.specs.Tables.{Table}
use Rattle.ec_coherence.specs.System.{System}
use Rattle.ec_coherence.specs.Log as log
use Rattle.ec_coherence.specs.Sessions as sessions
use Rattle.ec_coherence.specs.BatchLaws.{BatchFacts}
use Rattle.ec_coherence.proofs.ForServer.Tables.{each-map}

module _ (g : System) (ss : List Shown) (h : History) (fresh : Table ℕ) where
  abbrev pub lined : System
  lined = record g { ghost = record (g.ghost) { shown = ss; history = h; fresh = fresh } }

  pub lines-agree : BatchFacts g → BatchFacts lined
  lines-agree i = record {
    sessions = (let a = i.sessions in record {
      sixteen = a.sixteen;
      next = a.next;
      slots = a.slots;
      owned = a.owned;
      once = a.once;
      taken = a.taken;
      told = a.told;
      starts = a.starts;
      rounds = a.rounds;
      running = a.running;
      in_session = a.in_session;
      without = a.without;
      current = a.current;
      sound = a.sound;
      messages = each-map (λ m. sessions.Fits g m.0 m.1) (λ m. sessions.Fits lined m.0 m.1) g.pool (λ m q. q) a.messages;
    });
    tokens = i.tokens;
    logs = (let a = i.logs in record {
      writes = each-map (λ o. T (not (g.ghost.is_durable o)) → log.HasWrites g o) (λ o. T (not (g.ghost.is_durable o)) → log.HasWrites lined o) g.ghost.kept
          (λ o f d. let w = f d in record { session = w.session; clerk = w.clerk; in_place = w.in_place; is_open = w.is_open; own = w.own; writes = w.writes }) a.writes;
      logs = λ s c sl p q o k j. (let l = a.logs s c sl p q o k j in record { knows = l.knows; ids = l.ids });
      starts = λ c b. (let n = a.starts c b in record { from_one = n.from_one; sorted = n.sorted; numbers = n.numbers; none_later = n.none_later });
      closed = a.closed;
      unopened = a.unopened;
      untaken = a.untaken;
      messages = each-map (λ m. log.Fits g m.1) (λ m. log.Fits lined m.1) g.pool (λ m q. q) a.messages;
      unspent = a.unspent;
      once = a.once;
      apart = a.apart;
      whole = a.whole;
    });
    images = (let a = i.images in record { server = a.server; fits = a.fits; sound = a.sound; origin = a.origin; origin_held = a.origin_held; licences = a.licences; unfrozen = a.unfrozen; unopened = a.unopened; cut_off = a.cut_off; known = a.known; operands = a.operands });
  }
