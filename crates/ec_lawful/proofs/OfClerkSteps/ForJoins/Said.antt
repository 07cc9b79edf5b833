-- All facts where messages are sent of which each family holds.
use Rattle.std.proofs.Common.{ℕ, T, not, List, ◌++◌}
use Rattle.ec_history.specs.History.{Each, Op}
use Rattle.ec_wire.specs.Messages.{is_sound}
use Rattle.ec_wire.specs.declared.msg.Msg.{Msg}
use Rattle.ec_protocol.specs.declared.clerk.Clerk.{Clerk}
use Rattle.ec_coherence.specs.System.{System}
use Rattle.ec_coherence.specs.Sessions as sessions
use Rattle.ec_coherence.specs.Sessions.{SessionsAgree}
use Rattle.ec_coherence.specs.Tokens as tokens
use Rattle.ec_coherence.specs.Tokens.{view}
use Rattle.ec_coherence.specs.Log as log
use Rattle.ec_coherence.specs.Log.{LogsAgree}
use Rattle.ec_coherence.specs.Images.{ImagesAgree}
use Rattle.ec_coherence.specs.Events.{CutAgrees, EventsAgree}
use Rattle.ec_coherence.proofs.ForServer.Lists.{each-more, each-turn}
use Rattle.ec_coherence.proofs.ForClerk.Sends.{pool-agrees}
use Rattle.ec_coherence.specs.CommitLaws.{AllAgree}
use Rattle.ec_coherence.specs.Starts.{Greets, StartsAgree}
use Rattle.ec_coherence.specs.Watches.{WatchesAgree}
use Rattle.ec_coherence.specs.StandLaws.{AreSent}
use Rattle.ec_lawful.specs.OfClerkSteps.Cuts.{CutsAgree}

module _ (g : System) (all : AllAgree g) (ms : List (ℕ × Msg)) (sent : AreSent g ms) (fits : Each (λ m. tokens.Fits (view g) m.1) ms) (logs : Each (λ m. log.Fits g m.1) ms) where
  abbrev pub h : System
  h = record g { pool = g.pool ++ ms }

  sessions-stay : SessionsAgree h
  sessions-stay = let a = (all.0).sessions in record {
    sixteen = a.sixteen;
    next = a.next;
    slots = a.slots;
    owned = a.owned;
    once = a.once;
    taken = a.taken;
    told = a.told;
    starts = a.starts;
    rounds = a.rounds;
    running = a.running;
    in_session = a.in_session;
    without = a.without;
    current = a.current;
    sound = each-more (λ m. T (is_sound m.1)) g.pool ms a.sound (each-turn (λ m. sessions.Fits g m.0 m.1 × T (is_sound m.1) × Greets g m.0 m.1) (λ m. T (is_sound m.1)) ms (λ m f. f.1) sent);
    messages = each-more (λ m. sessions.Fits h m.0 m.1) g.pool ms (each-turn (λ m. sessions.Fits g m.0 m.1) (λ m. sessions.Fits h m.0 m.1) g.pool (λ m f. f) a.messages)
        (each-turn (λ m. sessions.Fits g m.0 m.1 × T (is_sound m.1) × Greets g m.0 m.1) (λ m. sessions.Fits h m.0 m.1) ms (λ m f. f.0) sent);
  }

  logs-stay : LogsAgree h
  logs-stay = let a = (all.0).logs in record {
    writes = each-turn (λ o. T (not (g.ghost.is_durable o)) → log.HasWrites g o) (λ o. T (not (g.ghost.is_durable o)) → log.HasWrites h o) g.ghost.kept
        (λ o f d. let w = f d in record { session = w.session; clerk = w.clerk; in_place = w.in_place; is_open = w.is_open; own = w.own; writes = w.writes }) a.writes;
    logs = λ s d sl p q o k j. (let l = a.logs s d sl p q o k j in record { knows = l.knows; ids = l.ids });
    starts = λ d b. (let n = a.starts d b in record { from_one = n.from_one; sorted = n.sorted; numbers = n.numbers; none_later = n.none_later });
    closed = a.closed;
    unopened = a.unopened;
    untaken = a.untaken;
    messages = each-more (λ m. log.Fits h m.1) g.pool ms (each-turn (λ m. log.Fits g m.1) (λ m. log.Fits h m.1) g.pool (λ m q. q) a.messages) (each-turn (λ m. log.Fits g m.1) (λ m. log.Fits h m.1) ms (λ m q. q) logs);
    unspent = a.unspent;
    once = a.once;
    apart = a.apart;
    whole = a.whole;
  }

  images-stay : ImagesAgree h
  images-stay = let a = (all.0).images in record { server = a.server; fits = a.fits; sound = a.sound; origin = a.origin; origin_held = a.origin_held; licences = a.licences; unfrozen = a.unfrozen; unopened = a.unopened; cut_off = a.cut_off; known = a.known; operands = a.operands }

  cut : (f b s : ℕ) (k : Clerk) (ks : List Op) → CutAgrees g f b s k ks → CutAgrees h f b s k ks
  cut f b s k ks q = record { before = q.before; at = q.at; lost = q.lost; behind = q.behind; was = q.was; keeps = q.keeps; alone = q.alone; untold = q.untold; owes = q.owes; frozen = q.frozen; later = q.later }

  events-stay : EventsAgree h
  events-stay = let a = (all.0).events in record {
    placeable = a.placeable;
    placed = a.placed;
    starts = a.starts;
    untold = a.untold;
    keeps = a.keeps;
    legal = a.legal;
    owes = a.owes;
    counts = a.counts;
    covered = a.covered;
    untouched = a.untouched;
    cuts = λ f b s k ks r p m z. cut f b s k ks (a.cuts f b s k ks r p m z);
  }

  watches-stay : WatchesAgree h
  watches-stay d = let w = all.1 d in record { running = w.running; early = w.early; still = w.still; unseen = w.unseen; open_start = w.open_start; crashed = w.crashed }

  starts-stay : StartsAgree h
  starts-stay = let a = all.3 in record {
    owned = a.owned;
    started = a.started;
    greets = each-more (λ m. Greets g m.0 m.1) g.pool ms a.greets (each-turn (λ m. sessions.Fits g m.0 m.1 × T (is_sound m.1) × Greets g m.0 m.1) (λ m. Greets g m.0 m.1) ms (λ m f. f.2) sent);
    above = a.above;
    alike = a.alike;
  }

  pub sent-stand : AllAgree h
  sent-stand = (
    record {
      sessions = sessions-stay;
      tokens = pool-agrees (view g) (g.pool ++ ms) (all.0).tokens (each-more (λ m. tokens.Fits (view g) m.1) g.pool ms ((all.0).tokens).messages fits);
      logs = logs-stay;
      images = images-stay;
      events = events-stay;
      stops = (let a = (all.0).stops in record { runs = a.runs; doubt = a.doubt; open_sessions = a.open_sessions; ended = a.ended });
    },
    watches-stay,
    all.2,
    starts-stay,
  )

  pub sent-cuts : CutsAgree g → CutsAgree h
  sent-cuts f c b s k ks r p o z = let q = f c b s k ks r p o z in record { knows = q.knows; untold = q.untold }
