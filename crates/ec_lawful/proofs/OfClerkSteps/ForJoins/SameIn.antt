-- The starts change, but in each session is the clerk that was: the facts on tokens, logs and images stay.
use Rattle.std.proofs.Common.{◌≡◌, sym, subst, ◌∙◌, ℕ, T, not, List, ◌++◌, Option, Some}
use Rattle.ec_history.specs.History.{Each}
use Rattle.ec_wire.specs.declared.msg.Msg.{Msg}
use Rattle.ec_wire.specs.declared.msg.Msg.TheVariants.{Flush, Room}
use Rattle.ec_protocol.specs.declared.clerk.Clerk.{Clerk}
use Rattle.ec_coherence.specs.System.{System, clerk_in, clerk_of}
use Rattle.ec_coherence.specs.Tokens as tokens
use Rattle.ec_coherence.specs.Tokens.{TokensAgree, side_in, view}
use Rattle.ec_coherence.specs.Log as log
use Rattle.ec_coherence.specs.Log.{HasWrites, IsNumbered, LogsAgree, next_of}
use Rattle.ec_coherence.specs.Images.{ImagesAgree}
use Rattle.ec_coherence.specs.ChangeLaws.{Calls}
use Rattle.ec_coherence.proofs.ForServer.Lists.{each-more, each-turn}
use Rattle.ec_coherence.proofs.ForClerk.Sends.{pool-agrees}
use Rattle.ec_coherence.specs.CommitLaws.{AllAgree}

module _ (g : System) (all : AllAgree g) (f : ℕ → ℕ → Option Clerk) (same : (t : ℕ) → clerk_of t (g.ghost.owner t) f ≡ clerk_of t (g.ghost.owner t) g.clerks) (next : (d a : ℕ) → next_of (f d a) ≡ next_of (g.clerks d a))
    (running : ℕ → Option ℕ) (boots : ℕ → ℕ) (calls : Calls) (ms : List (ℕ × Msg)) (fits : Each (λ m. tokens.Fits (view g) m.1) ms) (logs : Each (λ m. log.Fits g m.1) ms) where
  abbrev pub h : System
  h = record g { clerks = f; running = running; boots = boots; calls = calls; pool = g.pool ++ ms }

  view-same : view h ≡ record (view g) { pool = g.pool ++ ms }
  view-same = λ j. record (view g) { clerk = λ t. side_in (same t j); pool = g.pool ++ ms }

  pub tokens-stay : TokensAgree (view h)
  tokens-stay = subst TokensAgree (sym view-same) (pool-agrees (view g) (g.pool ++ ms) (all.0).tokens (each-more (λ m. tokens.Fits (view g) m.1) g.pool ms ((all.0).tokens).messages fits))

  was-in : (t : ℕ) (k : Clerk) → clerk_in h t ≡ Some k → clerk_in g t ≡ Some k
  was-in t k i = sym (same t) ∙ i

  fit-kept : (m : Msg) → log.Fits g m → log.Fits h m
  fit-kept (Flush t e b ops) q = λ c sl p s o u k i. q c sl p s o u k (was-in t k i)
  fit-kept (Room t e got ask) q = λ c sl p s o u k i. q c sl p s o u k (was-in t k i)
  fit-kept _ q = q

  pub logs-stay : LogsAgree h
  logs-stay = let a = (all.0).logs in record {
    writes = each-turn (λ o. T (not (g.ghost.is_durable o)) → HasWrites g o) (λ o. T (not (g.ghost.is_durable o)) → HasWrites h o) g.ghost.kept
        (λ o f d. let w = f d in record { session = w.session; clerk = w.clerk; in_place = same w.session ∙ w.in_place; is_open = w.is_open; own = w.own; writes = w.writes }) a.writes;
    logs = λ s d sl p q o k j. (let l = a.logs s d sl p q o k (was-in s k j) in record { knows = l.knows; ids = l.ids });
    starts = λ d b. subst (IsNumbered g.ghost d b) (sym (next d b)) (a.starts d b);
    closed = a.closed;
    unopened = a.unopened;
    untaken = a.untaken;
    messages = each-more (λ m. log.Fits h m.1) g.pool ms (each-turn (λ m. log.Fits g m.1) (λ m. log.Fits h m.1) g.pool (λ m q. fit-kept m.1 q) a.messages) (each-turn (λ m. log.Fits g m.1) (λ m. log.Fits h m.1) ms (λ m q. fit-kept m.1 q) logs);
    unspent = a.unspent;
    once = a.once;
    apart = a.apart;
    whole = λ s x c sl p q o k i. a.whole s x c sl p q o k (was-in s k i);
  }

  pub images-stay : ImagesAgree h
  images-stay = let a = (all.0).images in record {
    server = a.server;
    fits = a.fits;
    sound = a.sound;
    origin = a.origin;
    origin_held = a.origin_held;
    licences = λ s x k i. a.licences s x k (was-in s k i);
    unfrozen = a.unfrozen;
    unopened = a.unopened;
    cut_off = a.cut_off;
    known = a.known;
    operands = a.operands;
  }
