-- The facts on sessions where neither the slots nor the clerks change; and those on stops, from the ones on images.
use Rattle.std.proofs.Common.{◌≡◌, sym, subst, inl, inr, ℕ, T, not, List, ◌++◌, [], Option, Some, append-nil}
use Rattle.ec_history.specs.History.{Each}
use Rattle.ec_history.specs.declared.shown.Shown.{Shown}
use Rattle.ec_wire.specs.Messages.{is_sound}
use Rattle.ec_wire.specs.declared.msg.Msg.{Msg}
use Rattle.ec_protocol.specs.Server.{Serving, new_server, serving}
use Rattle.ec_protocol.specs.declared.server.Server.{Server}
use Rattle.ec_coherence.specs.System.{System, Ghost, is_open}
use Rattle.ec_coherence.specs.Sessions.{Fits, SessionsAgree}
use Rattle.ec_coherence.specs.Log as log
use Rattle.ec_coherence.specs.Log.{LogsAgree}
use Rattle.ec_coherence.specs.Images.{ImagesAgree}
use Rattle.ec_coherence.specs.Stops.{MayStep, RunsOn, StopsAgree}
use Rattle.ec_coherence.specs.Steps.{serving_in}
use Rattle.ec_coherence.proofs.ForServer.Lists.{each-front, each-turn}
use Rattle.ec_lawful.specs.Founds.{bare}
use Rattle.ec_base.proofs.Bools.{not-both as no_both}

-- Of the ghosts the owners and what was taken are read.
module _ (g : System) (v : Option Server) (p : List (ℕ × Msg)) (e : g.pool ≡ p) (γ : Ghost) where
  abbrev pub owned_in : System
  owned_in = record g { server = v; pool = p; ghost = record γ { owner = g.ghost.owner; taken = g.ghost.taken } }

  pub owned-sessions : SessionsAgree g → SessionsAgree owned_in
  owned-sessions a = record {
    sixteen = a.sixteen;
    next = a.next;
    slots = a.slots;
    owned = a.owned;
    once = a.once;
    taken = a.taken;
    told = a.told;
    starts = a.starts;
    rounds = a.rounds;
    running = a.running;
    in_session = a.in_session;
    without = a.without;
    current = a.current;
    sound = subst (Each (λ m. T (is_sound m.1))) e a.sound;
    messages = each-turn (λ m. Fits g m.0 m.1) (λ m. Fits owned_in m.0 m.1) p (λ m f. f) (subst (Each (λ m. Fits g m.0 m.1)) e a.messages);
  }

-- as a server would have them that took no step yet
abbrev pub idle : System → Serving
idle g = serving (new_server g.durable)

pub idle-sessions : (g : System) → SessionsAgree (bare g) → SessionsAgree (serving_in (idle g) g.ghost (bare g))
idle-sessions g a = owned-sessions (bare g) (Some (new_server g.durable)) (g.pool ++ []) (sym (append-nil g.pool)) g.ghost a

pub stops-of : (g : System) → RunsOn g g.server → MayStep g g.unshown → ImagesAgree g → StopsAgree g
stops-of g runs doubt im = record {
  runs = runs;
  doubt = doubt;
  open_sessions = im.unfrozen;
  ended = λ s o n. elim (im.cut_off s o) [ inl p ↦ absurd (no_both (is_open g s) p n) | inr q ↦ q ];
}

-- Logs and images where lines are shown and the last messages go.
module _ (g : System) (ss : List Shown) (p q : List (ℕ × Msg)) (split : g.pool ≡ p ++ q) where
  abbrev fewer : System
  fewer = record g { pool = p; ghost = record (g.ghost) { shown = ss } }

  pub fewer-logs : LogsAgree g → LogsAgree fewer
  fewer-logs a = record {
    writes = each-turn (λ o. T (not (g.ghost.is_durable o)) → log.HasWrites g o) (λ o. T (not (g.ghost.is_durable o)) → log.HasWrites fewer o) g.ghost.kept
        (λ o f d. let w = f d in record { session = w.session; clerk = w.clerk; in_place = w.in_place; is_open = w.is_open; own = w.own; writes = w.writes }) a.writes;
    logs = λ s c sl p q o k j. (let l = a.logs s c sl p q o k j in record { knows = l.knows; ids = l.ids });
    starts = λ c b. (let n = a.starts c b in record { from_one = n.from_one; sorted = n.sorted; numbers = n.numbers; none_later = n.none_later });
    closed = a.closed;
    unopened = a.unopened;
    untaken = a.untaken;
    messages = each-turn (λ m. log.Fits g m.1) (λ m. log.Fits fewer m.1) p (λ m f. f) (each-front (λ m. log.Fits g m.1) p q (subst (Each (λ m. log.Fits g m.1)) split a.messages));
    unspent = a.unspent;
    once = a.once;
    apart = a.apart;
    whole = a.whole;
  }

  pub fewer-images : ImagesAgree g → ImagesAgree fewer
  fewer-images a = record { server = a.server; fits = a.fits; sound = a.sound; origin = a.origin; origin_held = a.origin_held; licences = a.licences; unfrozen = a.unfrozen; unopened = a.unopened; cut_off = a.cut_off; known = a.known; operands = a.operands }
