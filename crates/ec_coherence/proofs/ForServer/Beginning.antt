-- All facts hold at the beginning.
use Rattle.std.proofs.Common.{◌≡◌, refl, sym, ◌∙◌, arith, ℕ, zero, suc, Bool, true, false, not, cond, ◌<◌, T, List, replicate}
use Rattle.std.specs.Prelude.{◌==◌, Option, None, Some, slice_index_or}
use Rattle.ec_volume.specs.Image.{is_gone, new_object}
use Rattle.ec_volume.specs.Update.{root}
use Rattle.ec_volume.specs.declared.image.Image.TheVariants.{Gone}
use Rattle.ec_volume.specs.declared.image.Kind.TheVariants as kind
use Rattle.ec_history.proofs.OfLaws.ForFormed.Formatted.{formatted-formed, formatted-held}
use Rattle.ec_sessions.specs.declared.slot.Slot.{Slot}
use Rattle.ec_durable.specs.Durable.{formatted, slot}
use Rattle.ec_coherence.specs.System.{System}
use Rattle.ec_coherence.specs.Sessions.{SessionsAgree}
use Rattle.ec_coherence.specs.Tokens.{TokensAgree, view}
use Rattle.ec_coherence.specs.Log.{LogsAgree}
use Rattle.ec_coherence.specs.Images.{ImagesAgree}
use Rattle.ec_coherence.specs.Events.{EventsAgree}
use Rattle.ec_coherence.specs.Stops.{StopsAgree}
use Rattle.ec_coherence.specs.Opening.{opening, OpeningAgrees, FirstStartStands}
use Rattle.ec_coherence.proofs.ForServer.Start.{start-stands}
use Rattle.ec_base.proofs.Options.{none_some}
use Rattle.ec_base.proofs.Numbers.{equal}

abbrev no-slots : ℕ → List (Option Slot)
no-slots n = replicate n None

pub none-in : (n c : ℕ) → slice_index_or (no-slots n) c None ≡ None
none-in zero c = refl
none-in (suc n) zero = refl
none-in (suc n) (suc c) = none-in n c

module _ (most : ℕ) where
  abbrev g : System
  g = opening most

  -- nobody had a session
  no-slot : {A : Type 0} (c : ℕ) (sl : Slot) → slot (formatted most) c ≡ Some sl → A
  no-slot c sl p = absurd (none_some (sym (none-in 16 c) ∙ p))

  opening-sessions : SessionsAgree g
  opening-sessions = record {
    sixteen = refl;
    next = omega arith;
    slots = λ c sl p. no-slot c sl p;
    owned = λ s o p. absurd (none_some p);
    once = λ s t o p q. absurd (none_some p);
    taken = λ s t. absurd t;
    told = λ s o k p q. absurd (none_some p);
    starts = λ c b k p. absurd (none_some p);
    rounds = λ c b n k p. absurd (none_some p);
    running = λ c b p. absurd (none_some p);
    in_session = λ c b s k p. absurd (none_some p);
    without = λ c b k p. absurd (none_some p);
    current = λ c b s k p. absurd (none_some p);
    sound = tt;
    messages = tt;
  }

  opening-tokens : TokensAgree (view g)
  opening-tokens = record {
    held = λ s x f p. absurd (none_some p);
    holds = λ s x k p. absurd (none_some p);
    known = λ s x f p. absurd (none_some p);
    next = omega arith;
    exclusive = λ s t x n o p. tt;
    below = λ s x k p. absurd (none_some p);
    got = λ s k p. absurd (none_some p);
    given = λ s l. absurd (omega arith);
    alone = λ s x h. absurd h;
    lasts = λ s x k p. absurd (none_some p);
    recalled = λ s k p. absurd (none_some p);
    present = λ s o t. absurd t;
    messages = tt;
    tables = tt;
  }

  opening-logs : LogsAgree g
  opening-logs = record {
    writes = tt;
    logs = λ s c sl p. no-slot c sl p;
    starts = λ c b. record { from_one = omega arith; sorted = tt; numbers = tt; none_later = λ o t l. refl };
    closed = tt;
    unopened = λ s p. refl;
    untaken = λ s c sl p. no-slot c sl p;
    messages = tt;
    unspent = λ s x c sl p. no-slot c sl p;
    once = λ s c sl p. no-slot c sl p;
    apart = λ s t x n c sl p. no-slot c sl p;
    whole = λ s x c sl p. no-slot c sl p;
  }

  abbrev not-gone : Bool → Bool
  not-gone b = not (is_gone (cond b (new_object kind.Dir) Gone))

  root-known : (x : ℕ) (b : Bool) → (x == root) ≡ b → T (not-gone b) → x < 2
  root-known x true e t = let z = equal x root e in omega arith
  root-known x false e t = absurd t

  opening-images : ImagesAgree g
  opening-images = record {
    server = λ x. refl;
    fits = λ o. tt;
    sound = tt;
    origin = formatted-formed;
    origin_held = formatted-held;
    licences = λ s x k p. absurd (none_some p);
    unfrozen = λ s o. refl;
    unopened = λ s p. refl;
    cut_off = λ s t. absurd t;
    known = λ x t. root-known x (x == root) refl t;
    operands = tt;
  }

  opening-events : EventsAgree g
  opening-events = record {
    placeable = tt;
    starts = λ c b p. absurd (none_some p);
    untold = λ c b k p. absurd (none_some p);
    placed = refl;
    keeps = refl;
    legal = tt;
    owes = λ c b k p. absurd (none_some p);
    counts = λ c b k p. absurd (none_some p);
    covered = tt;
    untouched = λ s o p. absurd (none_some p);
    cuts = λ c b s k ks p. absurd (none_some p);
  }

  opening-stops : StopsAgree g
  opening-stops = record { runs = tt; doubt = tt; open_sessions = λ s o. refl; ended = λ s t. absurd t }

pub opening-agrees : OpeningAgrees
opening-agrees most = record {
  sessions = opening-sessions most;
  tokens = opening-tokens most;
  logs = opening-logs most;
  images = opening-images most;
  events = opening-events most;
  stops = opening-stops most;
}

pub first-start-stands : FirstStartStands
first-start-stands most = start-stands (opening most) (opening-agrees most) refl refl
