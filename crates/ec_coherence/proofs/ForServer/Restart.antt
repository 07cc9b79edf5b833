-- The server stops, and starts again in a later epoch.
use Rattle.std.proofs.Common.{◌≡◌, refl, arith, ℕ, ◌≤◌, ◌<◌, []}
use Rattle.std.specs.Prelude.{Option, None, Some}
use Rattle.ec_wire.specs.declared.msg.Msg.{Msg}
use Rattle.ec_wire.specs.declared.msg.Msg.TheVariants.{Want, Back, Flush, Room, Claim, Bye, Opened, Grant, Recall, Ids, Restarted}
use Rattle.ec_coherence.specs.System.{Eff}
use Rattle.ec_coherence.specs.Tokens.{Tables, View, eff, IsEarlier, Passed, Fits, TablesAgree, TokensAgree}
use Rattle.ec_coherence.proofs.ForServer.Changed.{over}
use Rattle.ec_coherence.proofs.ForServer.Tables.{each-map}

-- A stopped server: what was effective stays.
module _ (w : View) (v : Tables) (agree : TokensAgree (over v w)) where
  abbrev pub stopped : View
  stopped = record w { tables = None; old = λ t x. eff (over v w) t x }

  message-kept : (m : Msg) → Fits (over v w) m → Fits stopped m
  message-kept (Room t e got ask) q = (q.0, λ k i. ((q.1 k i).0, λ a o. tt))
  message-kept (Claim t e l) q = (q.0, (λ a o. tt), q.2)
  message-kept (Opened age t e) q = (q.0, tt)
  message-kept (Grant t e x m h i) q = (q.0, (λ a o. tt), q.2, q.3, q.4)
  message-kept (Ids t e got m first) q = (q.0, (λ a o. tt), (λ a o. tt), q.3, q.4, q.5)
  message-kept (Want t e x h l) q = q
  message-kept (Back t e x m h) q = q
  message-kept (Flush t e b ops) q = q
  message-kept (Bye t e) q = q
  message-kept (Recall t e x m h) q = q
  message-kept (Restarted t e) q = q
  message-kept _ q = q

  pub stopped-agrees : TokensAgree stopped
  stopped-agrees = record {
    held = agree.held;
    holds = agree.holds;
    known = agree.known;
    next = agree.next;
    exclusive = agree.exclusive;
    below = agree.below;
    got = agree.got;
    given = agree.given;
    alone = agree.alone;
    lasts = agree.lasts;
    recalled = agree.recalled;
    present = agree.present;
    messages = each-map (λ m. Fits (over v w) m.1) (λ m. Fits stopped m.1) w.pool (λ m. message-kept m.1) agree.messages;
    tables = tt;
  }

-- no tables while the server is stopped
abbrev pub down : View → View
down w = record w { tables = None }

abbrev pub new_tables : Tables
new_tables = record { tokens = []; recalls = []; claimed = []; number = 0; recorded = [] }

-- A started server: no session has claimed in the new epoch.
module _ (w : View) (e : ℕ) (agree : TokensAgree (down w)) (later : w.epoch < e) where
  abbrev pub started : View
  started = record w { tables = Some new_tables; epoch = e }

  pass : (t d : ℕ) → Passed (down w) t d → Passed started t d
  pass t d p = (p.0, (let a = p.1 in omega arith), p.2)

  -- nothing was said in the new epoch
  past : (d : ℕ) → d ≤ w.epoch → d ≡ e → ⊥
  past d a b = absurd (omega arith)

  raise : (m : Msg) → Fits (down w) m → Fits started m
  raise (Want t d x h l) q = (pass t d q.0, q.1, q.2, q.3)
  raise (Back t d x m h) q = (pass t d q.0, q.1, q.2)
  raise (Flush t d b ops) q = pass t d q
  raise (Room t d got ask) q = (pass t d q.0, λ k i. ((q.1 k i).0, λ a o. absurd (past d q.0.1 a)))
  raise (Claim t d l) q = (pass t d q.0, (λ a o. absurd (past d q.0.1 a)), q.2)
  raise (Bye t d) q = pass t d q
  raise (Opened age t d) q = ((let a = q.0 in omega arith), λ c u. absurd c)
  raise (Grant t d x m h i) q = (pass t d q.0, (λ a o. absurd (past d q.0.1 a)), q.2, q.3, q.4)
  raise (Recall t d x m h) q = (pass t d q.0, q.1)
  raise (Ids t d got m first) q = (pass t d q.0, (λ a o. absurd (past d q.0.1 a)), (λ a o. absurd (past d q.0.1 a)), q.3, q.4, q.5)
  raise (Restarted t d) q = let a = q in omega arith
  raise _ q = q

  tables : TablesAgree started new_tables
  tables = record {
    sound = record { apart = λ s t x d. refl; held = λ s x k p. absurd (cc); rising = tt; rows = λ s r p. absurd (cc) };
    are_open = λ s c. absurd c;
    epochs = λ s c. absurd c;
    others = λ s x c. (refl, λ o. go (w.old s x) (agree.known s x));
    wants = tt;
    apart = tt;
    numbers = λ s x k p. absurd (cc);
    recorded = λ s m p. absurd (cc);
    unrecorded = λ s x c p h. refl;
  }
    where
      go : {x : ℕ} {A : Type 0} (o : Option Eff) → ((f : Eff) → o ≡ Some f → (x < w.next_token) × A × (f.epoch ≤ w.epoch)) → IsEarlier e o
      go None f = tt
      go (Some h) f = let a = (f h refl).2 in omega arith

  pub started-agrees : TokensAgree started
  started-agrees = record {
    held = agree.held;
    holds = agree.holds;
    known = λ s x f p. let q = agree.known s x f p in (q.0, q.1, let a = q.2 in omega arith);
    next = agree.next;
    exclusive = agree.exclusive;
    below = agree.below;
    got = λ s k i. let q = agree.got s k i in ((let a = q.0 in omega arith), q.1, q.2, q.3);
    given = agree.given;
    alone = agree.alone;
    lasts = agree.lasts;
    recalled = agree.recalled;
    present = agree.present;
    messages = each-map (λ m. Fits (down w) m.1) (λ m. Fits started m.1) w.pool (λ m. raise m.1) agree.messages;
    tables = tables;
  }
