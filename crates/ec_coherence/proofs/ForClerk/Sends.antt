-- A clerk sends a message, whether the server runs or not.
use Rattle.std.proofs.Common.{◌≡◌, ℕ, List, [], ◌∷◌, ◌++◌}
use Rattle.ec_history.specs.History.{Each}
use Rattle.ec_wire.specs.declared.msg.Msg.{Msg}
use Rattle.ec_coherence.specs.Tokens.{Tables, View, Fits, TablesAgree, TokensAgree}
use Rattle.ec_coherence.proofs.ForServer.Said.{with_pool}
use Rattle.ec_coherence.proofs.ForClerk.Sides.{while-map}
use Rattle.ec_coherence.proofs.ForServer.Tables.{each-map}
use Rattle.ec_history.proofs.HistoryLemmas.{each-more as each-append}

module _ (w : View) (p : List (ℕ × Msg)) (agree : TokensAgree w) where
  tables-kept : (v : Tables) → w.tables ≡ Rattle.std.specs.Prelude.Some v → TablesAgree w v → TablesAgree (with_pool p w) v
  tables-kept v up a = record {
    sound = a.sound;
    are_open = a.are_open;
    epochs = a.epochs;
    others = a.others;
    wants = a.wants;
    apart = a.apart;
    numbers = a.numbers;
    recorded = a.recorded;
    unrecorded = a.unrecorded;
  }

  -- the facts about the pool are those about each of its messages
  pub pool-agrees : Each (λ m. Fits w m.1) p → TokensAgree (with_pool p w)
  pool-agrees f = record {
    held = agree.held;
    holds = agree.holds;
    known = agree.known;
    next = agree.next;
    exclusive = agree.exclusive;
    below = agree.below;
    got = agree.got;
    given = agree.given;
    alone = agree.alone;
    lasts = agree.lasts;
    recalled = agree.recalled;
    present = agree.present;
    messages = each-map (λ m. Fits w m.1) (λ m. Fits (with_pool p w) m.1) p (λ m q. q) f;
    tables = while-map w.tables (TablesAgree w) (TablesAgree (with_pool p w)) tables-kept agree.tables;
  }

-- this message too
abbrev pub sent : ℕ → Msg → View → View
sent c m w = with_pool (w.pool ++ (c, m) ∷ []) w

pub sent-agrees : (w : View) (c : ℕ) (m : Msg) → TokensAgree w → Fits w m → TokensAgree (sent c m w)
sent-agrees w c m agree f = pool-agrees w (w.pool ++ (c, m) ∷ []) agree (each-append (λ m. Fits w m.1) w.pool ((c, m) ∷ []) agree.messages (f, tt))
