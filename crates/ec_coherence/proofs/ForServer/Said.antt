-- A message is sent.
use Rattle.std.proofs.Common.{ℕ, List, [], ◌∷◌, ◌++◌}
use Rattle.ec_history.specs.History.{Each}
use Rattle.ec_wire.specs.declared.msg.Msg.{Msg}
use Rattle.ec_coherence.specs.Tokens.{Tables, View, Fits, TablesAgree, TokensAgree}
use Rattle.ec_coherence.proofs.ForServer.Changed.{over}
use Rattle.ec_coherence.proofs.ForServer.Tables.{each-map}
use Rattle.ec_history.proofs.HistoryLemmas.{each-more as each-append}

abbrev pub with_pool : List (ℕ × Msg) → View → View
with_pool p w = record w { pool = p }

module _ (w : View) (v : Tables) (p : List (ℕ × Msg)) (agree : TokensAgree (over v w)) where
  tables : TablesAgree (over v (with_pool p w)) v
  tables = let a = agree.tables in record {
    sound = a.sound;
    are_open = a.are_open;
    epochs = a.epochs;
    others = a.others;
    wants = a.wants;
    apart = a.apart;
    numbers = a.numbers;
    recorded = a.recorded;
    unrecorded = a.unrecorded;
  }

  -- the facts about the pool are those about each of its messages
  pub with-pool-agrees : Each (λ m. Fits (over v w) m.1) p → TokensAgree (over v (with_pool p w))
  with-pool-agrees f = record {
    held = agree.held;
    holds = agree.holds;
    known = agree.known;
    next = agree.next;
    exclusive = agree.exclusive;
    below = agree.below;
    got = agree.got;
    given = agree.given;
    alone = agree.alone;
    lasts = agree.lasts;
    recalled = agree.recalled;
    present = agree.present;
    messages = each-map (λ m. Fits (over v w) m.1) (λ m. Fits (over v (with_pool p w)) m.1) p (λ m q. q) f;
    tables = tables;
  }

pub said-agrees : (w : View) (v : Tables) (c : ℕ) (m : Msg) → TokensAgree (over v w) → Fits (over v w) m → TokensAgree (over v (with_pool (w.pool ++ (c, m) ∷ []) w))
said-agrees w v c m agree f = with-pool-agrees w v (w.pool ++ (c, m) ∷ []) agree (each-append (λ m. Fits (over v w) m.1) w.pool ((c, m) ∷ []) agree.messages (f, tt))
