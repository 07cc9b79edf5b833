-- The order of the operations of a log.
use Rattle.std.specs.Prelude.{◌≡◌, ◌≤◌, ℕ, T, Bool, true, false, nat_le}
use Rattle.std.specs.FinMap.{is_sorted}
use Rattle.std.specs.List.{list_all}
use Rattle.std.specs.Ordering.{nat_cmp}
use Rattle.ec_order.specs.Order.{Issued}
use Rattle.ec_log.specs.OfChains.Held.{is_behind}
use Rattle.ec_log.specs.declared.state.Pick.{Pick}
use Rattle.ec_log.specs.declared.state.Pick.TheVariants as pick_of
use Rattle.ec_log.specs.declared.state.LogState.{LogState}

-- The operations of a session: from its first one on, rising, and before the next one.

abbrev pub is_from : ℕ → Issued → Bool
is_from n ops = list_all (λ op. nat_le n op.0) ops

pub record AreOwn (l : LogState) : Type 0 where
  pub begun : l.first ≤ l.next
  pub rising : T (is_sorted nat_cmp l.undurable)
  pub from : is_from l.first l.undurable ≡ true
  pub behind : is_behind l.next l.undurable ≡ true

-- a new batch begins
abbrev pub is_new : Pick → Bool
is_new (pick_of.Batch b ns) = true
is_new _ = false
