-- Lost operations, and what is owed of them.
use Rattle.std.specs.Prelude.{ℕ, Bool, nat_lt, List, filter}
use Rattle.std.specs.List.{list_all}
use Rattle.ec_volume.specs.Update.{member}
use Rattle.ec_order.specs.Order.{Issued}
use Rattle.ec_cache.specs.OfReport.Report.{Owed}

-- those of the operations that have one of these numbers
abbrev pub lost_of : List ℕ → Issued → Issued
lost_of ns ops = filter (λ op. member op.0 ns) ops

-- all that is owed comes before this number
abbrev pub owed_before : ℕ → Owed → Bool
owed_before n owed = list_all (λ q. nat_lt q.0 n) owed
