-- An index of the starts of clerks.
use Rattle.std.specs.Prelude.{ℕ, Option}
use Rattle.std.specs.BTreeMap.{BTreeMap, get}
use Rattle.std.specs.declared.cmp.Ordering.{Ordering}
use Rattle.std.specs.Ordering.{nat_cmp, ordering_then}

-- by clerk, and then by boot
abbrev pub start_cmp : ℕ × ℕ → ℕ × ℕ → Ordering
start_cmp a b = ordering_then (nat_cmp a.0 b.0) (nat_cmp a.1 b.1)

-- where the start is
abbrev pub indexed : BTreeMap (ℕ × ℕ) ℕ → ℕ → ℕ → Option ℕ
indexed m c b = get start_cmp m (c, b)
