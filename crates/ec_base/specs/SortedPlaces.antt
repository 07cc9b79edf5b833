-- Where a key stands or would go in a list of pairs whose keys rise strictly.
use Rattle.std.specs.Prelude.{◌≡◌, ℕ, ◌<◌, ◌≤◌, List, length, None, Some, slice_index_or, slice_set}
use Rattle.std.specs.declared.cmp.Ordering.{Ordering}
use Rattle.std.specs.List.{insert, remove}
use Rattle.std.specs.FinMap.Entries.{find, put}
use Rattle.ec_base.specs.Sorted.{without}

-- the key is that of the pair at this place
pub record StandsAt {K X : Type 0} (R : K → K → Ordering) (k : K) (es : List (K × X)) (at : ℕ) : Type 0 where
  pub within : at < length es
  pub found : (pair : K × X) → find R k es ≡ Some (slice_index_or es at pair).1
  pub changed : (pair : K × X) (v : X) → put R k v es ≡ slice_set es at ((slice_index_or es at pair).0, v)
  pub removed : without R k es ≡ remove es at

-- the key is none of the list's, and would go to this place
pub record GoesAt {K X : Type 0} (R : K → K → Ordering) (k : K) (es : List (K × X)) (at : ℕ) : Type 0 where
  pub within : at ≤ length es
  pub absent : find R k es ≡ None
  pub added : (v : X) → put R k v es ≡ insert es at (k, v)
  pub kept : without R k es ≡ es
