-- Owed mentions by operation, and by object.
use Rattle.std.specs.Prelude.{◌≡◌, ◌==◌, ℕ, Bool, T, not, if◌then◌else◌, nat_lt, List, [], ◌∷◌, ◌++◌, filter, Option, None, Some, is_some}
use Rattle.std.specs.List.{list_all}
use Rattle.std.specs.List.Sorted.{IsStrictlyIncreasing}
use Rattle.std.specs.Ordering.{nat_cmp}
use Rattle.std.specs.FinMap.{find, is_sorted}
use Rattle.ec_base.specs.Tables.{once}
use Rattle.ec_volume.specs.Update.{member}
use Rattle.ec_cache.specs.OfReport.Report.{pairs_of}

-- by rising operation the objects on which it's still owed; by object the operations that are owed on it
abbrev pub Rows : Type 0
Rows = List (ℕ × List ℕ)

abbrev pub ops_of : Option (List ℕ) → List ℕ
ops_of None = []
ops_of (Some ops) = ops

abbrev pub ops_at : ℕ → Rows → List ℕ
ops_at x places = ops_of (find nat_cmp x places)

-- the operations of the rows that have the object
abbrev pub having : ℕ → Rows → List ℕ
having x [] = []
having x (r ∷ rs) = if member x r.1 then r.0 ∷ having x rs else having x rs

-- both maps have the same mentions
pub record HaveSameMentions (rows : Rows) (places : Rows) : Type 0 where
  pub rising : T (is_sorted nat_cmp rows)
  pub alike : (x : ℕ) → ops_at x places ≡ having x rows

-- the operation is above each that is owed
abbrev pub is_above : ℕ → Rows → Bool
is_above op rows = list_all (λ q. nat_lt q.0 op) (pairs_of rows)

abbrev pub without_object : ℕ → List ℕ → List ℕ
without_object x objs = filter (λ o. not (o == x)) objs

-- the rows without the object
abbrev pub stripped : ℕ → Rows → Rows
stripped x [] = []
stripped x (r ∷ rs) = (r.0, without_object x r.1) ∷ stripped x rs

-- the operations at these objects
abbrev pub gathered : List ℕ → Rows → List ℕ
gathered [] places = []
gathered (x ∷ xs) places = ops_at x places ++ gathered xs places

-- these operations, each once and rising
pub record IsDue (touched : List ℕ) (places : Rows) (ops : List ℕ) : Type 0 where
  pub rising : IsStrictlyIncreasing ops
  pub members : (n : ℕ) → member n ops ≡ member n (gathered touched places)

-- the objects of the list, each once, but those that were seen
abbrev pub fresh : List ℕ → List ℕ → List ℕ
fresh seen objs = filter (λ x. not (member x seen)) (once objs)

-- the keys are those of the list
abbrev pub AreSeen : List ℕ → List (ℕ × Unit {0}) → Type 0
AreSeen list seen = (x : ℕ) → is_some (find nat_cmp x seen) ≡ member x list
