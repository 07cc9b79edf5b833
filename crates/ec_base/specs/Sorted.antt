-- Lists of pairs whose keys rise strictly: where a key stands or would go, and what a change there is.
-- `find`, `put`, `where_key` and `is_sorted` are std's, in `FinMap.Entries`, with lemmas on them.
use Rattle.std.specs.Prelude.{not, List}
use Rattle.std.specs.declared.cmp.Ordering.{Ordering}
use Rattle.std.specs.Ordering.{eq_by_cmp}
use Rattle.std.specs.FinMap.Entries.{where_key}

-- the pairs of the other keys
abbrev pub without : {K X : Type 0} → (K → K → Ordering) → K → List (K × X) → List (K × X)
without R k es = where_key R (λ other. not (eq_by_cmp R k other)) es
