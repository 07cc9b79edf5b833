-- The entries of a directory: a finite map from names to ids, as the list of its entries with the names rising in byte order.
use Rattle.std.specs.Prelude.{ℕ, Bool, not, List, Option}
use Rattle.std.specs.Ordering.{nat_cmp, eq_by_cmp}
use Rattle.std.specs.Cmp.Lexicographic.{slice_cmp}
use Rattle.std.specs.FinMap.{find, put}
use Rattle.std.specs.FinMap.Entries.{where_key}
use Rattle.std.specs.declared.cmp.Ordering.{Ordering}

abbrev pub Entries : Type 0
Entries = List (List ℕ × ℕ)

abbrev pub by_bytes : List ℕ → List ℕ → Ordering
by_bytes = slice_cmp nat_cmp

abbrev pub same_name : List ℕ → List ℕ → Bool
same_name = eq_by_cmp by_bytes

-- the id that the name stands for
abbrev pub entry : Entries → List ℕ → Option ℕ
entry es n = find by_bytes n es

abbrev pub with_entry : Entries → List ℕ → ℕ → Entries
with_entry es n o = put by_bytes n o es

abbrev pub without_entry : Entries → List ℕ → Entries
without_entry es n = where_key by_bytes (λ m. not (same_name n m)) es
