-- Pairs of a number and an object, of which some are taken out, by the object alone.
use Rattle.std.specs.Prelude.{◌≤◌, ◌<◌, ◌+◌, ℕ, suc, T, not, ◌||◌, if◌then◌else◌, nat_le, nat_lt, List, [], ◌∷◌, ⊤}
use Rattle.std.specs.List.{filter}
use Rattle.ec_base.specs.Tables.{Table, at_or}
use Rattle.ec_volume.specs.Update.{member}

abbrev pub Pairs : Type 0
Pairs = List (ℕ × ℕ)

-- those on one of the objects, and the others
abbrev pub on_one : List ℕ → Pairs → Pairs
on_one objs qs = filter (λ q. member q.1 objs) qs

abbrev pub on_none : List ℕ → Pairs → Pairs
on_none objs qs = filter (λ q. not (member q.1 objs)) qs

-- From where on the pairs on each object stay, and up to where some stand.
abbrev pub Spans : Type 0
Spans = Table (ℕ × ℕ)

abbrev pub span : ℕ → Spans → ℕ × ℕ
span o spans = at_or (0, 0) o spans

-- those that stay, of the pairs from a place on
abbrev pub staying : Spans → ℕ → Pairs → Pairs
staying spans i [] = []
staying spans i (q ∷ qs) = if nat_le (span q.1 spans).0 i then q ∷ staying spans (suc i) qs else staying spans (suc i) qs

-- each of them stands before the end of its object's span
abbrev pub AreIn : Spans → ℕ → Pairs → Type 0
AreIn spans i [] = ⊤
AreIn spans i (q ∷ qs) = ((span q.1 spans).0 ≤ i → i < (span q.1 spans).1) × AreIn spans (suc i) qs

-- a span has each place of the spans of the objects
abbrev pub HasAll : Spans → List ℕ → ℕ × ℕ → Type 0
HasAll spans objs all = (o i : ℕ) → T (member o objs) → (span o spans).0 ≤ i → i < (span o spans).1 → (all.0 ≤ i) × (i < all.1)

abbrev pub from_to : ℕ → ℕ → ℕ × ℕ
from_to a b = (a, b)

-- the span of an object with one more pair at the end
abbrev pub extended : ℕ × ℕ → ℕ → ℕ × ℕ
extended s end = from_to (if nat_le s.1 s.0 || nat_lt end s.0 then end else s.0) (end + 1)
