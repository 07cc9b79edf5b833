-- What is proved of the sums of the measure, as contracts name it.
use Rattle.std.specs.Prelude.{◌≡◌, ◌+◌, ◌≤◌, ℕ, T, List, Option, None, Some}
use Rattle.std.specs.Ordering.{nat_cmp}
use Rattle.std.specs.FinMap.{find, is_sorted}
use Rattle.ec_base.specs.Tables.{Table, at, put}
use Rattle.ec_volume.specs.Update.{member}
use Rattle.ec_sessions.specs.OfTokens.Tokens.{Holder, Row, Tokens, holders, token, with_row}
use Rattle.ec_sessions.specs.declared.tokens.token.Token.{Token}
use Rattle.ec_protocol.specs.declared.clerk.Clerk.{Clerk}
use Rattle.ec_quiet.specs.Measure.{sum}

-- it falls by as much as one term
abbrev pub SumsFall : Type 0
SumsFall = (f g : ℕ → ℕ) → ((x : ℕ) → f x ≤ g x) → (y d : ℕ) → f y + d ≤ g y → (xs : List ℕ) → T (member y xs) → sum f xs + d ≤ sum g xs

-- what a session's token adds to a sum over holders
abbrev pub part_of : (Holder → ℕ) → ℕ → Option Token → ℕ
part_of f s None = 0
part_of f s (Some t) = f (s, t.hold, t.number)

-- the tokens of a session become those of the row
abbrev pub RowsChange : Type 0
RowsChange = (f : Holder → ℕ) (x s : ℕ) (r : Row) (ts : Tokens) → T (is_sorted nat_cmp ts) → sum f (holders (with_row s r ts) x) + part_of f s (token ts s x) ≡ sum f (holders ts x) + part_of f s (find nat_cmp x r)

-- what the value of a key adds to a sum over a table
abbrev pub value_of : {X : Type 0} → (ℕ × X → ℕ) → ℕ → Option X → ℕ
value_of f k None = 0
value_of f k (Some x) = f (k, x)

abbrev pub ValuesChange : Type 0
ValuesChange = (f : ℕ × Clerk → ℕ) (k : ℕ) (x : Clerk) (es : Table Clerk) → T (is_sorted nat_cmp es) → sum f (put k x es) + value_of f k (at k es) ≡ sum f es + f (k, x)
