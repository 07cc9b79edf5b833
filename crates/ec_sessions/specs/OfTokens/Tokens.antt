-- The tokens that sessions hold: a map by session of maps by object, each as the list of its pairs with rising keys.
use Rattle.std.specs.Prelude.{◌==◌, ℕ, Bool, false, not, ◌&&◌, if◌then◌else◌, List, [], ◌∷◌, length, filter, is_none, Option, None, Some}
use Rattle.std.specs.Ordering.{nat_cmp}
use Rattle.std.specs.FinMap.{find, put}
use Rattle.ec_base.specs.Sorted.{without}
use Rattle.ec_base.specs.declared.ids.Hold.{Hold}
use Rattle.ec_base.specs.declared.ids.Hold.TheVariants.{Free}
use Rattle.ec_sessions.specs.declared.tokens.token.Token.{Token}
use Rattle.ec_base.specs.Holds.{is_free, is_below, clash}

-- A session's tokens, by object.
abbrev pub Row : Type 0
Row = List (ℕ × Token)

abbrev pub Tokens : Type 0
Tokens = List (ℕ × Row)

abbrev pub row_of : Option Row → Row
row_of None = []
row_of (Some r) = r

abbrev pub row : Tokens → ℕ → Row
row ts s = row_of (find nat_cmp s ts)

abbrev pub token : Tokens → ℕ → ℕ → Option Token
token ts s x = find nat_cmp x (row ts s)

abbrev pub mode : Option Token → Hold
mode None = Free
mode (Some t) = t.hold

-- Who holds a token on the object, in session order: the session, the mode and the number.
abbrev pub Holder : Type 0
Holder = ℕ × Hold × ℕ

abbrev pub held_by : ℕ → Option Token → List Holder → List Holder
held_by s None more = more
held_by s (Some t) more = (s, t.hold, t.number) ∷ more

abbrev pub holders : Tokens → ℕ → List Holder
holders [] x = []
holders (r ∷ rs) x = held_by r.0 (find nat_cmp x r.1) (holders rs x)

-- Those of other sessions that conflict with this mode.
abbrev pub is_conflict : ℕ → Hold → Holder → Bool
is_conflict s h holder = not (holder.0 == s) && clash holder.1 h

abbrev pub conflicts : Tokens → ℕ → ℕ → Hold → List Holder
conflicts ts s x h = filter (is_conflict s h) (holders ts x)

abbrev pub first_holder : List Holder → Option ℕ
first_holder [] = None
first_holder (holder ∷ more) = Some holder.0

abbrev pub first_conflict : Tokens → ℕ → ℕ → Hold → Option ℕ
first_conflict ts s x h = first_holder (conflicts ts s x h)

abbrev pub is_clear : Tokens → ℕ → ℕ → Hold → Bool
is_clear ts s x h = is_none (first_conflict ts s x h)

-- The session's token on the object is this one.
abbrev pub granted : ℕ → ℕ → Hold → ℕ → Tokens → Tokens
granted s x h n ts = put nat_cmp s (put nat_cmp x (record { hold = h; number = n }) (row ts s)) ts

-- A token with this number, and not below the mode, can be given back to it.
abbrev pub fits_back : Option Token → ℕ → Hold → Bool
fits_back None n to = false
fits_back (Some t) n to = (t.number == n) && not (is_below t.hold to)

abbrev pub lowered_in : ℕ → Hold → ℕ → Row → Row
lowered_in x to n r = if is_free to then without nat_cmp x r else put nat_cmp x (record { hold = to; number = n }) r

-- The session's tokens are those of the row. A session without a token has no row.
abbrev pub with_row : ℕ → Row → Tokens → Tokens
with_row s r ts = if length r == 0 then without nat_cmp s ts else put nat_cmp s r ts

-- The session's token of this number on the object is lowered; to Free it's none.
abbrev pub lowered : ℕ → ℕ → Hold → ℕ → Tokens → Tokens
lowered s x to n ts = with_row s (lowered_in x to n (row ts s)) ts

-- Each token of the list is recorded with number 0.
abbrev pub claimed_in : List (ℕ × Hold) → Row → Row
claimed_in [] r = r
claimed_in (e ∷ es) r = claimed_in es (put nat_cmp e.0 (record { hold = e.1; number = 0 }) r)

abbrev pub claimed : ℕ → List (ℕ × Hold) → Tokens → Tokens
claimed s list ts = with_row s (claimed_in list (row ts s)) ts

-- The first of the list that conflicts: the object, and the first session whose token conflicts.
abbrev pub clash_at : ℕ → Option ℕ → Option (ℕ × ℕ) → Option (ℕ × ℕ)
clash_at x (Some t) later = Some (x, t)
clash_at x None later = later

abbrev pub first_clash : Tokens → ℕ → List (ℕ × Hold) → Option (ℕ × ℕ)
first_clash ts s [] = None
first_clash ts s (e ∷ es) = clash_at e.0 (first_conflict ts s e.0 e.1) (first_clash ts s es)
