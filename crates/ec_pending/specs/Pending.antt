-- Operations that are pending, and what is left of them where some are asked to be durable.
use Rattle.std.specs.Prelude.{◌≡◌, ◌≤◌, ◌+◌, ℕ, T, Bool, true, false, ◌&&◌, ◌||◌, if◌then◌else◌, nat_le, map, List, [], ◌∷◌, Option, None, Some, ⊤}
use Rattle.std.specs.List.{filter, list_any}
use Rattle.ec_base.specs.Tables.{Table, at_or}
use Rattle.ec_volume.specs.Update.{member, has_operand}
use Rattle.ec_volume.specs.declared.update.Update.{Update}
use Rattle.ec_order.specs.Order.{Issued, Holds, needs}
use Rattle.ec_log.specs.OfChains.Held.{is_behind}
use Rattle.ec_log.specs.OfChains.Walk.{passes}
use Rattle.ec_log.specs.declared.chains.closure.Ask.{Ask}
use Rattle.ec_pending.specs.declared.issue.Issue.{Issue}
use Rattle.ec_pending.specs.declared.asked.Asked.{Asked}
use Rattle.ec_pending.specs.declared.asked.Asked.TheVariants as asks

abbrev pub numbers_in : List Issue → List ℕ
numbers_in is = map (λ i. i.number) is

-- one of the operations has the number
abbrev pub is_in : List Issue → ℕ → Bool
is_in is n = member n (numbers_in is)

-- the operations by their numbers
abbrev pub numbered : List Issue → Issued
numbered is = map (λ i. (i.number, i.update)) is

-- an operation that an entry at the place issues, if any
abbrev pub issues_of : ℕ → Option ℕ → Option Update → List Issue
issues_of p None u = []
issues_of p (Some n) None = []
issues_of p (Some n) (Some u) = record { number = n; place = p; update = u } ∷ []

-- What is asked to be durable, and what it needs.

abbrev pub is_asked : Asked → Issue → Bool
is_asked asks.Nothing i = false
is_asked (asks.On o begun) i = nat_le i.place begun && has_operand o i.update
is_asked (asks.All begun) i = nat_le i.place begun

-- One by one from the last to the first: those that pass the test, and those that a later one of them needs.
abbrev pub picked_out : (Issue → Bool) → List Issue → List Issue
picked_out p [] = []
picked_out p (i ∷ is) = if p i || list_any (λ j. needs i.update j.update) (picked_out p is) then i ∷ picked_out p is else picked_out p is

-- the others
abbrev pub rest : (Issue → Bool) → List Issue → List Issue
rest p [] = []
rest p (i ∷ is) = if p i || list_any (λ j. needs i.update j.update) (picked_out p is) then rest p is else i ∷ rest p is

-- How they are held: by their numbers, with a table of the places.

abbrev pub issue_at : Table ℕ → ℕ × Update → Issue
issue_at places x = record { number = x.0; place = at_or 0 x.0 places; update = x.1 }

abbrev pub issues : Table ℕ → Issued → List Issue
issues places held = map (issue_at places) held

-- no number is above this one
abbrev pub AreUpTo : ℕ → Issued → Type 0
AreUpTo count held = is_behind (count + 1) held ≡ true

-- no place is above this one
abbrev pub AreWithin : ℕ → Table ℕ → Type 0
AreWithin last places = (n : ℕ) → at_or 0 n places ≤ last

-- an object's operations have places up to the one that the table tells of it
abbrev pub AreEarly : Table ℕ → Table ℕ → Issued → Type 0
AreEarly lasts places held = (n : ℕ) (u : Update) → Holds held n u → (o : ℕ) → T (has_operand o u) → at_or 0 n places ≤ at_or 0 o lasts

-- no operation has a place below that of an earlier one
abbrev pub AreRising : Table ℕ → Issued → Type 0
AreRising places [] = ⊤
AreRising places (x ∷ xs) = ((n : ℕ) (u : Update) → Holds xs n u → at_or 0 x.0 places ≤ at_or 0 n places) × AreRising places xs

-- an operation is asked for by itself, and its place is at most this one
abbrev pub is_early : Table ℕ → Ask → ℕ → ℕ × Update → Bool
is_early places ask begun x = nat_le (at_or 0 x.0 places) begun && passes ask x

-- these are some of the others, in their order
abbrev pub IsPart : Issued → Issued → Type 0
IsPart some all = (p : ℕ × Update → Bool) × (some ≡ filter p all)
