-- What happened to the operations of a start, from some pending ones on.
use Rattle.std.specs.Prelude.{ℕ, ◌==◌, ◌≤◌, ◌<◌, T, Bool, true, false, List, [], ◌∷◌, ◌++◌, drop, length, ⊤}
use Rattle.std.specs.List.{list_all}
use Rattle.ec_pending.specs.Pending.{is_asked, rest}
use Rattle.ec_pending.specs.declared.issue.Issue.{Issue}
use Rattle.ec_pending.specs.declared.note.Note.{Note}
use Rattle.ec_pending.specs.declared.note.Note.TheVariants as note

-- the pending operations behind one note
abbrev pub next_of : Note → List Issue → List Issue
next_of (note.Issue n p u) is = is ++ record { number = n; place = p; update = u.value } ∷ []
next_of (note.Cover a) is = rest (is_asked a) is

-- the pending operations behind some notes
abbrev pub behind_notes : List Note → List Issue → List Issue
behind_notes [] is = is
behind_notes (n ∷ ns) is = behind_notes ns (next_of n is)

-- the note is of an operation of this number
abbrev pub is_issue : ℕ → Note → Bool
is_issue n (note.Issue m p u) = n == m
is_issue n (note.Cover a) = false

-- the note asks nothing
abbrev pub asks_nothing : Note → Bool
asks_nothing (note.Issue n p u) = true
asks_nothing (note.Cover a) = false

-- the notes from this one on ask nothing
pub record AreLate (late : ℕ) (ns : List Note) : Type 0 where
  pub within : late ≤ length ns
  pub issues : T (list_all asks_nothing (drop late ns))

-- how many were issued behind the note
abbrev pub above_next : ℕ → Note → ℕ
above_next k (note.Issue n p u) = n
above_next k (note.Cover a) = k

-- an operation that is issued is above these
abbrev pub IsAbove : ℕ → Note → Type 0
IsAbove k (note.Issue n p u) = k < n
IsAbove k (note.Cover a) = ⊤

-- each operation that is issued is above those before it, and the last one is at most the count
abbrev pub AreAbove : ℕ → ℕ → List Note → Type 0
AreAbove count k [] = k ≤ count
AreAbove count k (n ∷ ns) = IsAbove k n × AreAbove count (above_next k n) ns
