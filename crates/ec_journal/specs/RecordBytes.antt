-- The bytes that an append writes, and where.
use Rattle.std.specs.Prelude.{ℕ, ◌-◌, List, [], ◌∷◌, ◌++◌, length, take, drop}
use Rattle.std.specs.Int.{w32, to_be_bytes}

-- what an append writes behind a body
abbrev pub closed_gate : ℕ
closed_gate = 0

-- in front of a body: a gate and a length
abbrev pub head_bytes : ℕ
head_bytes = 5

-- an append takes a body of at most so many bytes
abbrev pub max_record_bytes : ℕ
max_record_bytes = 524288

-- what an append writes behind its gate: a length, a body and the closed next gate
abbrev pub staged : List ℕ → List ℕ
staged body = to_be_bytes w32 (length body) ++ body ++ closed_gate ∷ []

-- the body in such bytes
abbrev pub body_in : List ℕ → List ℕ
body_in piece = take (length piece - 5) (drop 4 piece)
