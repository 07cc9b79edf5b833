-- A journal's bytes: a row of records, each a gate, a length and a body, up to the first closed gate.
use Rattle.std.specs.Prelude.{◌≡◌, ◌≢◌, ◌⊎◌, ◌<◌, ◌≤◌, ◌+◌, ◌^◌, ℕ, List, [], ◌∷◌, ◌++◌, length}
use Rattle.std.specs.List.{All}
use Rattle.std.specs.Int.{w32, to_be_bytes, from_be_bytes}
use Rattle.ec_disk.specs.Disk.{byte, part}

-- the byte of an open gate, an `O`; any other is closed
abbrev pub open_gate : ℕ
open_gate = 79

abbrev pub length_bytes : ℕ
length_bytes = 4

-- what a record needs beside its body: a gate, a length and the next gate
abbrev pub around_bytes : ℕ
around_bytes = 6

abbrev pub IsShort : List ℕ → Type 0
IsShort body = length body < 2 ^ 32

-- records whose gates are open
abbrev pub records : List (List ℕ) → List ℕ
records [] = []
records (body ∷ bodies) = open_gate ∷ to_be_bytes w32 (length body) ++ body ++ records bodies

-- The records of these bodies stand at the front of the bytes from `at` on.
pub record Front (image : List ℕ) (at : ℕ) (bodies : List (List ℕ)) : Type 0 where
  pub short : All IsShort bodies
  pub stands : part image at (length (records bodies)) ≡ records bodies

-- An image has these bodies in the journal of `size` bytes from `at` on: a closed gate stands behind their records.
pub record HasBodies (image : List ℕ) (at size : ℕ) (bodies : List (List ℕ)) : Type 0 where
  pub inside : at + size ≤ length image
  pub room : length (records bodies) < size
  pub front : Front image at bodies
  pub shut : byte image (at + length (records bodies)) ≢ open_gate

-- Behind the records of these bodies an open gate stands over a record that runs past the journal: with its length, its body and the
-- next gate it needs more bytes than are left.
pub record RunsPast (image : List ℕ) (at size : ℕ) (bodies : List (List ℕ)) : Type 0 where
  pub front : Front image at bodies
  pub gate_inside : length (records bodies) < size
  pub is_open : byte image (at + length (records bodies)) ≡ open_gate
  pub past : (size < length (records bodies) + around_bytes) ⊎ (size < length (records bodies) + around_bytes + from_be_bytes w32 (part image (at + length (records bodies) + 1) length_bytes))
