-- What a call of a source or a sink does to the bytes that they tell and to their counts of faults.
use Rattle.std.specs.Prelude.{◌≡◌, ℕ, ◌≤◌, List, Option, is_some, length, take}
use Rattle.std.specs.Io.KnownBytes.{Consumes, Appends, Keeps, IsAtEnd}
use Rattle.ec_base.specs.declared.outside.Took.{Took}
use Rattle.ec_base.specs.declared.outside.Took.TheVariants as took
use Rattle.ec_base.specs.declared.outside.Gave.{Gave}
use Rattle.ec_base.specs.declared.outside.Gave.TheVariants as gave
use Rattle.ec_base.specs.Outside.{one_more, Rose}

-- an object that tells its bytes goes on to tell them, and one that doesn't never does
abbrev pub TellsAlike : Option (List ℕ) → Option (List ℕ) → Type 0
TellsAlike old new = is_some new ≡ is_some old

abbrev pub TookRight : Option (List ℕ) → Option (List ℕ) → ℕ → ℕ → List ℕ → Took → Type 0
TookRight old new before now into (took.Bytes n) = Consumes old new (take n into) × (1 ≤ n) × (n ≤ length into)
TookRight old new before now into took.End = Keeps old new × IsAtEnd new
TookRight old new before now into took.Failed = Keeps old new × Rose before now

abbrev pub GaveRight : Option (List ℕ) → Option (List ℕ) → ℕ → ℕ → List ℕ → Gave → Type 0
GaveRight old new before now piece (gave.Bytes n) = Appends old new (take n piece) × (1 ≤ n) × (n ≤ length piece)
GaveRight old new before now piece gave.Failed = Keeps old new × Rose before now
GaveRight old new before now piece gave.NoMemory = Keeps old new

-- the count after an answer: only a failure counts
abbrev pub count_after_take : ℕ → Took → ℕ
count_after_take before took.Failed = one_more before
count_after_take before (took.Bytes n) = before
count_after_take before took.End = before

abbrev pub count_after_give : ℕ → Gave → ℕ
count_after_give before gave.Failed = one_more before
count_after_give before (gave.Bytes n) = before
count_after_give before gave.NoMemory = before
