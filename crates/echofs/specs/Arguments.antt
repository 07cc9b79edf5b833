-- The words of the process.
use Rattle.std.specs.Prelude.{ℕ, List, map, drop, Option, Some, None, Result, Ok, Err}
use Rattle.std.specs.Vec.Iter.{into_iter_items}
use Rattle.std.specs.declared.vec.IntoIter.{IntoIter}

-- the arguments of a process but the first, which is the program's name, where they can be read
abbrev pub words_of : {X Z E : Type 0} → (X → List ℕ) → Result (IntoIter X Z) E → Option (List (List ℕ))
words_of bytes (Ok args) = Some (drop 1 (map bytes (into_iter_items args)))
words_of bytes (Err e) = None
