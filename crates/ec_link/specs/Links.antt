-- What a link says of one send or receive.
use Rattle.std.specs.Prelude.{ℕ, List, ◌++◌, Option, Some, None}

-- what came from the other end: a body, or a length above the limit
pub data Heard : Type 0 where
  body : List ℕ → Heard
  long : ℕ → Heard

-- a list that is told, with these at its end
abbrev pub added : {A : Type 0} → Option (List A) → List A → Option (List A)
added None ys = None
added (Some xs) ys = Some (xs ++ ys)
