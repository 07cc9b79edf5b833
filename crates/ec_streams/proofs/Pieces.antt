-- Bytes that are appended in turn.
use Rattle.std.proofs.Common.{◌≡◌, ℕ, ◌+◌, ◌-◌, List, ◌++◌, length, take, drop, sym, take-add}
use Rattle.std.proofs.lemmas.List.{take_rest}

pub take_on : (at k : ℕ) (piece : List ℕ) → take at piece ++ take k (take (length piece - at) (drop at piece)) ≡ take (at + k) piece
take_on at k piece = rw take_rest (sym (take-add at k piece))
