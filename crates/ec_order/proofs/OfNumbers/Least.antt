-- A number that is above none of some others.
use Rattle.std.proofs.Common.{subst, ◌≤◌, ℕ, T, List, length, take}
use Rattle.std.proofs.lemmas.List.{take_all}
use Rattle.ec_volume.specs.Update.{member}

abbrev pub IsUnder : ℕ → List ℕ → Type 0
IsUnder m ns = (n : ℕ) → T (member n ns) → m ≤ n

pub under-all : (ns : List ℕ) (i m : ℕ) → IsUnder m (take i ns) → length ns ≤ i → IsUnder m ns
under-all ns i m h l = subst (IsUnder m) (take_all i ns l) h
