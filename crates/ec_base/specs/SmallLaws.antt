-- Small laws that the specs of several crates cite.
use Rattle.std.proofs.Common.{◌≡◌, Some, Bool, true, false}
use Rattle.std.specs.Prelude.{T, ℕ, ◌&&◌, nat_lt, List, [], ◌∷◌}
use Rattle.std.specs.List.{list_all}

pub same_some : {A : Type 0} (x y : A) → Some x ≡ Some y → x ≡ y
same_some x y e = cc

pub holds : (b : Bool) → b ≡ true → T b
holds true e = tt
holds false e = absurd cc

abbrev pub rises : List ℕ → Bool
rises [] = true
rises (n ∷ ns) = list_all (λ m. nat_lt n m) ns && rises ns
