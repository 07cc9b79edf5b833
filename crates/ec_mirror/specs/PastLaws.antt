-- Behind the last moment there is only what is there now.
use Rattle.std.specs.Prelude.{◌≡◌, ◌≤◌, ℕ, List, length, Some, slice_get}
use Rattle.std.proofs.Common.{inl, inr, arith}
use Rattle.std.proofs.lemmas.Option.{slice_get_within}
use Rattle.ec_half.specs.Contents.{Content}
use Rattle.ec_mirror.specs.Past.{LeftSince}

past_ends : {T : Type 0} (xs : List T) (i : ℕ) (x : T) → length xs ≤ i → slice_get xs i ≡ Some x → ⊥
past_ends xs i x le is = omega (arith, le, slice_get_within xs i x is)

pub only_now : {M : Type 0} (of : M → Content) (past : List M) (now : Content) (c : List ℕ) → LeftSince of past now (length past) c → now.may_leave c
only_now of past now c (inl left) = left
only_now of past now c (inr was) = absurd (past_ends past was.0 was.1 was.2 was.3)
