-- Lemmas on the definitions of `Outside` that several proofs cite.
use Rattle.std.proofs.Common.{ℕ, ◌+◌, ◌≤◌, ◌==◌, cond, arith}
use Rattle.ec_base.specs.Limits.{last_count}
use Rattle.ec_base.specs.Outside.{Rose}

pub rose_later : (f g h : ℕ) → f ≤ g → Rose g h → Rose f h
rose_later f g h le r = later last_count f g h le r
  where
    later : (last f g h : ℕ) → f ≤ g → cond (g == last) g (g + 1) ≤ h → cond (f == last) f (f + 1) ≤ h
    later last f g h le r = grind arith
