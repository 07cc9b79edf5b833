-- Reads, writes and syncs between an arm and its stop, by the clauses of `Disk`.
use Rattle.std.specs.Prelude.{◌≡◌, ℕ, zero, suc, Option}
use Rattle.ec_disk.specs.Effects.{CountsDown}

-- so many reads, writes and syncs, each of which was done
abbrev pub AreDone : ℕ → Option ℕ → Option ℕ → Type 0
AreDone zero old new = new ≡ old
AreDone (suc more) old new = (mid : Option ℕ) × CountsDown old mid (Unit {0}) ⊥ × AreDone more mid new

-- one that stops
abbrev pub Stops : Option ℕ → Option ℕ → Type 0
Stops old new = CountsDown old new ⊥ (Unit {0})
