use Rattle.std.proofs.Common.{◌≡◌, length, ℕ, ◌<◌, Some}
use Rattle.std.specs.Prelude.{slice_get}
use Rattle.ec_lines.proofs.seen.no_entries.Given as goal

abbrev pub invariant-loop : goal.invariant-loop
invariant-loop l = (length l.last.items ≡ l.counter) × ((c : ℕ) → c < l.counter → slice_get l.last.items c ≡ Some 0)
