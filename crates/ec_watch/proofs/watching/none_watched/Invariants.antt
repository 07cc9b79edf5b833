use Rattle.std.proofs.Common.{◌≡◌, length, ℕ, ◌<◌, Some}
use Rattle.std.specs.Prelude.{slice_get}
use Rattle.ec_history.specs.Placing.{unwatched}
use Rattle.ec_watch.proofs.watching.none_watched.Given as goal

abbrev pub invariant-loop : goal.invariant-loop
invariant-loop l = (length l.watches.items ≡ l.counter) × ((c : ℕ) → c < l.counter → slice_get l.watches.items c ≡ Some unwatched)
