-- What is kept of the lines shown so far.
use Rattle.std.specs.Prelude.{◌≡◌, ℕ, Bool, false, List, length}
use Rattle.ec_history.specs.declared.shown.Shown.{Shown}
use Rattle.ec_history.specs.declared.watch.Watch.{Watch}
use Rattle.ec_watch.specs.Watches.{AreWatched}

pub record Kept (watches : List Watch) (past : List Shown) (count : ℕ) : Type 0 where
  pub watched : AreWatched watches past
  pub count_is : count ≡ length past

abbrev pub AreKept : Bool → List Watch → List Shown → ℕ → Type 0
AreKept is_broken watches past count = is_broken ≡ false → Kept watches past count
