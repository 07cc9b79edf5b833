-- What the lines so far show of each clerk, and what single steps of a watch come to.
use Rattle.std.specs.Prelude.{◌≡◌, ◌<◌, ℕ, false, true, List, [], ◌++◌, length, slice_get, Option, Some, None}
use Rattle.ec_base.specs.Limits.{clerk_count}
use Rattle.ec_history.specs.Placing.{or_else, watch}
use Rattle.ec_history.specs.declared.shown.Shown.{Shown}
use Rattle.ec_history.specs.declared.shown.Shown.TheVariants.{Waits, Answered, Durable, Ended, Unseen, Told, Crashed}
use Rattle.ec_history.specs.declared.watch.Watch.{Watch}

-- the running start has a session, to which its early operations belong
abbrev pub shown_watch : Watch → Watch
shown_watch w = record w { open_start = or_else w.open_start w.starts; undurable = w.early ++ w.undurable; early = [] }

abbrev pub crashed : Watch → Watch
crashed w = record w { running = false; early = []; untold = None; crashed = true }

-- The clerk of a line, if it is one of a clerk.
abbrev pub clerk_of : Shown → Option ℕ
clerk_of (Waits l c cl) = Some c
clerk_of (Answered l c cl a op) = Some c
clerk_of (Durable c ns) = Some c
clerk_of (Ended c ns) = Some c
clerk_of (Unseen c) = Some c
clerk_of (Told c ns) = Some c
clerk_of (Crashed c) = Some c
clerk_of _ = None

-- Of each clerk, by its number, what these lines show.
pub record AreWatched (ws : List Watch) (past : List Shown) : Type 0 where
  pub count : length ws ≡ clerk_count
  pub each : (c : ℕ) → c < clerk_count → slice_get ws c ≡ Some (watch c past)
