use Rattle.std.proofs.Common.{◌≡◌, ◌++◌, List, take}
use Rattle.ec_history.specs.declared.shown.Shown.{Shown}
use Rattle.ec_watch.specs.Watches.{AreWatched}
use Rattle.ec_legal.specs.Ahead.{IsSettled, placed_from}
use Rattle.ec_legal.proofs.history.place_lines.Given as goal

abbrev pub invariant-loop-at : goal.invariant-loop-at
invariant-loop-at l =
    AreWatched l.watches (take l.at l.lines.shown.now)
    × ((more : List Shown) → IsSettled (l.lines.shown.now ++ more) l.followed → l.fn.entries.items ++ placed_from (l.lines.shown.now ++ more) l.from ≡ l.entries.items ++ placed_from (l.lines.shown.now ++ more) l.at)
