-- What the code keeps of the lines so far. No public clause cites this module.
use Rattle.std.specs.Prelude.{List, nat_eq}
use Rattle.std.specs.HashMap.{get}
use Rattle.ec_watch.specs.Watches.{AreWatched}
use Rattle.ec_history.specs.declared.shown.Shown.{Shown}
use Rattle.ec_lines.specs.Index.{IsCallIndex, AreLast}
use Rattle.ec_lines.specs.declared.seen.Seen.{Seen}

pub record Sees (seen : Seen) (past : List Shown) : Type 0 where
  pub watched : AreWatched seen.watches.items past
  pub index : IsCallIndex (get nat_eq seen.calls) past
  pub last : AreLast seen.last.items past
