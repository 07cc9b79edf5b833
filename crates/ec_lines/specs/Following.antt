-- Lines that are followed one by one.
use Rattle.std.specs.Prelude.{List, []}
use Rattle.ec_history.specs.Placing.{ArePlaceable}
use Rattle.ec_history.specs.declared.shown.Shown.{Shown}
use Rattle.ec_lines.specs.Index.{AreBegins}
use Rattle.ec_lines.specs.Seen.{Sees}
use Rattle.ec_lines.specs.declared.following.Following.{Following}

-- Each of these lines may follow those above it; what they show is kept, and where their calls began.
pub record Follows (f : Following) (past : List Shown) : Type 0 where
  pub sees : Sees f.seen past
  pub placeable : ArePlaceable [] past
  pub begins : AreBegins [] past f.begins.items
