-- Lines whose calls are within their bounds, and the entries that they give.
use Rattle.std.specs.Prelude.{◌<◌, ◌^◌, Bool, true}
use Rattle.ec_plain.specs.BoundedCalls.{is_bounded}
use Rattle.ec_history.specs.History.{History, Each}
use Rattle.ec_history.specs.declared.shown.Shown.{Shown}
use Rattle.ec_history.specs.declared.shown.Shown.TheVariants.{Waits, Answered}
use Rattle.ec_history.specs.OfLaws.Bases.{AreAtLines}

abbrev pub is_bounded_line : Shown → Bool
is_bounded_line (Waits l c cl) = is_bounded cl
is_bounded_line (Answered l c cl a op) = is_bounded cl
is_bounded_line _ = true

-- Each entry stands at a line of its own, and there are few lines.
pub record AreEntries (h : History) : Type 0 where
  pub lines : AreAtLines h
  pub few : Each (λ e. e.0 < 2 ^ 31) h
