-- The first line that no history has, and the first rule that it breaks.
use Rattle.std.specs.Prelude.{◌≡◌, ◌+◌, ℕ, List, [], ◌∷◌, ◌++◌, length, ⊤}
use Rattle.ec_history.specs.Placing.{Agrees, Unanswered, EachLine, MayFollow, ArePlaceable}
use Rattle.ec_history.specs.declared.rule.Rule.{Rule}
use Rattle.ec_history.specs.declared.rule.Rule.TheVariants as rule
use Rattle.ec_history.specs.declared.shown.Shown.{Shown}
use Rattle.ec_history.specs.declared.shown.Shown.TheVariants.{Waits, Answered}

-- Lines.

-- The line's number has one clerk, one call and one answer.
abbrev pub HasShape : List Shown → Shown → Type 0
HasShape past (Waits l c cl) = EachLine (Agrees l c cl) past
HasShape past (Answered l c cl a op) = EachLine (Agrees l c cl) past × EachLine (Unanswered l) past
HasShape past _ = ⊤

-- This is the first rule of placing that the line breaks behind these.
abbrev pub BreaksLine : List Shown → Shown → Rule → Type 0
BreaksLine past s rule.Shape = ¬ (HasShape past s)
BreaksLine past s rule.Named = HasShape past s × ¬ (MayFollow past s)
BreaksLine past s _ = ⊥

-- The line at this place, from 1, is the first that may not follow those above it, and this is the first rule that it breaks.
pub record IsFirstLine (ss : List Shown) (p : ℕ) (r : Rule) : Type 0 where
  pub above : List Shown
  pub line : Shown
  pub below : List Shown
  pub parts : above ++ line ∷ below ≡ ss
  pub place : p ≡ length above + 1
  pub placeable : ArePlaceable [] above
  pub broken : BreaksLine above line r
