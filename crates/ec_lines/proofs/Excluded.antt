-- A line at fault may not follow those above it.
use Rattle.std.proofs.Common.{sym, subst, ℕ, List, [], ◌∷◌}
use Rattle.ec_history.proofs.OfLaws.ForPlacing.Cuts.{placeable-back}
use Rattle.ec_history.specs.Placing.{MayFollow, ArePlaceable}
use Rattle.ec_history.specs.declared.rule.Rule.{Rule}
use Rattle.ec_history.specs.declared.rule.Rule.TheVariants as rule
use Rattle.ec_history.specs.declared.shown.Shown.{Shown}
use Rattle.ec_lines.specs.Faults.{BreaksLine, IsFirstLine}
use Rattle.ec_lines.proofs.Onward.{shape-of}

breaks-not : (past : List Shown) (s : Shown) (r : Rule) → BreaksLine past s r → ¬ (MayFollow past s)
breaks-not past s rule.Shape b m = b (shape-of past s m)
breaks-not past s rule.Named b m = b.1 m
breaks-not past s r b m = b

pub excludes : (ss : List Shown) (p : ℕ) (r : Rule) → IsFirstLine ss p r → ¬ (ArePlaceable [] ss)
excludes ss p r f a = breaks-not f.above f.line r f.broken (placeable-back [] f.above (f.line ∷ f.below) (subst (ArePlaceable []) (sym f.parts) a)).0
