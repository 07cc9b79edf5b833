-- A transcript with a first fault isn't legal.
use Rattle.std.proofs.Common.{ℕ, List, [], ◌⊎◌, inl, inr}
use Rattle.ec_history.specs.Legal.{from_formatted}
use Rattle.ec_history.specs.Placing.{place, ArePlaceable}
use Rattle.ec_history.specs.declared.rule.Rule.{Rule}
use Rattle.ec_history.specs.declared.shown.Shown.{Shown}
use Rattle.ec_judge.specs.Faults.{IsFirstEntry}
use Rattle.ec_judge.proofs.Firsts as entry
use Rattle.ec_lines.specs.Faults.{IsFirstLine}
use Rattle.ec_lines.proofs.Excluded as line
use Rattle.ec_check.specs.declared.checking.Checked.TheVariants as checked
use Rattle.ec_check.specs.Verdicts.{IsVerdict}

line-fault : (most : ℕ) (ss : List Shown) (p : ℕ) (r : Rule) → IsFirstLine ss p r → IsVerdict most ss (checked.Illegal p r)
line-fault most ss p r f = (λ l. line.excludes ss p r f l.0, inl f)

entry-fault : (most : ℕ) (ss : List Shown) (p : ℕ) (r : Rule) → ArePlaceable [] ss → IsFirstEntry from_formatted most (place ss) p r → IsVerdict most ss (checked.Illegal p r)
entry-fault most ss p r a f = (λ l. entry.excludes from_formatted most (place ss) p r f l.1, inr (a, f))

pub first-fault : (most : ℕ) (ss : List Shown) (p : ℕ) (r : Rule) → IsFirstLine ss p r ⊎ (ArePlaceable [] ss × IsFirstEntry from_formatted most (place ss) p r) → IsVerdict most ss (checked.Illegal p r)
first-fault most ss p r (inl f) = line-fault most ss p r f
first-fault most ss p r (inr f) = entry-fault most ss p r f.0 f.1
