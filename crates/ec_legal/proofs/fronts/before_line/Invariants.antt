use Rattle.std.proofs.Common.{◌≡◌, ◌≤◌, ◌-◌, ◌++◌, length, take, drop}
use Rattle.ec_legal.specs.Fronts.{before_line}
use Rattle.ec_legal.proofs.fronts.before_line.Given as goal

abbrev pub invariant-before-2 : goal.invariant-before-2
invariant-before-2 l = (before_line l.line l.entries ≡ take l.count l.entries ++ before_line l.line (drop l.count l.entries)) × (l.count ≤ length l.entries)

abbrev pub decreases-before-2 : goal.decreases-before-2
decreases-before-2 l = length l.entries - l.count
