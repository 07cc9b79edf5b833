use Rattle.std.proofs.Common.{◌≡◌, ◌-◌, length, take}
use Rattle.std.specs.Prelude.{map}
use Rattle.ec_plain.proofs.file.names_of.Given as goal

abbrev pub invariant-names : goal.invariant-names
invariant-names l = l.names.items ≡ map (λ e. e.0) (take (length l.names.items) l.entries)

abbrev pub decreases-names : goal.decreases-names
decreases-names l = length l.entries - length l.names.items
