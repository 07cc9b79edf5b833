use Rattle.std.proofs.Common.{◌≡◌, length}
use Rattle.ec_pending.specs.Pending.{is_asked, issues, rest, AreRising, IsPart}
use Rattle.ec_pending.proofs.early.cover_early.Given as goal

abbrev pub invariant-each : goal.invariant-each
invariant-each l = AreRising l.places l.order × (rest (is_asked l.asked) (issues l.places l.order) ≡ rest (is_asked l.asked) (issues l.places l.fn.order)) × IsPart l.order l.fn.order

abbrev pub decreases-each : goal.decreases-each
decreases-each l = length l.order
