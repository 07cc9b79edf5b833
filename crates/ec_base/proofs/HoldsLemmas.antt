-- Lemmas on the definitions of `Holds` that several proofs cite.
use Rattle.std.proofs.Common.{arith, ◌≤◌}
use Rattle.ec_base.specs.Holds.{rank}
use Rattle.ec_base.specs.declared.ids.Hold.{Hold}
use Rattle.ec_base.specs.declared.ids.Hold.TheVariants.{Free, Read, Write}

pub rank-most : (h : Hold) → rank h ≤ 2
rank-most Free = omega arith
rank-most Read = omega arith
rank-most Write = omega arith
