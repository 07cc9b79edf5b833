use Rattle.std.proofs.Common.{arith}
use Rattle.ec_mounts.specs.declared.part.Part.{Part}
use Rattle.ec_mounts.proofs.Synced.{first_all}
use Rattle.ec_mounts.proofs.calling.answers_of.Goals as goal

pub returns : goal.returns
returns g c = first_all (λ (p : Part g.row.L.Denot g.row.L-Bell.Denot). p.met) c.args.parts.now c.parts.part-index c.parts.answers.items (omega (arith, c.parts-test.false)) c.parts.invariant
