use Rattle.std.proofs.Common.{refl}
use Rattle.std.proofs.Math.Seq.{map-set_same}
use Rattle.ec_mounts.specs.declared.part.Part.{Part}
use Rattle.ec_mounts.proofs.calling.take_met.Goals as goal

pub returns-clause-passes : goal.returns-clause-passes
returns-clause-passes g c = map-set_same (λ (p : Part g.row.L.Denot g.row.L-Bell.Denot). p.pass) c.args.parts.now c.args.place _ c.index-parts-place.result refl
