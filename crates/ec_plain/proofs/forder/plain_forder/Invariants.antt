use Rattle.std.proofs.Common.{◌≡◌, [], drop}
use Rattle.ec_plain.specs.Plain.{plain_forder}
use Rattle.ec_plain.proofs.forder.plain_forder.Given as goal

abbrev pub invariant-paths : goal.invariant-paths
invariant-paths g l = plain_forder (g.V.Look.images l.volume) l.paths [] [] ≡ plain_forder (g.V.Look.images l.volume) (drop l.path-index l.paths) l.objs.items l.touched.items
