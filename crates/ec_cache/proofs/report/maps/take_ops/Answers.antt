use Rattle.ec_cache.proofs.OfReport.Rows.{ops_taken}
use Rattle.ec_cache.proofs.report.maps.take_ops.Goals as goal

pub returns-in-Some-clause-others : goal.returns-in-Some-clause-others
returns-in-Some-clause-others c = ops_taken c.args.obj c.of.result c.in-Some.ops c.args.places.now c.replace.new.self c.replace.result c.in-Some.is c.replace.ensures.some
