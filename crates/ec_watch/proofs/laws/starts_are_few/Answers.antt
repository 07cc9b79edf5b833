use Rattle.std.proofs.Common.{◌<◌, arith}
use Rattle.std.proofs.lemmas.Option.{slice_get_within}
use Rattle.ec_base.specs.Limits.{clerk_count}
use Rattle.ec_watch.proofs.Watched.{few-at}
use Rattle.ec_watch.proofs.laws.starts_are_few.Goals as goal

pub returns : goal.returns
returns c ws past d w h g =
    let within : d < clerk_count = omega (arith, slice_get_within ws d w g, h.count) in
    few-at ws past d w h within g
