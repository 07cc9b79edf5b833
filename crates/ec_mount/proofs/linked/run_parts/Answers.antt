use Rattle.std.proofs.Common.{◌+◌, slice_index_or}
use Rattle.ec_mount.specs.Parts.{PartRan}
use Rattle.ec_mount.specs.declared.linked.Part.{Part}
use Rattle.ec_mount.proofs.Parts.{left_so}
use Rattle.ec_mount.proofs.linked.run_parts.Goals as goal

pub returns : goal.returns
returns g c i d l =
    let one = (c.for_each_mut.ensures i d l).1 in
    left_so (λ (s t : Part g.row.M.Denot g.row.M-Link.Denot g.row.M-Link-Bell.Denot). PartRan c.args.clerk.now.lock g.M.Lending.name (λ m. record { faults = g.M.Lending.faults m; bad = g.M.Lending.bad m; ended = g.M.Lending.ended m }) (λ l. g.M.Link.Link.faults l + g.M.Link.Link.closes l) g.M.Link.Link.given g.M.Link.Link.got s.lent s.pass s.lanes.items t.lent t.pass t.did)
    one.argument.now one.after_call.now (slice_index_or c.args.parts.now i d) (slice_index_or c.for_each_mut.new.s i d) one.argument_is one.left one.call
