use Rattle.std.proofs.Common.{◌≡◌, ◌+◌, [], Some, None, sym, ◌∙◌, subst}
use Rattle.ec_mount.specs.Parts.{PartRan}
use Rattle.ec_mount.proofs.Parts.{caller_did}
use Rattle.ec_mount.proofs.linked.run_both.Goals as goal

pub returns-clause-linked : goal.returns-clause-linked
returns-clause-linked g c =
    let ran = c.run_two-linker.ensures.one in
    subst (λ o. PartRan c.args.clerk.now.lock g.M.Lending.name (λ m. record { faults = g.M.Lending.faults m; bad = g.M.Lending.bad m; ended = g.M.Lending.ended m }) (λ l. g.M.Link.Link.faults l + g.M.Link.Link.closes l) g.M.Link.Link.given g.M.Link.Link.got o c.args.passes.0 [] c.run_two-linker.result.0.lent c.run_two-linker.result.0.pass c.run_two-linker.result.0.did) c.take.ensures.value
    (subst (λ l. PartRan c.args.clerk.now.lock g.M.Lending.name (λ m. record { faults = g.M.Lending.faults m; bad = g.M.Lending.bad m; ended = g.M.Lending.ended m }) (λ l. g.M.Link.Link.faults l + g.M.Link.Link.closes l) g.M.Link.Link.given g.M.Link.Link.got c.take.result c.args.passes.0 l c.run_two-linker.result.0.lent c.run_two-linker.result.0.pass c.run_two-linker.result.0.did) c.new.ensures.items ran)

pub returns-clause-called : goal.returns-clause-called
returns-clause-called g c =
    caller_did c.args.clerk.now.lock g.M.Lending.name (λ m. record { faults = g.M.Lending.faults m; bad = g.M.Lending.bad m; ended = g.M.Lending.ended m }) (λ l. g.M.Link.Link.faults l + g.M.Link.Link.closes l) g.M.Link.Link.given g.M.Link.Link.got
    c.args.passes.1 c.run_two-linker.result.1.pass c.args.lanes.items c.run_two-linker.result.1.lent c.run_two-linker.result.1.did c.run_two-linker.ensures.two
