use Rattle.std.proofs.Common.{◌≡◌, ◌+◌, [], ◌∷◌, ◌++◌, ap, ◌∙◌, arith}
use Rattle.ec_mount.specs.Parts.{IsReady, PartRan}
use Rattle.ec_mount.specs.declared.linked.Part.{Part}
use Rattle.ec_mount.proofs.Parts.{emptied, first_of, second_of, each_of}
use Rattle.ec_mount.proofs.linked.run_two.Goals as goal

pub run_parts-requires-after_bounds : goal.run_parts-requires-after_bounds
run_parts-requires-after_bounds g c κs within =
    let are = c.in-Ok-push-2.ensures.items ∙ ap (λ l. l ++ c.args.two ∷ []) (c.in-Ok-push.ensures.items ∙ ap (λ l. l ++ c.args.one ∷ []) c.in-Ok.ensures.items) in
    each_of (λ (s : Part g.row.M.Denot g.row.M-Link.Denot g.row.M-Link-Bell.Denot). IsReady c.args.clerk.now.lock s.pass s.lent) c.args.one c.args.two c.deref_mut.result.now (c.deref_mut.ensures.value ∙ are) c.requires.one.0 c.requires.two.0

pub returns-clause-one : goal.returns-clause-one
returns-clause-one g c =
    let P = λ (s t : Part g.row.M.Denot g.row.M-Link.Denot g.row.M-Link-Bell.Denot). PartRan c.args.clerk.now.lock g.M.Lending.name (λ m. record { faults = g.M.Lending.faults m; bad = g.M.Lending.bad m; ended = g.M.Lending.ended m }) (λ l. g.M.Link.Link.faults l + g.M.Link.Link.closes l) g.M.Link.Link.given g.M.Link.Link.got s.lent s.pass s.lanes.items t.lent t.pass t.did in
    let are = c.in-Ok-push-2.ensures.items ∙ ap (λ l. l ++ c.args.two ∷ []) (c.in-Ok-push.ensures.items ∙ ap (λ l. l ++ c.args.one ∷ []) c.in-Ok.ensures.items) in
    let came = emptied c.args.one c.args.two c.in-Some-pop.one c.in-Some.two c.pop-2.new.self.items c.push-2.new.self.items c.run_parts.new.parts c.pop.new.self.items c.push-2.new.self.len are
    (omega (arith, c.in-Ok-push-2.ensures.len, c.in-Ok-push.ensures.len, c.in-Ok.ensures.len)) (c.run_parts.auto.parts ∙ c.deref_mut.ensures.len) c.in-Some.ensures.items c.in-Some-pop.ensures.items in
    first_of P c.args.one c.args.two c.in-Some-pop.one c.in-Some.two c.deref_mut.result.now c.run_parts.new.parts (c.deref_mut.ensures.value ∙ are) came c.run_parts.ensures

pub returns-clause-two : goal.returns-clause-two
returns-clause-two g c =
    let P = λ (s t : Part g.row.M.Denot g.row.M-Link.Denot g.row.M-Link-Bell.Denot). PartRan c.args.clerk.now.lock g.M.Lending.name (λ m. record { faults = g.M.Lending.faults m; bad = g.M.Lending.bad m; ended = g.M.Lending.ended m }) (λ l. g.M.Link.Link.faults l + g.M.Link.Link.closes l) g.M.Link.Link.given g.M.Link.Link.got s.lent s.pass s.lanes.items t.lent t.pass t.did in
    let are = c.in-Ok-push-2.ensures.items ∙ ap (λ l. l ++ c.args.two ∷ []) (c.in-Ok-push.ensures.items ∙ ap (λ l. l ++ c.args.one ∷ []) c.in-Ok.ensures.items) in
    let came = emptied c.args.one c.args.two c.in-Some-pop.one c.in-Some.two c.pop-2.new.self.items c.push-2.new.self.items c.run_parts.new.parts c.pop.new.self.items c.push-2.new.self.len are
    (omega (arith, c.in-Ok-push-2.ensures.len, c.in-Ok-push.ensures.len, c.in-Ok.ensures.len)) (c.run_parts.auto.parts ∙ c.deref_mut.ensures.len) c.in-Some.ensures.items c.in-Some-pop.ensures.items in
    second_of P c.args.one c.args.two c.in-Some-pop.one c.in-Some.two c.deref_mut.result.now c.run_parts.new.parts (c.deref_mut.ensures.value ∙ are) came c.run_parts.ensures
