use Rattle.std.proofs.Common.{◌≡◌, slice_index_or, sym, subst, rules}
use Rattle.ec_mounts.specs.Parts.{asked_at, IsSeatedAt, PartRan}
use Rattle.ec_mounts.specs.declared.part.Part.{Part}
use Rattle.ec_mounts.proofs.part.run_round.Goals as goal

pub returns : goal.returns
returns g c i d l =
    let one = (c.for_each_mut.ensures i d l).1 in
    let P = λ (s t : Part g.row.L.Denot g.row.L-Bell.Denot). PartRan (λ k. k.lock) c.args.round.now.clerks.now i s.pass (asked_at c.args.round.now.only i s.asked) t.pass t.met in
    subst (λ t. P (slice_index_or c.args.parts.now i d) t) one.left (subst (λ s. P s one.after_call.now) one.argument_is one.call)

pub for_each_mut-requires-clause-accepts : goal.for_each_mut-requires-clause-accepts
for_each_mut-requires-clause-accepts g c κs within i p l e =
    ((search rules, subst (λ (s : Part g.row.L.Denot g.row.L-Bell.Denot). IsSeatedAt (λ k. k.lock) c.args.round.now.clerks.now i s.pass) (sym e) (c.requires i p.now l)), search rules)
