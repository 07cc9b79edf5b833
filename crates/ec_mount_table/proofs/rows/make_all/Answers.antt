use Rattle.std.proofs.Common.{map, ap, sym, subst}
use Rattle.ec_lock.specs.declared.types.Pass.{Pass}
use Rattle.ec_clerknode.specs.declared.state.Node.{Node}
use Rattle.ec_clerknode.specs.declared.step.Step.{Step}
use Rattle.ec_mounts.specs.declared.part.Part.{Part}
use Rattle.ec_mount_table.specs.Going.{MadeAll, items_of}
use Rattle.ec_mount_table.proofs.Sofar.{made_last}
use Rattle.ec_mount_table.proofs.rows.make_all.Goals as goal

pub returns-in-Ok-clause-made : goal.returns-in-Ok-clause-made
returns-in-Ok-clause-made g c =
    let pass_of : Part g.row.L.Denot g.row.L-Bell.Denot → Pass (Node g.row.L.Denot) Step = λ p. p.pass in
    let made = c.make_last.result in
    subst (λ m. MadeAll c.args.table.now c.args.rows.now m made.replies.items (map pass_of c.make_last.new.parts) (items_of made.last)) (sym (ap (λ v. v.items) c.make_last.ensures.mets))
    (made_last c.args.table.now c.args.rows.now _ made.replies.items made.last (map pass_of c.make_rows.new.parts) (map pass_of c.make_last.new.parts) c.make_last.ensures.replies c.in-Ok.ensures.came c.make_last.ensures.last)
