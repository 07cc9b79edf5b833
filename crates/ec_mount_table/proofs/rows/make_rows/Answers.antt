use Rattle.std.proofs.Common.{◌+◌, ◌∙◌, drop, map, take, Ok, Err, refl, sym, subst, arith}
use Rattle.ec_lock.specs.declared.types.Pass.{Pass}
use Rattle.ec_clerknode.specs.declared.state.Node.{Node}
use Rattle.ec_clerknode.specs.declared.step.Step.{Step}
use Rattle.ec_mounts.specs.declared.part.Part.{Part}
use Rattle.ec_mount_table.specs.Going.{CallCame, IsOrdered}
use Rattle.ec_mount_table.proofs.Sofar.{Sofar, get_of, sofar_more, sofar_none, sofar_stops, take_all, take_next, take_whole}
use Rattle.ec_mount_table.proofs.rows.make_rows.Goals as goal

pub rows-init : goal.rows-init
rows-init g c =
    let pass_of : Part g.row.L.Denot g.row.L-Bell.Denot → Pass (Node g.row.L.Denot) Step = λ p. p.pass in
    (c.requires.seated, refl, sofar_none c.args.table.now _ c.args.mets.now.items (map pass_of c.args.parts.now) refl c.requires.none c.requires.fresh)

pub make_row-requires-clause-paths : goal.make_row-requires-clause-paths
make_row-requires-clause-paths g c κs within =
    let rows = c.args.rows.now in
    let row = c.row-item.result in
    subst IsOrdered (sym (c.in-Ok.ensures {u = tt})) (c.requires.paths c.rows.row-index row (get_of rows c.rows.row-index row c.rows-test.true c.row-item.is))

pub make_row-requires-clause-many : goal.make_row-requires-clause-many
make_row-requires-clause-many g c κs within = c.rows.invariant.1 ∙ c.requires.many

pub returns-in-Err-clause-came : goal.returns-in-Err-clause-came
returns-in-Err-clause-came g c =
    let pass_of : Part g.row.L.Denot g.row.L-Bell.Denot → Pass (Node g.row.L.Denot) Step = λ p. p.pass in
    let rows = c.args.rows.now in
    let i = c.rows.row-index in
    let row = c.row-item.result in
    sofar_stops c.args.table.now rows (take i rows) (drop (i + 1) rows) c.rows.mets.items row c.in-Err.cut (map pass_of c.rows.parts) (map pass_of c.make_row.new.parts) c.rows.invariant.2 (take_whole rows i row c.rows-test.true c.row-item.is)
    (subst (λ k. CallCame c.args.table.now k (map pass_of c.rows.parts) (map pass_of c.make_row.new.parts) (Err c.in-Err.cut)) (c.in-Ok.ensures {u = tt}) c.in-Err.ensures.came)

pub rows-preserved : goal.rows-preserved
rows-preserved g c =
    let pass_of : Part g.row.L.Denot g.row.L-Bell.Denot → Pass (Node g.row.L.Denot) Step = λ p. p.pass in
    let rows = c.args.rows.now in
    let i = c.rows.row-index in
    let row = c.row-item.result in (
      c.make_row.ensures.seated,
      c.make_row.auto.parts ∙ c.rows.invariant.1,
      sofar_more c.args.table.now (take i rows) (take (i + 1) rows) c.rows.mets.items c.push.new.self.items row c.in-Ok-make_row.met (map pass_of c.rows.parts) (map pass_of c.make_row.new.parts) c.rows.invariant.2 (take_next rows i row c.rows-test.true c.row-item.is) c.in-Ok-push.ensures.items
          (subst (λ k. CallCame c.args.table.now k (map pass_of c.rows.parts) (map pass_of c.make_row.new.parts) (Ok c.in-Ok-make_row.met)) (c.in-Ok.ensures {u = tt}) c.in-Ok-make_row.ensures.came),
    )

pub returns-clause-came : goal.returns-clause-came
returns-clause-came g c =
    let pass_of : Part g.row.L.Denot g.row.L-Bell.Denot → Pass (Node g.row.L.Denot) Step = λ p. p.pass in
    subst (λ l. Sofar c.args.table.now l c.rows.mets.items (map pass_of c.rows.parts)) (take_all c.args.rows.now c.rows.row-index (omega (arith, c.rows-test.false))) c.rows.invariant.2
