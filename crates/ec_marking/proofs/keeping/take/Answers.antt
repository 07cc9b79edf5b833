use Rattle.std.proofs.Common.{rules, ◌≡◌}
use Rattle.std.specs.Prelude.{IfOk, IfErr}
use Rattle.ec_protocol.specs.Server as machine
use Rattle.ec_server.specs.Servers.{standing}
use Rattle.ec_store.specs.Store.{view_of}
use Rattle.ec_store.specs.declared.store.Store.{Store}
use Rattle.ec_marking.specs.Keeping.{IsDone, CameOf, Unchanged, StopsSo}
use Rattle.ec_marking.proofs.keeping.take.Goals as goal
use Rattle.ec_base.proofs.Equalities.{moved}

pub returns-clause-came : goal.returns-clause-came
returns-clause-came g c =
    let tells = g.D.Disk.tells in
    let view = g.D.Disk.view in
    let before = c.args.records.now.items in
    let l = c.take_by.new.keeper in
    moved
    (λ (o s : Store) (x : g.row.D.Denot). IfOk c.take_by.result (CameOf (IsDone tells (machine.take c.args.letter.from c.args.letter.msg.now (standing (view_of o) c.args.server.now)) (view_of o) before c.take_by.new.server s (view x)) tells (machine.take c.args.letter.from c.args.letter.msg.now (standing (view_of o) c.args.server.now)) (view_of o) before (view x)))
    c.new-2.result.store.now l.keeper.store.now l.keeper.disk.now c.args.store.now c.store-1.given.0 c.disk-1.given.0
    c.take_by.ensures.came
    (search rules) (search rules) (search rules)

pub returns-clause-spent : goal.returns-clause-spent
returns-clause-spent g c =
    let tells = g.D.Disk.tells in
    let view = g.D.Disk.view in
    let l = c.take_by.new.keeper in
    moved
    (λ (o s : Store) (x : g.row.D.Denot). IfErr c.take_by.result (λ n. Unchanged tells (machine.take c.args.letter.from c.args.letter.msg.now (standing (view_of o) c.args.server.now)) n o s (view x)))
    c.new-2.result.store.now l.keeper.store.now l.keeper.disk.now _ _ _
    c.take_by.ensures.spent
    (search rules) (search rules) (search rules)

pub returns-clause-stops : goal.returns-clause-stops
returns-clause-stops g c =
    let tells = g.D.Disk.tells in
    let view = g.D.Disk.view in
    let counts = g.D.Disk.counts in
    let k = c.new-2.result in
    let l = c.take_by.new.keeper in
    moved
    (λ (o : Store) (x y : g.row.D.Denot). IfOk c.take_by.result (λ came. StopsSo came tells (counts x).armed (view_of o) (machine.take c.args.letter.from c.args.letter.msg.now (standing (view_of o) c.args.server.now)).server.durable (view y)))
    k.store.now k.disk.now l.keeper.disk.now c.args.store.now c.args.disk.now c.disk-1.given.0
    c.take_by.ensures.stops
    (search rules) (search rules) (search rules)
