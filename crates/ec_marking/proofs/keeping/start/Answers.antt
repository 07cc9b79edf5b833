use Rattle.std.proofs.Common.{rules, ◌≡◌}
use Rattle.std.specs.Prelude.{IfOk}
use Rattle.ec_protocol.specs.Server as machine
use Rattle.ec_server.specs.Servers.{standing}
use Rattle.ec_store.specs.Store.{view_of}
use Rattle.ec_store.specs.declared.store.Store.{Store}
use Rattle.ec_marking.specs.Keeping.{IsDone, CameOf}
use Rattle.ec_marking.proofs.keeping.start.Goals as goal
use Rattle.ec_base.proofs.Equalities.{moved}

pub returns-clause-came : goal.returns-clause-came
returns-clause-came g c =
    let tells = g.D.Disk.tells in
    let view = g.D.Disk.view in
    let before = c.args.records.now.items in
    let l = c.start_by.new.keeper in
    moved
    (λ (o s : Store) (x : g.row.D.Denot). IfOk c.start_by.result (CameOf (λ made. IsDone tells (machine.start (view_of o)) (view_of o) before made.0 s (view x) made.1) tells (machine.start (view_of o)) (view_of o) before (view x)))
    c.new-2.result.store.now l.keeper.store.now l.keeper.disk.now c.args.store.now c.store-1.given.0 c.disk-1.given.0
    c.start_by.ensures.came
    (search rules) (search rules) (search rules)
