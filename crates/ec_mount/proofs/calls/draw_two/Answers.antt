use Rattle.ec_mount.proofs.Passing.{drew_one, drew_both}
use Rattle.ec_mount.proofs.calls.draw_two.Goals as goal

pub returns-in_default-clause-drew : goal.returns-in_default-clause-drew
returns-in_default-clause-drew g c =
    let a = c.split.ensures in
    drew_one c.args.clerk.now.lock c.args.pass.now c.split.new.pass a.pass a.same a.goes.1 a.own

pub returns-in_default-split-clause-drew : goal.returns-in_default-split-clause-drew
returns-in_default-split-clause-drew g c =
    let lock = c.args.clerk.now.lock in
    let a = c.split.ensures in
    let b = c.split-2.ensures in
    drew_both lock c.args.pass.now c.split.new.pass c.split-2.new.pass (drew_one lock c.args.pass.now c.split.new.pass a.pass a.same a.goes.1 a.own) (drew_one lock c.split.new.pass c.split-2.new.pass b.pass b.same b.goes.1 b.own)

pub returns-clause-drew : goal.returns-clause-drew
returns-clause-drew g c =
    let lock = c.args.clerk.now.lock in
    let a = c.split.ensures in
    let b = c.split-2.ensures in
    drew_both lock c.args.pass.now c.split.new.pass c.split-2.new.pass (drew_one lock c.args.pass.now c.split.new.pass a.pass a.same a.goes.1 a.own) (drew_one lock c.split.new.pass c.split-2.new.pass b.pass b.same b.goes.1 b.own)
