use Rattle.std.proofs.Common.{Err, rules}
use Rattle.ec_lock.specs.PassViews.{first}
use Rattle.ec_servernode.specs.Node.{queue_at}
use Rattle.ec_servernode.specs.declared.shared.Turned.TheVariants as turned
use Rattle.ec_attend.proofs.Bodies.{turned_pass, turned_as, failed_as, replaced_as}
use Rattle.ec_attend.proofs.connection.turn.Goals as goal

pub returns-in-Ok-Took-clause-goes : goal.returns-in-Ok-Took-clause-goes
returns-in-Ok-Took-clause-goes g c =
    let old = c.args.pass.now in
    turned_as g.L.Link.given g.L.Link.got g.L.Link.faults g.L.Link.closes g.L.Link.held g.L.Link.clear (queue_at (first c.args.server.now.lock).boxes.items) old.caller old.pass c.serve_one.new.pass.pass c.args.link.now c.serve_one.new.link
    c.in-Ok-Took.field-0 (turned.Took c.in-Ok-Took.told) (search rules) c.serve_one.ensures.same c.in-Ok-Took.ensures.serves c.requires.served

pub returns-in-Ok-Gave-clause-goes : goal.returns-in-Ok-Gave-clause-goes
returns-in-Ok-Gave-clause-goes g c =
    let old = c.args.pass.now in
    turned_as g.L.Link.given g.L.Link.got g.L.Link.faults g.L.Link.closes g.L.Link.held g.L.Link.clear (queue_at (first c.args.server.now.lock).boxes.items) old.caller old.pass c.serve_one.new.pass.pass c.args.link.now c.serve_one.new.link
    c.in-Ok-Gave.field-0 turned.Gave (search rules) c.serve_one.ensures.same c.in-Ok-Gave.ensures.serves c.requires.served

pub returns-in-Ok-Idle-clause-goes : goal.returns-in-Ok-Idle-clause-goes
returns-in-Ok-Idle-clause-goes g c =
    let old = c.args.pass.now in
    turned_as g.L.Link.given g.L.Link.got g.L.Link.faults g.L.Link.closes g.L.Link.held g.L.Link.clear (queue_at (first c.args.server.now.lock).boxes.items) old.caller old.pass c.serve_one.new.pass.pass c.args.link.now c.serve_one.new.link
    c.in-Ok-Idle.field-0 turned.Idle (search rules) c.serve_one.ensures.same c.in-Ok-Idle.ensures.serves c.requires.served

pub returns-in-Ok-Busy-clause-goes : goal.returns-in-Ok-Busy-clause-goes
returns-in-Ok-Busy-clause-goes g c =
    let old = c.args.pass.now in
    turned_as g.L.Link.given g.L.Link.got g.L.Link.faults g.L.Link.closes g.L.Link.held g.L.Link.clear (queue_at (first c.args.server.now.lock).boxes.items) old.caller old.pass c.serve_one.new.pass.pass c.args.link.now c.serve_one.new.link
    c.in-Ok-Busy.field-0 turned.Busy (search rules) c.serve_one.ensures.same c.in-Ok-Busy.ensures.serves c.requires.served

pub returns-in-Ok-Replaced-clause-over : goal.returns-in-Ok-Replaced-clause-over
returns-in-Ok-Replaced-clause-over g c =
    replaced_as g.K.Keeper.kept c.args.server.now.lock g.L.Link.faults g.L.Link.closes g.L.Link.given g.L.Link.got g.L.Link.held g.L.Link.clear (queue_at (first c.args.server.now.lock).boxes.items) c.args.pass.now c.serve_one.new.pass.pass c.args.link.now c.serve_one.new.link
    c.in-Ok-Replaced.field-0 (search rules) c.requires.pass c.serve_one.ensures.same c.in-Ok-Replaced.ensures.serves

pub returns-in-Ok-Replaced-clause-served : goal.returns-in-Ok-Replaced-clause-served
returns-in-Ok-Replaced-clause-served g c =
    let old = c.args.pass.now in
    turned_as g.L.Link.given g.L.Link.got g.L.Link.faults g.L.Link.closes g.L.Link.held g.L.Link.clear (queue_at (first c.args.server.now.lock).boxes.items) old.caller old.pass c.serve_one.new.pass.pass c.args.link.now c.serve_one.new.link
    c.in-Ok-Replaced.field-0 turned.Replaced (search rules) c.serve_one.ensures.same c.in-Ok-Replaced.ensures.serves c.requires.served

pub returns-in-Ok-Closed-clause-served : goal.returns-in-Ok-Closed-clause-served
returns-in-Ok-Closed-clause-served g c =
    let old = c.args.pass.now in
    turned_as g.L.Link.given g.L.Link.got g.L.Link.faults g.L.Link.closes g.L.Link.held g.L.Link.clear (queue_at (first c.args.server.now.lock).boxes.items) old.caller old.pass c.serve_one.new.pass.pass c.args.link.now c.serve_one.new.link
    c.in-Ok-Closed.field-0 turned.Closed (search rules) c.serve_one.ensures.same c.in-Ok-Closed.ensures.serves c.requires.served

pub returns-in-Err-clause-served : goal.returns-in-Err-clause-served
returns-in-Err-clause-served g c =
    let old = c.args.pass.now in
    turned_pass g.L.Link.given g.L.Link.got g.L.Link.faults g.L.Link.closes g.L.Link.held g.L.Link.clear (queue_at (first c.args.server.now.lock).boxes.items) old.caller old.pass c.serve_one.new.pass.pass c.args.link.now c.serve_one.new.link
    (Err c.in-Err.fault) c.serve_one.ensures.same c.in-Err.ensures.serves c.requires.served

pub take_rest-requires-clause-served : goal.take_rest-requires-clause-served
take_rest-requires-clause-served g c κs within =
    let old = c.args.pass.now in
    failed_as g.L.Link.given g.L.Link.got g.L.Link.faults g.L.Link.closes g.L.Link.held (queue_at (first c.args.server.now.lock).boxes.items) old.caller old.pass c.serve_one.new.pass.pass c.args.link.now c.serve_one.new.link
    c.in-Err-Net.field-0 (search rules) c.serve_one.ensures.same c.in-Err-Net.ensures.serves c.requires.served
