use Rattle.ec_world.specs.Worlds as worlds
use Rattle.ec_lease.specs.Worlds.{leased}
use Rattle.ec_lease.proofs.Renewing.{comes, not_renewed, renewed}
use Rattle.ec_lease.proofs.world.LeaseWorld.renew_in.Goals as goal

pub returns-then-not-may_renew-clause-ok : goal.returns-then-not-may_renew-clause-ok
returns-then-not-may_renew-clause-ok c =
    let w = worlds.view_of c.args.self.now.world in
    not_renewed c.args.clerk c.args.session (leased c.args.self.now) c.lease-lease.result c.may_renew.result c.may_renew.ensures (c.lease-lease.ensures w) c.if-not-may_renew.true

pub returns-clause-ok : goal.returns-clause-ok
returns-clause-ok c =
    let x = c.args.self.now in
    let w = worlds.view_of x.world in
    renewed c.receive.result c.args.clerk c.args.session (leased x) (leased (record x { book = c.receive.new.self })) c.lease-lease.result c.may_renew.result c.may_renew.ensures (c.lease-lease.ensures w) c.if-not-may_renew.false
    (comes c.receive.result c.args.clerk c.args.session c.lease-lease.result x.book c.issue.new.self c.receive.new.self w (c.lease-lease.ensures w) c.in_ok-issue.ensures c.receive.ensures)
