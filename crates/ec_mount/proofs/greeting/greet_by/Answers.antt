use Rattle.std.proofs.Common.{[], sym, ◌∙◌}
use Rattle.ec_outs.proofs.Told.{added-nil}
use Rattle.ec_mount.proofs.Unsent.{got_same, sent_all}
use Rattle.ec_mount.proofs.greeting.greet_by.Goals as goal

pub returns-in_err-bell-clause-got : goal.returns-in_err-bell-clause-got
returns-in_err-bell-clause-got g c = (0, c.bell.ensures.bodies.1 ∙ sym (added-nil (g.L.Link.got c.args.link.now)))

pub returns-in-Done-clause-got : goal.returns-in-Done-clause-got
returns-in-Done-clause-got g c = (c.send_all-end.result.0, got_same c.send_all-end.result.0 (g.L.Link.got c.args.link.now) (g.L.Link.got c.bell.new.self) (g.L.Link.got c.send_all-end.new.link) c.args.outs.now c.bell.ensures.bodies.1 c.send_all-end.ensures.sent)

pub returns-in-Done-clause-ok : goal.returns-in-Done-clause-ok
returns-in-Done-clause-ok g c =
    sent_all c.send_all-end.result.0 (g.L.Link.got c.args.link.now) (g.L.Link.got c.send_all-end.new.link) c.args.outs.now
    (got_same c.send_all-end.result.0 (g.L.Link.got c.args.link.now) (g.L.Link.got c.bell.new.self) (g.L.Link.got c.send_all-end.new.link) c.args.outs.now c.bell.ensures.bodies.1 c.send_all-end.ensures.sent) (c.send_all-end.ensures.whole c.in-Done.is)

pub returns-in-Failed-clause-got : goal.returns-in-Failed-clause-got
returns-in-Failed-clause-got g c = (c.send_all-end.result.0, got_same c.send_all-end.result.0 (g.L.Link.got c.args.link.now) (g.L.Link.got c.bell.new.self) (g.L.Link.got c.send_all-end.new.link) c.args.outs.now c.bell.ensures.bodies.1 c.send_all-end.ensures.sent)

pub returns-in-NoMemory-clause-got : goal.returns-in-NoMemory-clause-got
returns-in-NoMemory-clause-got g c = (c.send_all-end.result.0, got_same c.send_all-end.result.0 (g.L.Link.got c.args.link.now) (g.L.Link.got c.bell.new.self) (g.L.Link.got c.send_all-end.new.link) c.args.outs.now c.bell.ensures.bodies.1 c.send_all-end.ensures.sent)
