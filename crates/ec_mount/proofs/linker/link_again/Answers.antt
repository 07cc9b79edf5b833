use Rattle.std.proofs.Common.{◌+◌}
use Rattle.ec_lock.specs.PassViews.{first}
use Rattle.ec_mount.proofs.Linking.{linked_turned, linked_both, more_around}
use Rattle.ec_mount.proofs.linker.link_again.Goals as goal

pub returns-clause-linked : goal.returns-clause-linked
returns-clause-linked g c =
    let one = linked_turned c.args.clerk.now.lock c.args.pass.now c.lasts.new.pass c.lasts.ensures.turned in
    let two = linked_both c.args.clerk.now.lock c.args.pass.now c.lasts.new.pass c.keep_linked-result.new.pass one c.keep_linked-result.ensures.linked in
    linked_both c.args.clerk.now.lock c.args.pass.now c.keep_linked-result.new.pass c.lasts-2.new.pass two (linked_turned c.args.clerk.now.lock c.keep_linked-result.new.pass c.lasts-2.new.pass c.lasts-2.ensures.turned)

pub returns-clause-more : goal.returns-clause-more
returns-clause-more g c =
    more_around (λ l. g.M.Link.Link.faults l + g.M.Link.Link.closes l) g.M.Link.Link.given g.M.Link.Link.got (first c.args.clerk.now.lock) c.args.clerk.now.lock c.args.pass.now c.lasts.new.pass c.keep_linked-result.new.pass c.lasts-2.new.pass (record { faults = g.M.Lending.faults c.args.net.now; bad = g.M.Lending.bad c.args.net.now; ended = g.M.Lending.ended c.args.net.now }) (record { faults = g.M.Lending.faults c.keep_linked-result.new.net; bad = g.M.Lending.bad c.keep_linked-result.new.net; ended = g.M.Lending.ended c.keep_linked-result.new.net }) c.keep_linked-result.result
    c.lasts.ensures.turned c.lasts.ensures.same c.keep_linked-result.ensures.linked c.keep_linked-result.ensures.more c.lasts-2.ensures.turned c.lasts-2.ensures.same
