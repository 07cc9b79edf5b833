use Rattle.std.proofs.Common.{◌∙◌}
use Rattle.std.proofs.lemmas.Result.{on_ok_weaker}
use Rattle.ec_lease_machine.proofs.OfBook.Lists.{added}
use Rattle.ec_lease_machine.proofs.book.queues.add_to.Goals as goal

pub returns : goal.returns
returns g c =
    on_ok_weaker c.insert.result (λ is. added c.args.clerk c.args.item c.args.lists.now c.take_list-own.new.lists c.insert.new.self c.take_list-own.result.items c.of.result c.take_list-own.ensures.sorted c.take_list-own.ensures.own c.take_list-own.ensures.left (c.of.ensures ∙ c.in_ok-push.ensures.items) is) c.insert.ensures.ok
