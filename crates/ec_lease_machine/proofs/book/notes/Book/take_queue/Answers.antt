use Rattle.std.proofs.Common.{ap, ◌∙◌}
use Rattle.ec_lease_machine.specs.Leases.{with_queue}
use Rattle.ec_lease_machine.specs.OfBook.Book.{Booked, with_book}
use Rattle.ec_lease_machine.proofs.OfBook.Lists.{back, queued_in}
use Rattle.ec_lease_machine.proofs.book.notes.Book.take_queue.Goals as goal

pub returns-clause-back : goal.returns-clause-back
returns-clause-back c qs w =
    let inside : Booked = record { length = c.self.inside.length; most = c.self.inside.most; clock = c.self.inside.clock; skews = c.self.inside.skews; issued = c.self.inside.issued; noted = c.self.inside.noted; leases = c.self.inside.leases; queued = c.self.inside.queued } in
    back c.args.clerk inside (queued_in inside c.take_list.new.lists) (ap (queued_in inside) c.take_list.ensures.left) c.take_list.ensures.sorted qs w
    ∙ ap (λ b. with_queue c.args.clerk qs (with_book b w)) c.self.view_is
