use Rattle.std.proofs.Common.{ap, ◌∙◌, ◌++◌, ◌∷◌, []}
use Rattle.std.proofs.lemmas.Result.{on_ok_weaker}
use Rattle.ec_base.specs.Tables.{at_or, put}
use Rattle.ec_lease_machine.specs.OfBook.Book.{Booked}
use Rattle.ec_lease_machine.proofs.OfBook.Lists.{queued_in}
use Rattle.ec_lease_machine.proofs.book.notes.Book.queue.Goals as goal

pub returns : goal.returns
returns c =
    let with_one : Booked → Booked = λ b. queued_in b (put c.args.clerk (at_or [] c.args.clerk b.queued ++ (c.args.line, c.args.call) ∷ []) b.queued) in
    on_ok_weaker c.add_to.result (λ e. ap (queued_in (record { length = c.self.inside.length; most = c.self.inside.most; clock = c.self.inside.clock; skews = c.self.inside.skews; issued = c.self.inside.issued; noted = c.self.inside.noted; leases = c.self.inside.leases; queued = c.self.inside.queued })) e ∙ ap with_one c.self.view_is) c.add_to.ensures
