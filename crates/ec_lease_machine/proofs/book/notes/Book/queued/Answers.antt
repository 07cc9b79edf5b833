use Rattle.std.proofs.Common.{length, option_copied, sym, ap, ◌∙◌}
use Rattle.ec_base.specs.Tables.{at}
use Rattle.ec_lease_machine.specs.OfBook.Book.{Booked}
use Rattle.ec_lease_machine.proofs.OfBook.Lists.{list_at, no_list}
use Rattle.ec_lease_machine.proofs.book.notes.Book.queued.Goals as goal

pub returns-in-Some : goal.returns-in-Some
returns-in-Some c =
    let found = sym (ap (λ (b : Booked). at c.args.clerk b.queued) c.self.view_is) ∙ sym c.get.ensures ∙ ap option_copied c.in-Some.is in
    ap length (c.as_slice.ensures ∙ list_at c.args.clerk c.args.self.now.queued c.in-Some.queue.now found)

pub returns-in-None : goal.returns-in-None
returns-in-None c =
    let none = sym (ap (λ (b : Booked). at c.args.clerk b.queued) c.self.view_is) ∙ sym c.get.ensures ∙ ap option_copied c.in-None.is in
    ap length (no_list c.args.clerk c.args.self.now.queued none)
