use Rattle.std.proofs.Common.{sym, ap, ◌∙◌}
use Rattle.ec_base.specs.Tables.{at}
use Rattle.ec_lease_machine.specs.Leases.{has_run_out, moment_in}
use Rattle.ec_lease_machine.specs.OfBook.Book.{Booked, with_book}
use Rattle.ec_lease_machine.proofs.book.notes.Book.has_run_out.Goals as goal

pub returns-in-Some : goal.returns-in-Some
returns-in-Some c w =
    c.is_past.ensures w
    ∙ ap (λ o. has_run_out c.args.clerk o (with_book c.args.self.now w)) (sym c.in-Some.is ∙ c.moment_in.ensures.value ∙ ap (moment_in c.args.session) c.get.ensures ∙ ap (λ (b : Booked). moment_in c.args.session (at c.args.clerk b.leases)) c.self.view_is)
