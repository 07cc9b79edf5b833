use Rattle.std.proofs.Common.{◌++◌, ◌∷◌, [], sym, ap, ◌∙◌}
use Rattle.std.proofs.lemmas.Result.{on_ok_weaker}
use Rattle.ec_base.specs.Tables.{at_or, put}
use Rattle.ec_lease_machine.specs.Leases.{lease, note}
use Rattle.ec_lease_machine.specs.declared.world.Lease.{Lease}
use Rattle.ec_lease_machine.specs.declared.world.LeaseWorld.{LeaseWorld}
use Rattle.ec_lease_machine.specs.OfBook.Book.{Booked, with_book}
use Rattle.ec_lease_machine.proofs.OfBook.Lists.{issued_in}
use Rattle.ec_lease_machine.proofs.book.notes.Book.issue.Goals as goal

pub returns : goal.returns
returns c =
    let inside : Booked = record { length = c.self.inside.length; most = c.self.inside.most; clock = c.self.inside.clock; skews = c.self.inside.skews; issued = c.self.inside.issued; noted = c.self.inside.noted; leases = c.self.inside.leases; queued = c.self.inside.queued } in
    let with_one : Booked → Lease → Booked = λ b a. issued_in b (put c.args.clerk (at_or [] c.args.clerk b.issued ++ a ∷ []) b.issued) in
    on_ok_weaker c.note.result (λ e w.
    let noted : Booked → LeaseWorld = λ b. note c.args.clerk (lease c.args.session (with_book b w)) (with_book b w) in
    sym (ap noted (ap (issued_in inside) c.in_ok-add_to.ensures ∙ ap (λ b. with_one b c.lease-lease.result) c.self.view_is ∙ ap (with_one c.args.self.now) (c.lease-lease.ensures w))) ∙ e w) c.note.ensures
