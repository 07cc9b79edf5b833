use Rattle.std.proofs.Common.{◌≡◌, false, sym, ap, subst, ◌∙◌}
use Rattle.std.specs.Prelude.{◌==◌}
use Rattle.std.proofs.lemmas.Result.{on_ok_weaker}
use Rattle.ec_base.specs.Tables.{put}
use Rattle.ec_lease_machine.specs.OfBook.Book.{Booked, with_book}
use Rattle.ec_lease_machine.proofs.OfBook.Lists.{queue_left, queued_in}
use Rattle.ec_lease_machine.proofs.book.notes.Book.set_queue.Goals as goal

pub returns : goal.returns
returns c =
    let with_these : Booked → Booked = λ b. queued_in b (put c.args.clerk c.args.queue.items b.queued) in
    let inside : Booked = record { length = c.self.inside.length; most = c.self.inside.most; clock = c.self.inside.clock; skews = c.self.inside.skews; issued = c.self.inside.issued; noted = c.self.inside.noted; leases = c.self.inside.leases; queued = c.self.inside.queued } in
    on_ok_weaker c.insert.result (λ e w. queue_left c.args.clerk c.args.queue.items (with_book c.args.self.now w) (subst (λ n. (n == 0) ≡ false) c.args.queue.ok.0 (sym c.is_empty.ensures ∙ c.if-is_empty.false)) ∙ ap (λ b. with_book b w) (sym (ap with_these c.self.view_is) ∙ sym (ap (queued_in inside) (e ∙ ap (λ xs. put c.args.clerk xs c.self.inside.queued) c.of.ensures)))) c.insert.ensures.ok
