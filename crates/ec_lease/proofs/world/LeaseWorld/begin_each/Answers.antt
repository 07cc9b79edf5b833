use Rattle.std.proofs.Common.{◌≡◌, [], true, length, drop, inl, inr, sym, ap, ◌∙◌, arith}
use Rattle.std.specs.Prelude.{◌⊎◌}
use Rattle.std.proofs.lemmas.List.{drop_all}
use Rattle.ec_base.specs.Tables.{at_or}
use Rattle.ec_lease_machine.specs.OfBook.Book.{Booked}
use Rattle.ec_lease_machine.specs.Leases.{is_held}
use Rattle.ec_lease.specs.Worlds.{leased}
use Rattle.ec_lease.proofs.Queued.{all_begun}
use Rattle.ec_lease.proofs.world.LeaseWorld.begin_each.Goals.{then-queue-test+else-not-is_held, else-queue-test}
use Rattle.ec_lease.proofs.world.LeaseWorld.begin_each.Goals as goal

pub returns-clause-ok : goal.returns-clause-ok
returns-clause-ok c =
    let x = c.queue.self in
    let own = at_or [] c.args.clerk x.book.queued in
    let same = ap (λ (b : Booked). length (at_or [] c.args.clerk b.queued)) c.queue.invariant.book in
    let none : (drop c.queue.begun own ≡ []) ⊎ (is_held c.args.clerk (leased x) ≡ true) = elim c.queue-test.branch [
      | then-queue-test+else-not-is_held w ↦ inr (sym w.is_held.ensures ∙ w.if-not-is_held.false)
      | else-queue-test w ↦ inl (drop_all c.queue.begun own (omega (arith, w.queue-test.false, same, c.queued-count.ensures)))
    ] in
    all_begun c.told.result c.leave_behind.result c.args.clerk c.queue.begun c.args.self.now x c.leave_behind.new.self c.queue.invariant.begins none c.told.ensures.ok c.leave_behind.ensures
