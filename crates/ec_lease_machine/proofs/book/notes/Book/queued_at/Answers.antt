use Rattle.std.proofs.Common.{[], length, option_copied, sym, ap, ◌∙◌, arith}
use Rattle.std.proofs.lemmas.Bool.{ltb-true, ltb-false}
use Rattle.ec_base.specs.Tables.{at, at_or}
use Rattle.ec_lease_machine.specs.OfBook.Book.{Booked}
use Rattle.ec_lease_machine.proofs.OfBook.Lists.{list_at, no_list, queued_is}
use Rattle.ec_lease_machine.proofs.book.notes.Book.queued_at.Goals as goal

pub unreachable-requires : goal.unreachable-requires
unreachable-requires c =
    let none = sym (ap (λ (b : Booked). at c.args.clerk b.queued) c.self.view_is) ∙ sym c.get.ensures ∙ ap option_copied c.in_default.is in
    omega (arith, c.requires, ap length (no_list c.args.clerk c.args.self.now.queued none))

pub unreachable-requires-in-None : goal.unreachable-requires-in-None
unreachable-requires-in-None c =
    let found = sym (ap (λ (b : Booked). at c.args.clerk b.queued) c.self.view_is) ∙ sym c.get.ensures ∙ ap option_copied c.in-Some.is in
    let same = c.as_slice.ensures ∙ list_at c.args.clerk c.args.self.now.queued c.in-Some.queue.now found in
    omega (arith, c.requires, ap length same, ltb-false c.args.count (length c.as_slice.result.now) (sym c.in-None.ensures.lookup.0))

pub returns : goal.returns
returns c =
    let found = sym (ap (λ (b : Booked). at c.args.clerk b.queued) c.self.view_is) ∙ sym c.get.ensures ∙ ap option_copied c.in-Some.is in
    let same = c.as_slice.ensures ∙ list_at c.args.clerk c.args.self.now.queued c.in-Some.queue.now found in
    let there = c.in-Some-get.ensures.lookup in
    queued_is c.args.count c.as_slice.result.now (at_or [] c.args.clerk c.args.self.now.queued) c.in-Some-get.queued.now c.in_ok-duplicate-in-Some-get.field-0
    same (ltb-true c.args.count (length c.as_slice.result.now) (sym there.0)) there.1 c.in_ok-duplicate-in-Some-get.ensures
