use Rattle.std.proofs.Common.{◌-◌, Some, length, sym, ap, ◌∙◌}
use Rattle.std.proofs.lemmas.Bool.{ltb-true, ltb-false}
use Rattle.std.proofs.lemmas.Option.{slice_get-get_or, slice_get_past}
use Rattle.ec_lease_machine.specs.Leases.{nth}
use Rattle.ec_lease_machine.proofs.OfBook.Lists.{nth_zero, nth_from}
use Rattle.ec_lease_machine.proofs.book.notes.nth_of.Goals as goal

pub returns-then-nth-eq0 : goal.returns-then-nth-eq0
returns-then-nth-eq0 c = sym (ap (λ n. nth n c.args.issued.now) c.if-nth-eq0.true ∙ nth_zero c.args.issued.now)

pub returns-in-Some : goal.returns-in-Some
returns-in-Some c =
    let xs = c.args.issued.now in
    let at = c.in-Some.ensures.lookup in
    sym (nth_from c.args.nth xs c.if-nth-eq0.false ∙ slice_get-get_or xs (c.args.nth - 1) c.in-Some.lease.now (ltb-true (c.args.nth - 1) (length xs) (sym at.0)) ∙ ap Some (sym at.1))

pub returns-in-None : goal.returns-in-None
returns-in-None c =
    let xs = c.args.issued.now in
    sym (nth_from c.args.nth xs c.if-nth-eq0.false ∙ slice_get_past xs (c.args.nth - 1) (ltb-false (c.args.nth - 1) (length xs) (sym c.in-None.ensures.lookup.0)))
