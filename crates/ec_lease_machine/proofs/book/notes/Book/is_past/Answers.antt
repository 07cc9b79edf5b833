use Rattle.std.proofs.Common.{◌+◌, ap, ◌∙◌}
use Rattle.std.specs.Prelude.{nat_le}
use Rattle.ec_lease_machine.specs.Leases as leases
use Rattle.ec_lease_machine.specs.OfBook.Book.{Booked, with_book}
use Rattle.ec_lease_machine.proofs.book.notes.Book.is_past.Goals as goal

pub returns : goal.returns
returns c w =
    let skew = leases.skew c.args.clerk (with_book c.args.self.now w) in
    ap (λ n. nat_le (c.args.moment + c.self.inside.most) (c.self.inside.clock + n)) (c.get.ensures.value ∙ c.skew.ensures w)
    ∙ ap (λ (b : Booked). nat_le (c.args.moment + b.most) (b.clock + skew)) c.self.view_is
