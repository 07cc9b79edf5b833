use Rattle.std.proofs.Common.{◌≡◌, ◌+◌, ◌≤◌, length, arith}
use Rattle.ec_half.proofs.Halves.{half-inside, some_is, if_some}
use Rattle.ec_half.proofs.half.Half.place_of.Goals as goal

pub returns-clause-inside : goal.returns-clause-inside
returns-clause-inside g c =
    let now = g.D.Disk.view c.args.self.now.disk.now in
    let ends : c.in_ok-end.end ≡ c.args.at + c.args.count = some_is c.checked_add.result _ (c.args.at + c.args.count) c.in_ok-end.end c.checked_add.ensures c.in_ok-end.was in
    if_some c.checked_add-2.result _ (c.args.at + 4096) (λ place. g.D.Disk.tells → place + c.args.count ≤ length now.gives) c.checked_add-2.ensures
    (λ told. half-inside c.in_ok-self.field-0 c.args.at c.args.count now (c.args.self.now.whole c.in_ok-self.field-0 c.in_ok-self.was told) (g.met.D.Disk.given told c.args.self.now.disk.now)
    (omega (arith, ends, c.if-branch.false)))
