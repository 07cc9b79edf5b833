use Rattle.std.proofs.Common.{rules, ap}
use Rattle.std.specs.Prelude.{◌≡◌, false}
use Rattle.ec_disk.specs.Choices.{cut}
use Rattle.ec_mirror.specs.Shown.{first_of, second_of, given_by, saved_by}
use Rattle.ec_mirror.proofs.Showing.{lead-saved}
use Rattle.ec_mirror.proofs.parts.Parts.may_leave.Goals as goal

pub returns-clause-leaves : goal.returns-clause-leaves
returns-clause-leaves g c is told =
    let live : c.args.self.now.is_dead ≡ false = search rules in
    let behind : c.args.self.now.is_ahead ≡ false = search rules in
    ap (λ s. cut c.args.choice (given_by g.A.Disk.view g.B.Disk.view c.args.self.now.present.pair) s)
    (lead-saved c.args.self.now.present.pair.kept (first_of g.A.Disk.view g.B.Disk.view c.args.self.now.present.pair) (second_of g.A.Disk.view g.B.Disk.view c.args.self.now.present.pair) (saved_by g.A.Disk.view g.B.Disk.view c.args.self.now.present.saved.items) (c.args.self.now.stands live) (c.args.self.now.first_saved live behind told) (c.args.self.now.second_saved live behind told))
