use Rattle.ec_mirror.proofs.Wholes.{one-of}
use Rattle.ec_mirror.proofs.mirror.Mirror.fails_where_its_disks_have.Goals as goal

pub returns-clause-both : goal.returns-clause-both
returns-clause-both g c before other first second failed both =
    let have = c.args.self.now.parts.both_failed failed both in
    (c.args.self.now.parts.present.pair.first.failed have.0 before first, c.args.self.now.parts.present.pair.second.failed have.1 other second)

pub returns-clause-one : goal.returns-clause-one
returns-clause-one g c before other first second failed =
    one-of c.args.self.now.parts.present.pair.first.has_failed c.args.self.now.parts.present.pair.second.has_failed _ _ (c.args.self.now.parts.one_failed failed)
    (λ is. c.args.self.now.parts.present.pair.first.failed is before first) (λ is. c.args.self.now.parts.present.pair.second.failed is other second)
