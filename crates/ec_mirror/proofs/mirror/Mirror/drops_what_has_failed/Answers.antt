use Rattle.ec_mirror.proofs.mirror.Mirror.drops_what_has_failed.Goals as goal

pub returns-clause-first : goal.returns-clause-first
returns-clause-first g c before is alone =
    c.args.self.now.parts.present.pair.first.failed (c.args.self.now.parts.without_first alone) before is

pub returns-clause-leaving : goal.returns-clause-leaving
returns-clause-leaving g c before is leaving =
    c.args.self.now.parts.present.pair.first.failed (c.args.self.now.parts.leaving leaving) before is

pub returns-clause-second : goal.returns-clause-second
returns-clause-second g c before is alone =
    c.args.self.now.parts.present.pair.second.failed (c.args.self.now.parts.without_second alone) before is
