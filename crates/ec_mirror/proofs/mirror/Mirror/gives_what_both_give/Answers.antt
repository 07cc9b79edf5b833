use Rattle.std.proofs.Common.{◌∙◌}
use Rattle.ec_mirror.proofs.Lives.{gives-by-both}
use Rattle.ec_mirror.proofs.mirror.Mirror.gives_what_both_give.Goals as goal

pub returns-clause-first : goal.returns-clause-first
returns-clause-first g c told sound both =
    gives-by-both g.A.Disk.view g.B.Disk.view _ c.args.self.now.parts.present.pair _ (c.args.self.now.parts.thawed (c.args.self.now.parts.lives sound)) both

pub returns-clause-second : goal.returns-clause-second
returns-clause-second g c told sound both =
    gives-by-both g.A.Disk.view g.B.Disk.view _ c.args.self.now.parts.present.pair _ (c.args.self.now.parts.thawed (c.args.self.now.parts.lives sound)) both ∙ (c.args.self.now.parts.whole sound).alike told both
