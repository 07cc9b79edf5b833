use Rattle.ec_mirror.proofs.Lives.{gives-by-first, gives-by-second}
use Rattle.ec_mirror.proofs.mirror.Mirror.gives_what_the_survivor_gives.Goals as goal

pub returns-clause-first : goal.returns-clause-first
returns-clause-first g c told live alone =
    gives-by-first g.A.Disk.view g.B.Disk.view _ c.args.self.now.parts.present.pair _ (c.args.self.now.parts.thawed live) alone

pub returns-clause-second : goal.returns-clause-second
returns-clause-second g c told live alone =
    gives-by-second g.A.Disk.view g.B.Disk.view _ c.args.self.now.parts.present.pair _ (c.args.self.now.parts.thawed live) alone
