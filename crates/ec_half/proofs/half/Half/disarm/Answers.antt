use Rattle.ec_half.specs.Contents.{behind-rests}
use Rattle.ec_half.proofs.half.Half.disarm.Goals as goal

pub returns-clause-rests : goal.returns-clause-rests
returns-clause-rests g c told = behind-rests (g.D.Disk.view c.args.self.now.disk.now) (g.D.Disk.view c.disarm.new.self) (c.disarm.ensures.rests told) (c.disarm.ensures.kept told)
