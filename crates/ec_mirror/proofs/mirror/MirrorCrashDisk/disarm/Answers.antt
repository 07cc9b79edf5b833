use Rattle.ec_mirror.specs.Shown.{shown_of}
use Rattle.ec_mirror.proofs.Passing.{rests-same}
use Rattle.ec_mirror.proofs.mirror.MirrorCrashDisk.disarm.Goals as goal

pub returns-clause-rests : goal.returns-clause-rests
returns-clause-rests g c told = rests-same (shown_of g.A.Disk.view g.B.Disk.view) c.args.self.now.past.items (shown_of g.A.Disk.view g.B.Disk.view c.args.self.now.parts.present)
