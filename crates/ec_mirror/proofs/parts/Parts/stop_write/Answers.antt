use Rattle.std.specs.Prelude.{length}
use Rattle.ec_disk.specs.Effects.{InRange}
use Rattle.ec_half.specs.Contents.{loosened-same}
use Rattle.ec_mirror.specs.Shown.{shown_of}
use Rattle.ec_mirror.proofs.parts.Parts.stop_write.Goals as goal

pub returns-then-self-clause-loosened : goal.returns-then-self-clause-loosened
returns-then-self-clause-loosened g c told =
    loosened-same (InRange c.args.at (length c.args.piece.now)) (shown_of g.A.Disk.view g.B.Disk.view c.args.self.now.present)
