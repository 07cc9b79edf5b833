use Rattle.std.proofs.Common.{sym, subst}
use Rattle.std.specs.Prelude.{length}
use Rattle.ec_disk.specs.Effects.{InRange}
use Rattle.ec_half.specs.Contents.{Loosened, loosened-same}
use Rattle.ec_mirror.specs.Shown.{shown_of}
use Rattle.ec_mirror.proofs.parts.Parts.write.Goals as goal

pub returns-then-not-self-clause-loosened : goal.returns-then-not-self-clause-loosened
returns-then-not-self-clause-loosened g c told =
    loosened-same (InRange c.args.at (length c.args.piece.now)) _

pub returns-in-Leaving-clause-loosened : goal.returns-in-Leaving-clause-loosened
returns-in-Leaving-clause-loosened g c told =
    subst (λ n. Loosened (InRange c.args.at (length c.args.piece.now)) (shown_of g.A.Disk.view g.B.Disk.view c.args.self.now.present) (shown_of g.A.Disk.view g.B.Disk.view n)) (sym c.refuse.ensures.present) (loosened-same (InRange c.args.at (length c.args.piece.now)) _)
