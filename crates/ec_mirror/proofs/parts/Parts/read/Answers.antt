use Rattle.std.proofs.Common.{sym, subst}
use Rattle.ec_half.specs.Contents.{Rested, rested-same}
use Rattle.ec_mirror.specs.Shown.{shown_of}
use Rattle.ec_mirror.proofs.parts.Parts.read.Goals as goal

pub returns-then-not-self-clause-rests : goal.returns-then-not-self-clause-rests
returns-then-not-self-clause-rests g c told = rested-same _

pub returns-in-Leaving-clause-rests : goal.returns-in-Leaving-clause-rests
returns-in-Leaving-clause-rests g c told =
    subst (λ n. Rested (shown_of g.A.Disk.view g.B.Disk.view c.args.self.now.present) (shown_of g.A.Disk.view g.B.Disk.view n)) (sym c.refuse.ensures.present) (rested-same _)
