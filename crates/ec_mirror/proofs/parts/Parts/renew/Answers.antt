use Rattle.std.proofs.Common.{sym, subst}
use Rattle.ec_half.specs.Contents.{Fewer}
use Rattle.ec_mirror.specs.Shown.{shown_of}
use Rattle.ec_mirror.proofs.Showing.{fewer-same}
use Rattle.ec_mirror.proofs.parts.Parts.renew.Goals as goal

pub returns-then-self-ge-MOST-clause-fewer : goal.returns-then-self-ge-MOST-clause-fewer
returns-then-self-ge-MOST-clause-fewer g c told =
    subst (λ n. Fewer (shown_of g.A.Disk.view g.B.Disk.view c.args.self.now.present) (shown_of g.A.Disk.view g.B.Disk.view n)) (sym c.refuse.ensures.present) (fewer-same _)

pub returns-in-Leaving-clause-fewer : goal.returns-in-Leaving-clause-fewer
returns-in-Leaving-clause-fewer g c told =
    subst (λ n. Fewer (shown_of g.A.Disk.view g.B.Disk.view c.args.self.now.present) (shown_of g.A.Disk.view g.B.Disk.view n)) (sym c.refuse-in-Leaving.ensures.present) (fewer-same _)
