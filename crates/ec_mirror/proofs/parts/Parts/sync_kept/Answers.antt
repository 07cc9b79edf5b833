use Rattle.std.proofs.Common.{◌∙◌, refl, sym, subst}
use Rattle.ec_mirror.specs.Shown.{shown_of, Syncs}
use Rattle.ec_mirror.proofs.Showing.{stays-same, syncs-stays, memory-not-done}
use Rattle.ec_mirror.proofs.parts.Parts.sync_kept.Goals as goal

pub returns-then-not-self-clause-syncs : goal.returns-then-not-self-clause-syncs
returns-then-not-self-clause-syncs g c told = syncs-stays _ _ _ memory-not-done (stays-same _) refl

pub returns-in-Leaving-clause-syncs : goal.returns-in-Leaving-clause-syncs
returns-in-Leaving-clause-syncs g c told =
    subst (λ n. Syncs c.refuse.result (shown_of g.A.Disk.view g.B.Disk.view c.args.self.now.present) (shown_of g.A.Disk.view g.B.Disk.view n)) (sym c.refuse.ensures.present)
    (syncs-stays _ _ _ (λ done. memory-not-done (sym c.refuse.ensures.answer ∙ done)) (stays-same _) refl)
