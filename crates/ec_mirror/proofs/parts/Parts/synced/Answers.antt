use Rattle.std.proofs.Common.{rules, refl, sym, subst}
use Rattle.std.specs.Prelude.{◌≡◌}
use Rattle.ec_mirror.specs.Shown.{shown_of, Syncs}
use Rattle.ec_mirror.proofs.Showing.{stays-same, syncs-stays}
use Rattle.ec_disk.specs.declared.disk.DiskAnswer.TheVariants as said
use Rattle.ec_mirror.proofs.parts.Parts.synced.Goals as goal

pub returns-then-ne-clause-syncs : goal.returns-then-ne-clause-syncs
returns-then-ne-clause-syncs g c told =
    let out : c.args.answer ≡ said.Done → ⊥ = search rules in
    subst (λ n. Syncs c.args.answer (shown_of g.A.Disk.view g.B.Disk.view c.args.self.now.present) (shown_of g.A.Disk.view g.B.Disk.view n)) (sym c.settle.ensures.present) (syncs-stays _ _ _ out (stays-same _) refl)

pub returns-clause-syncs : goal.returns-clause-syncs
returns-clause-syncs g c told =
    let done : c.args.answer ≡ said.Done = search rules in
    record { stays = record { gives = c.save.ensures.gives; crash = (c.save.ensures.fewer told).crash }; all_synced = λ e. c.save.ensures.synced told; saved = λ e. c.save.ensures.saved; unsaved = λ out. absurd (out done) }
