use Rattle.std.proofs.Common.{◌∙◌, refl, sym, subst}
use Rattle.ec_mirror.specs.Moments.{synced-is}
use Rattle.ec_mirror.specs.Shown.{shown_of, Syncs}
use Rattle.ec_mirror.proofs.Lives.{stays-live}
use Rattle.ec_mirror.proofs.Showing.{stays-same, syncs-behind}
use Rattle.ec_mirror.proofs.Wholes.{saved-first}
use Rattle.ec_mirror.proofs.parts.Parts.sync_first.Goals as goal

pub synced-requires-clause-saved : goal.synced-requires-clause-saved
synced-requires-clause-saved g c done =
    saved-first _ _ _ _ c.requires.kept (λ told. c.sync-answer.ensures.saved told.0 done) (λ told. c.sync-answer.ensures.all_synced told.0 done)

pub returns-clause-syncs : goal.returns-clause-syncs
returns-clause-syncs g c told =
    subst (λ r. Syncs r (shown_of g.A.Disk.view g.B.Disk.view c.args.self.now.present) (shown_of g.A.Disk.view g.B.Disk.view c.synced.new.self.present)) (sym c.synced.ensures.answer)
    (syncs-behind _ _ _ _ (stays-live g.A.Disk.view g.B.Disk.view _ _ _ _ (c.args.self.now.thawed (c.args.self.now.lives c.requires.sound)) refl (c.sync-answer.ensures.stays told.0) (stays-same _)) (synced-is g.A.Disk.view g.B.Disk.view _ ∙ sym (synced-is g.A.Disk.view g.B.Disk.view c.args.self.now.present)) (c.synced.ensures.syncs told))
