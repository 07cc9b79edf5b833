use Rattle.std.proofs.Common.{rules, ◌∙◌, refl, sym, subst}
use Rattle.std.specs.Prelude.{◌≡◌}
use Rattle.ec_half.specs.Contents.{stays-then}
use Rattle.ec_mirror.specs.Moments.{synced-is}
use Rattle.ec_mirror.specs.Shown.{shown_of, Syncs}
use Rattle.ec_mirror.proofs.Lives.{stays-live, given-both}
use Rattle.ec_mirror.proofs.Showing.{stays-same, stays-dropped, syncs-behind, syncs-stays}
use Rattle.ec_mirror.proofs.Wholes.{saved-both}
use Rattle.ec_disk.specs.declared.disk.DiskAnswer.TheVariants as said
use Rattle.ec_mirror.proofs.parts.Parts.sync_both.Goals as goal

pub drop_first-requires-clause-clean : goal.drop_first-requires-clause-clean
drop_first-requires-clause-clean g c told clean =
    sym ((c.args.self.now.whole c.requires.sound).alike told c.requires.whole) ∙ sym (given-both g.A.Disk.view g.B.Disk.view c.args.self.now.present.pair c.requires.whole) ∙ (c.args.self.now.whole c.requires.sound).clean told clean

pub drop_second-requires-clause-clean : goal.drop_second-requires-clause-clean
drop_second-requires-clause-clean g c told clean =
    (c.sync.ensures.stays told.0).gives ∙ sym (given-both g.A.Disk.view g.B.Disk.view c.args.self.now.present.pair c.requires.whole) ∙ (c.args.self.now.whole c.requires.sound).clean told clean

pub returns-in_default-clause-syncs : goal.returns-in_default-clause-syncs
returns-in_default-clause-syncs g c told =
    let out : c.sync.result ≡ said.Done → ⊥ = search rules in
    subst (λ n. Syncs c.settle.result (shown_of g.A.Disk.view g.B.Disk.view c.args.self.now.present) (shown_of g.A.Disk.view g.B.Disk.view n)) (sym c.settle.ensures.present)
    (syncs-stays _ _ _ (λ done. out (sym c.settle.ensures.answer ∙ done)) (stays-live g.A.Disk.view g.B.Disk.view _ _ _ _ (c.args.self.now.thawed (c.args.self.now.lives c.requires.sound)) refl (c.sync.ensures.stays told.0) (stays-same _)) (synced-is g.A.Disk.view g.B.Disk.view _ ∙ sym (synced-is g.A.Disk.view g.B.Disk.view c.args.self.now.present)))

pub returns-in-Done-drop_first-clause-syncs : goal.returns-in-Done-drop_first-clause-syncs
returns-in-Done-drop_first-clause-syncs g c told =
    syncs-behind _ _ _ _ (stays-then _ _ _ (stays-live g.A.Disk.view g.B.Disk.view _ _ _ _ (c.args.self.now.thawed (c.args.self.now.lives c.requires.sound)) refl (c.sync.ensures.stays told.0) (stays-same _)) (stays-dropped _ _ (c.drop_first.ensures.fewer told) (c.drop_first.ensures.gives told ((c.sync.ensures.stays told.0).gives ∙ ((c.args.self.now.whole c.requires.sound).alike told c.requires.whole)))))
    (c.drop_first.ensures.synced ∙ (synced-is g.A.Disk.view g.B.Disk.view _ ∙ sym (synced-is g.A.Disk.view g.B.Disk.view c.args.self.now.present))) (c.sync_second.ensures.syncs told)

pub returns-in_default-drop_first-clause-syncs : goal.returns-in_default-drop_first-clause-syncs
returns-in_default-drop_first-clause-syncs g c told =
    let out : c.drop_first.result ≡ said.Done → ⊥ = search rules in
    syncs-stays _ _ _ out (stays-then _ _ _ (stays-live g.A.Disk.view g.B.Disk.view _ _ _ _ (c.args.self.now.thawed (c.args.self.now.lives c.requires.sound)) refl (c.sync.ensures.stays told.0) (stays-same _)) (stays-dropped _ _ (c.drop_first.ensures.fewer told) (c.drop_first.ensures.gives told ((c.sync.ensures.stays told.0).gives ∙ ((c.args.self.now.whole c.requires.sound).alike told c.requires.whole)))))
    (c.drop_first.ensures.synced ∙ (synced-is g.A.Disk.view g.B.Disk.view _ ∙ sym (synced-is g.A.Disk.view g.B.Disk.view c.args.self.now.present)))

pub synced-requires-clause-saved : goal.synced-requires-clause-saved
synced-requires-clause-saved g c done = c.drop_second.ensures.saved c.in-Done-drop_second.is

pub returns-in-Done-drop_second-clause-syncs : goal.returns-in-Done-drop_second-clause-syncs
returns-in-Done-drop_second-clause-syncs g c told =
    subst (λ r. Syncs r (shown_of g.A.Disk.view g.B.Disk.view c.args.self.now.present) (shown_of g.A.Disk.view g.B.Disk.view c.synced.new.self.present)) (sym c.synced.ensures.answer)
    (syncs-behind _ _ _ _ (stays-then _ _ _ (stays-live g.A.Disk.view g.B.Disk.view _ _ _ _ (c.args.self.now.thawed (c.args.self.now.lives c.requires.sound)) refl (c.sync.ensures.stays told.0) (c.sync-2.ensures.stays told.1)) (stays-dropped _ _ (c.drop_second.ensures.fewer told) (c.drop_second.ensures.gives told)))
    (c.drop_second.ensures.synced ∙ (synced-is g.A.Disk.view g.B.Disk.view _ ∙ sym (synced-is g.A.Disk.view g.B.Disk.view c.args.self.now.present))) (c.synced.ensures.syncs told))

pub returns-in_default-drop_second-clause-syncs : goal.returns-in_default-drop_second-clause-syncs
returns-in_default-drop_second-clause-syncs g c told =
    let out : c.drop_second.result ≡ said.Done → ⊥ = search rules in
    syncs-stays _ _ _ out (stays-then _ _ _ (stays-live g.A.Disk.view g.B.Disk.view _ _ _ _ (c.args.self.now.thawed (c.args.self.now.lives c.requires.sound)) refl (c.sync.ensures.stays told.0) (c.sync-2.ensures.stays told.1)) (stays-dropped _ _ (c.drop_second.ensures.fewer told) (c.drop_second.ensures.gives told)))
    (c.drop_second.ensures.synced ∙ (synced-is g.A.Disk.view g.B.Disk.view _ ∙ sym (synced-is g.A.Disk.view g.B.Disk.view c.args.self.now.present)))

pub synced-requires-in_default-sync-clause-saved : goal.synced-requires-in_default-sync-clause-saved
synced-requires-in_default-sync-clause-saved g c done =
    let first : c.sync.result ≡ said.Done = search rules in
    saved-both _ _ _ _ c.requires.whole (λ told. c.sync.ensures.saved told.0 first) (λ told. c.sync-2.ensures.saved told.1 done) (λ told. c.sync.ensures.all_synced told.0 first) (λ told. c.sync-2.ensures.all_synced told.1 done)
    (λ told. (c.sync.ensures.stays told.0).gives ∙ ((c.args.self.now.whole c.requires.sound).alike told c.requires.whole) ∙ sym (c.sync-2.ensures.stays told.1).gives)

pub returns-in_default-sync-clause-syncs : goal.returns-in_default-sync-clause-syncs
returns-in_default-sync-clause-syncs g c told =
    subst (λ r. Syncs r (shown_of g.A.Disk.view g.B.Disk.view c.args.self.now.present) (shown_of g.A.Disk.view g.B.Disk.view c.synced-in_default-sync.new.self.present)) (sym c.synced-in_default-sync.ensures.answer)
    (syncs-behind _ _ _ _ (stays-live g.A.Disk.view g.B.Disk.view _ _ _ _ (c.args.self.now.thawed (c.args.self.now.lives c.requires.sound)) refl (c.sync.ensures.stays told.0) (c.sync-2.ensures.stays told.1)) (synced-is g.A.Disk.view g.B.Disk.view _ ∙ sym (synced-is g.A.Disk.view g.B.Disk.view c.args.self.now.present)) (c.synced-in_default-sync.ensures.syncs told))
